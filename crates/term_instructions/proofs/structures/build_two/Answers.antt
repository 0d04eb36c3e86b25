use Rattle.std.proofs.Common.{[], ◌∷◌, ◌∙◌, sym, subst, arith}
use Rattle.code_safety.specs.Safety.{IsSafe}
use Rattle.term_instructions.specs.WriteMode.{IsGatheredTo, GathersTwo}
use Rattle.term_instructions.proofs.BoundStructures.{built_from}
use Rattle.term_instructions.proofs.structures.build_two.Goals as goal

pub gather_two-requires-clause-safe : goal.gather_two-requires-clause-safe
gather_two-requires-clause-safe g c = subst (λ k. IsSafe c.args.code.now c.args.branch.now c.args.from k c.args.areas.now) c.requires.two c.requires.safe

pub bind_gathered-requires : goal.bind_gathered-requires
bind_gathered-requires g c =
    let k =
    subst (λ n. IsGatheredTo c.args.code.now n c.args.branch.now c.args.from c.args.areas.now [] c.gather_two.new.branch c.in-Pair.next c.gather_two.new.areas
    (c.in-Pair.a ∷ c.in-Pair.b ∷ [])) (sym c.requires.two)
    (subst (GathersTwo c.args.code.now c.args.branch.now c.args.from c.args.areas.now c.gather_two.new.branch c.gather_two.new.areas
    c.gather_two.new.cells.items) c.in-Pair.is c.in_ok-a.ensures) in
    record {
      name = c.requires.name;
      atoms = k.safe.atoms;
      sound = k.safe.sound;
      own = k.own;
      all = sym c.requires.two;
      there = (let low = c.requires.there in let more = k.grown.longer in omega (arith, low, more));
      «open» = k.grown.slots c.args.var ∙ c.requires.«open»;
      untold = c.requires.untold;
    }

pub returns-in-Pair : goal.returns-in-Pair
returns-in-Pair g c =
    built_from c.args.code.now c.args.functor.0 c.args.functor.1 c.args.var c.args.branch.now c.args.from c.args.areas.now c.requires.there
    c.gather_two.new.branch c.in-Pair.next c.gather_two.new.areas (c.in-Pair.a ∷ c.in-Pair.b ∷ [])
    (subst (λ n. IsGatheredTo c.args.code.now n c.args.branch.now c.args.from c.args.areas.now [] c.gather_two.new.branch c.in-Pair.next
    c.gather_two.new.areas (c.in-Pair.a ∷ c.in-Pair.b ∷ [])) (sym c.requires.two)
    (subst (GathersTwo c.args.code.now c.args.branch.now c.args.from c.args.areas.now c.gather_two.new.branch c.gather_two.new.areas
    c.gather_two.new.cells.items) c.in-Pair.is c.in_ok-a.ensures))
    c.bind_gathered.new.branch c.gather_two.new.areas c.bind_gathered.result (c.bind_gathered.ensures c.gather_two.new.areas)

pub build_rest-requires : goal.build_rest-requires
build_rest-requires g c =
    let k =
    subst (λ n. IsGatheredTo c.args.code.now n c.args.branch.now c.args.from c.args.areas.now [] c.gather_two.new.branch c.in-Listed.at c.gather_two.new.areas
    c.gather_two.new.cells.items) (sym c.requires.two)
    (subst (GathersTwo c.args.code.now c.args.branch.now c.args.from c.args.areas.now c.gather_two.new.branch c.gather_two.new.areas
    c.gather_two.new.cells.items) c.in-Listed.is c.in_ok-a.ensures) in
    record {
      safe = k.safe;
      within = k.within;
      own = k.own;
      name = c.requires.name;
      there = (let low = c.requires.there in let more = k.grown.longer in omega (arith, low, more));
      «open» = k.grown.slots c.args.var ∙ c.requires.«open»;
      untold = c.requires.untold;
    }

pub returns-in-Listed : goal.returns-in-Listed
returns-in-Listed g c =
    built_from c.args.code.now c.args.functor.0 c.args.functor.1 c.args.var c.args.branch.now c.args.from c.args.areas.now c.requires.there
    c.gather_two.new.branch c.in-Listed.at c.gather_two.new.areas c.gather_two.new.cells.items
    (subst (λ n. IsGatheredTo c.args.code.now n c.args.branch.now c.args.from c.args.areas.now [] c.gather_two.new.branch c.in-Listed.at
    c.gather_two.new.areas c.gather_two.new.cells.items) (sym c.requires.two)
    (subst (GathersTwo c.args.code.now c.args.branch.now c.args.from c.args.areas.now c.gather_two.new.branch c.gather_two.new.areas
    c.gather_two.new.cells.items) c.in-Listed.is c.in_ok-a.ensures))
    c.build_rest.new.branch c.build_rest.new.areas c.build_rest.result c.build_rest.ensures
