use Rattle.std.proofs.Common.{[], ◌∷◌, ◌<◌, refl, sym, subst}
use Rattle.code_safety.specs.Safety.{IsSafe}
use Rattle.term_instructions.specs.WriteMode.{IsGatheredTo, GathersTwo}
use Rattle.term_instructions.proofs.Structure.{puts_on, puts_from}
use Rattle.term_instructions.proofs.structures.put_two.Goals as goal

pub gather_two-requires-clause-safe : goal.gather_two-requires-clause-safe
gather_two-requires-clause-safe g c = subst (λ k. IsSafe c.args.code.now c.args.branch.now c.args.from k c.args.areas.now) c.requires.two c.requires.safe

pub put_gathered-requires : goal.put_gathered-requires
put_gathered-requires g c =
    let k =
    subst (λ n. IsGatheredTo c.args.code.now n c.args.branch.now c.args.from c.args.areas.now [] c.gather_two.new.branch c.in-Pair.next c.gather_two.new.areas
    (c.in-Pair.first ∷ c.in-Pair.second ∷ [])) (sym c.requires.two)
    (subst (GathersTwo c.args.code.now c.args.branch.now c.args.from c.args.areas.now c.gather_two.new.branch c.gather_two.new.areas
    c.gather_two.new.cells.items) c.in-Pair.is c.in_ok-first.ensures) in
    record { sound = k.safe.sound; name = subst (λ m. c.args.functor.0.number < m) (sym k.safe.atoms) c.requires.name; own = k.own }

pub returns-in-Pair : goal.returns-in-Pair
returns-in-Pair g c =
    puts_on c.args.code.now c.args.functor.0 c.args.functor.1 c.args.a c.args.branch.now c.args.from c.args.areas.now []
    c.gather_two.new.branch c.in-Pair.next c.gather_two.new.areas (c.in-Pair.first ∷ c.in-Pair.second ∷ [])
    (subst (λ n. IsGatheredTo c.args.code.now n c.args.branch.now c.args.from c.args.areas.now [] c.gather_two.new.branch c.in-Pair.next
    c.gather_two.new.areas (c.in-Pair.first ∷ c.in-Pair.second ∷ [])) (sym c.requires.two)
    (subst (GathersTwo c.args.code.now c.args.branch.now c.args.from c.args.areas.now c.gather_two.new.branch c.gather_two.new.areas
    c.gather_two.new.cells.items) c.in-Pair.is c.in_ok-first.ensures)) (sym c.requires.two) (c.in-Pair.first ∷ c.in-Pair.second ∷ []) refl
    c.put_gathered.new.branch c.put_gathered.new.areas c.put_gathered.result c.put_gathered.ensures

pub put_rest-requires : goal.put_rest-requires
put_rest-requires g c = let k =
    subst (λ n. IsGatheredTo c.args.code.now n c.args.branch.now c.args.from c.args.areas.now [] c.gather_two.new.branch c.in-Listed.at c.gather_two.new.areas
    c.gather_two.new.cells.items) (sym c.requires.two)
    (subst (GathersTwo c.args.code.now c.args.branch.now c.args.from c.args.areas.now c.gather_two.new.branch c.gather_two.new.areas
    c.gather_two.new.cells.items) c.in-Listed.is c.in_ok-first.ensures) in record { safe = k.safe; within = k.within; own = k.own; name = c.requires.name }

pub returns-in-Listed : goal.returns-in-Listed
returns-in-Listed g c =
    puts_from c.args.code.now c.args.functor.0 c.args.functor.1 c.args.a c.args.branch.now c.args.from c.args.areas.now
    c.gather_two.new.branch c.in-Listed.at c.gather_two.new.areas c.gather_two.new.cells.items
    (subst (λ n. IsGatheredTo c.args.code.now n c.args.branch.now c.args.from c.args.areas.now [] c.gather_two.new.branch c.in-Listed.at
    c.gather_two.new.areas c.gather_two.new.cells.items) (sym c.requires.two)
    (subst (GathersTwo c.args.code.now c.args.branch.now c.args.from c.args.areas.now c.gather_two.new.branch c.gather_two.new.areas
    c.gather_two.new.cells.items) c.in-Listed.is c.in_ok-first.ensures))
    c.put_rest.new.branch c.put_rest.new.areas c.put_rest.result c.put_rest.ensures
