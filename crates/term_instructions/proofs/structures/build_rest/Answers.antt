use Rattle.std.proofs.Common.{◌∙◌, length, All, sym, ap, subst, arith}
use Rattle.branch_state.specs.States.{IsCell}
use Rattle.term_instructions.proofs.BoundStructures.{built_on}
use Rattle.term_instructions.proofs.structures.build_rest.Goals as goal

pub bind_gathered-requires : goal.bind_gathered-requires
bind_gathered-requires g c =
    let k = c.in_ok-next.ensures.gathered in
    record {
      name = c.requires.name;
      atoms = k.safe.atoms;
      sound = k.safe.sound;
      own = subst (All (IsCell c.gather_arguments.new.branch)) (sym c.deref.ensures.value) k.own;
      all = ap length c.deref.ensures.value ∙ c.in_ok-next.ensures.all;
      there = (let low = c.requires.there in let more = k.grown.longer in omega (arith, low, more));
      «open» = k.grown.slots c.args.var ∙ c.requires.«open»;
      untold = c.requires.untold;
    }

pub returns : goal.returns
returns g c =
    let k = c.in_ok-next.ensures.gathered in
    built_on c.args.code.now c.args.functor.0 c.args.functor.1 c.args.var c.args.branch.now c.args.at c.args.areas.now c.args.scratch.now.cells.items
    c.gather_arguments.new.branch c.in_ok-next.next c.gather_arguments.new.areas c.gather_arguments.new.cells.items k c.deref.result.now c.deref.ensures.value
    c.bind_gathered.new.branch c.bind_gathered.result (c.bind_gathered.ensures c.gather_arguments.new.areas)
