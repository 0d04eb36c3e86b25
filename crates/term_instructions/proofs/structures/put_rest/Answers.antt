use Rattle.std.proofs.Common.{◌<◌, All, sym, subst}
use Rattle.branch_state.specs.States.{IsCell}
use Rattle.term_instructions.proofs.Structure.{puts_on}
use Rattle.term_instructions.proofs.structures.put_rest.Goals as goal

pub put_gathered-requires : goal.put_gathered-requires
put_gathered-requires g c =
    let k = c.in_ok-next.ensures.gathered in
    record {
      sound = k.safe.sound;
      name = subst (λ m. c.args.functor.0.number < m) (sym k.safe.atoms) c.requires.name;
      own = subst (All (IsCell c.gather_arguments.new.branch)) (sym c.deref.ensures.value) k.own;
    }

pub returns : goal.returns
returns g c =
    puts_on c.args.code.now c.args.functor.0 c.args.functor.1 c.args.a c.args.branch.now c.args.at c.args.areas.now c.args.cells.now.items
    c.gather_arguments.new.branch c.in_ok-next.next c.gather_arguments.new.areas c.gather_arguments.new.cells.items c.in_ok-next.ensures.gathered
    c.in_ok-next.ensures.all c.deref.result.now c.deref.ensures.value
    c.put_gathered.new.branch c.put_gathered.new.areas c.put_gathered.result c.put_gathered.ensures
