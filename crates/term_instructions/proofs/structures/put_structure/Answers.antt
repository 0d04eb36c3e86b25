use Rattle.std.proofs.Common.{sym, subst}
use Rattle.wam_code.specs.declared.instruction.Code.TheVariants.{PutStructure}
use Rattle.code_safety.specs.Safety.{IsSafe}
use Rattle.code_safety.proofs.Lemmas.{within_code}
use Rattle.term_instructions.proofs.Structure.{put_atom, put_started, put_done}
use Rattle.term_instructions.proofs.structures.put_structure.Goals as goal

pub behind-from-requires : goal.behind-from-requires
behind-from-requires g c = within_code c.args.code.now c.args.at (PutStructure c.args.functor.0 c.args.functor.1 c.args.a) c.requires.holds

pub put_arguments-requires-clause-safe : goal.put_arguments-requires-clause-safe
put_arguments-requires-clause-safe g c =
    let w = c.in_ok-write.ensures in
    subst (λ i. IsSafe c.args.code.now c.args.branch.now i c.args.functor.1 c.write.new.areas) (sym c.behind-from.ensures)
    (put_started c.args.code.now c.args.branch.now c.args.at c.args.areas.now c.requires.safe c.args.functor.0 c.args.functor.1 c.args.a c.requires.holds c.write.new.areas _ w.written w.same w.slots)

pub put_arguments-requires-clause-name : goal.put_arguments-requires-clause-name
put_arguments-requires-clause-name g c = put_atom c.args.code.now c.args.branch.now c.args.at c.args.areas.now c.requires.safe c.args.functor.0 c.args.functor.1 c.args.a c.requires.holds

pub returns : goal.returns
returns g c =
    let w = c.in_ok-write.ensures in
    let k = put_done c.args.code.now c.args.branch.now c.args.at c.args.areas.now c.requires.safe c.args.functor.0 c.args.functor.1 c.args.a c.requires.holds
    c.write.new.areas _ w.written w.same c.behind-from.result c.behind-from.ensures
    c.put_arguments.new.branch c.put_arguments.new.areas c.put_arguments.result c.put_arguments.ensures in
    record { safe = k.0; stands = k.1; leads = k.2; behind = k.3; below = k.4 }
