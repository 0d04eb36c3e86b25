use Rattle.std.proofs.Common.{◌<◌, false, length, subst, sym}
use Rattle.wam_code.specs.Area.{Area}
use Rattle.code_machine.specs.States.{state_within, IsWithin, MayRun}
use Rattle.code_machine.proofs.MachineRuns.{whole_machine, whole_stands}
use Rattle.code_machine.proofs.machine.Machine.new.Goals as goal

pub start-requires-clause-query : goal.start-requires-clause-query
start-requires-clause-query g c = subst (λ (a : Area). c.args.query < length a.queries) (sym c.deref.ensures) c.requires.query

pub invariant_of-result : goal.invariant_of-result
invariant_of-result g c =
    let w = c.in_ok-branch in
    λ h. (
      whole_machine c.deref.result.now c.args.code.value c.deref.ensures w.branch w.run' false c.args.limits 0 w.ensures.machine,
      subst (λ (a : Area). IsWithin (state_within a w.branch w.run' false c.args.limits 0)) c.deref.ensures w.ensures.within,
    )

pub returns-clause-stands : goal.returns-clause-stands
returns-clause-stands g c =
    let w = c.in_ok-branch in
    λ prog q may es r run. whole_stands c.deref.result.now c.args.code.value c.deref.ensures w.branch w.run' false c.args.limits 0 es r
    (w.ensures.stands prog q (subst (λ (a : Area). MayRun a c.args.query prog q) (sym c.deref.ensures) may) es r run)
