use Rattle.std.proofs.Common.{false, subst}
use Rattle.code_machine.specs.States.{State, state_of, IsStep}
use Rattle.code_machine.proofs.MachineRuns.{run_on_from, told_from}
use Rattle.code_machine.proofs.steps.run_on.Goals as goal

pub returns-in-Some-clause-says : goal.returns-in-Some-clause-says
returns-in-Some-clause-says g c =
    let area = c.args.code.now in
    let old : State = state_of area c.args.branch.now c.args.run.now false in
    let loop : State = state_of area c.going.branch c.going.run false in
    let mid : State = state_of area c.walk.new.branch c.walk.new.run false in
    let new : State = state_of area c.step.new.branch c.step.new.run false in
    told_from old mid new c.in-Some.saying (run_on_from old loop mid c.going.invariant c.in_ok-walk.ensures.runs)
    (subst (λ o. IsStep mid o new) c.in-Some.is c.in_ok-saying.ensures.step) c.make_event.result c.make_event.ensures
