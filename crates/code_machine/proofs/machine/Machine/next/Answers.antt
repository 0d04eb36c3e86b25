use Rattle.std.proofs.Common.{false, sym, ◌∙◌}
use Rattle.code_machine.specs.States.{state_of, state_within}
use Rattle.code_machine.proofs.MachineRuns.{all_given, all_spent, lost_machine, of_goal, seen_says, within_more}
use Rattle.code_machine.proofs.machine.Machine.next.Goals as goal

pub run_on-requires : goal.run_on-requires
run_on-requires g c =
    let i = c.self.inside in
    lost_machine c.deref.result.now i.code.value c.deref.ensures i.branch i.run i.lost i.limits i.answers (c.self.invariant c.if-self.false).0

pub returns-clause-next : goal.returns-clause-next
returns-clause-next g c =
    let i = c.self.inside in
    let x = c.run_on.new in
    (seen_says c.deref.result.now i.code.value c.deref.ensures i.branch i.run i.lost i.limits i.answers x.branch x.run c.counted-self-inside.result
    c.args.self.now c.in_ok-event.event c.self.view_is c.in_ok-event.ensures.says).next

pub returns-clause-last : goal.returns-clause-last
returns-clause-last g c =
    let i = c.self.inside in
    let x = c.run_on.new in
    (seen_says c.deref.result.now i.code.value c.deref.ensures i.branch i.run i.lost i.limits i.answers x.branch x.run c.counted-self-inside.result
    c.args.self.now c.in_ok-event.event c.self.view_is c.in_ok-event.ensures.says).last

pub returns-clause-stage : goal.returns-clause-stage
returns-clause-stage g c =
    let i = c.self.inside in
    let x = c.run_on.new in
    (seen_says c.deref.result.now i.code.value c.deref.ensures i.branch i.run i.lost i.limits i.answers x.branch x.run c.counted-self-inside.result
    c.args.self.now c.in_ok-event.event c.self.view_is c.in_ok-event.ensures.says).ended

pub returns-clause-again : goal.returns-clause-again
returns-clause-again g c =
    let i = c.self.inside in
    let x = c.run_on.new in
    λ y e. (let a = (seen_says c.deref.result.now i.code.value c.deref.ensures i.branch i.run i.lost i.limits i.answers x.branch x.run
    c.counted-self-inside.result c.args.self.now c.in_ok-event.event c.self.view_is c.in_ok-event.ensures.says).again y e in (a.0, a.1 ∙ sym e, a.2))

pub returns-clause-budget : goal.returns-clause-budget
returns-clause-budget g c =
    let i = c.self.inside in
    let x = c.run_on.new in
    let says = c.in_ok-event.ensures.says in
    all_spent (state_within i.code.value x.branch x.run false i.limits c.counted-self-inside.result)
    (within_more i.limits i.answers (state_of i.code.value i.branch i.run i.lost) (state_of i.code.value x.branch x.run false) c.in_ok-event.event says.paced
    says.limit (c.self.invariant c.if-self.false).1 c.counted-self-inside.result c.counted-self-inside.ensures)
    c.in_ok-event.event (seen_says c.deref.result.now i.code.value c.deref.ensures i.branch i.run i.lost i.limits i.answers x.branch x.run
    c.counted-self-inside.result c.args.self.now c.in_ok-event.event c.self.view_is c.in_ok-event.ensures.says).comes

pub returns-clause-limit : goal.returns-clause-limit
returns-clause-limit g c =
    let i = c.self.inside in
    let x = c.run_on.new in
    let says = c.in_ok-event.ensures.says in
    all_given (state_within i.code.value x.branch x.run false i.limits c.counted-self-inside.result)
    (within_more i.limits i.answers (state_of i.code.value i.branch i.run i.lost) (state_of i.code.value x.branch x.run false) c.in_ok-event.event says.paced
    says.limit (c.self.invariant c.if-self.false).1 c.counted-self-inside.result c.counted-self-inside.ensures)
    c.in_ok-event.event (seen_says c.deref.result.now i.code.value c.deref.ensures i.branch i.run i.lost i.limits i.answers x.branch x.run
    c.counted-self-inside.result c.args.self.now c.in_ok-event.event c.self.view_is c.in_ok-event.ensures.says).comes

pub returns-clause-goals : goal.returns-clause-goals
returns-clause-goals g c =
    let i = c.self.inside in
    let x = c.run_on.new in
    of_goal (state_within i.code.value x.branch x.run false i.limits c.counted-self-inside.result) c.in_ok-event.event
    (seen_says c.deref.result.now i.code.value c.deref.ensures i.branch i.run i.lost i.limits i.answers x.branch x.run c.counted-self-inside.result
    c.args.self.now c.in_ok-event.event c.self.view_is c.in_ok-event.ensures.says).comes
