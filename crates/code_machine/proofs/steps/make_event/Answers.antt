use Rattle.std.proofs.Common.{false, refl, subst, sym}
use Rattle.machine_events.specs.declared.MachineEvent.TheVariants.{Write, Answer}
use Rattle.code_machine.specs.declared.run.Saying.{Saying}
use Rattle.code_machine.specs.States.{state_of, IsEvent}
use Rattle.code_machine.proofs.steps.make_event.Goals as goal

pub returns-in_ok-shown-in-Term : goal.returns-in_ok-shown-in-Term
returns-in_ok-shown-in-Term g c =
    let x = c.in_ok-shown-in-Term.shown in
    subst (λ (w : Saying). IsEvent (state_of c.args.code.now c.args.branch.now c.args.run.now false) w (Write x)) (sym c.in-Term.is) (x, c.in_ok-shown-in-Term.ensures, refl)

pub returns-in_ok-shown-in-Answer : goal.returns-in_ok-shown-in-Answer
returns-in_ok-shown-in-Answer g c =
    let x = c.in_ok-shown-in-Answer.shown in
    subst (λ (w : Saying). IsEvent (state_of c.args.code.now c.args.branch.now c.args.run.now false) w (Answer x)) (sym c.in-Answer.is) (x, c.in_ok-shown-in-Answer.ensures, refl)
