use Rattle.code_control.proofs.choices.leave_choice.Goals as goal

pub returns-clause-point : goal.returns-clause-point
returns-clause-point g c =
    c.push_point.ensures.pushed
