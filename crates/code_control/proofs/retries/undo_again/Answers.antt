use Rattle.branch_state.specs.States.{without_pairs}
use Rattle.code_control.proofs.retries.undo_again.Goals as goal

pub returns : goal.returns
returns g c =
    let e = c.reset_to_mark.ensures in
    record { back = without_pairs c.reset_to_mark.new.self 1; undone = e.undone; sound = e.under; pair = e.pair; kept = e.sound }
