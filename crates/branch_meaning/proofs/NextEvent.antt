-- What is still to come behind an event.
use Rattle.std.proofs.Common.{◌≡◌, false, List, refl}
use Rattle.std.proofs.lemmas.Bool.{true≢false}
use Rattle.fd_model.specs.Goal.{Event, Wrote, Newline, Answer, End, Budget, Limit, Fault}
use Rattle.branch_meaning.specs.NextEvent.{is_final, behind}

pub behind_other : (e : Event) (later : List Event) → is_final e ≡ false → behind e later ≡ later
behind_other (Wrote t) later h = refl
behind_other Newline later h = refl
behind_other (Answer t) later h = refl
behind_other End later h = absurd (true≢false h)
behind_other Budget later h = absurd (true≢false h)
behind_other Limit later h = absurd (true≢false h)
behind_other (Fault f) later h = absurd (true≢false h)
