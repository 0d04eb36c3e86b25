use Rattle.std.proofs.Common.{◌≡◌, true, false, length, subst}
use Rattle.fd_model.specs.Levels.{Levels}
use Rattle.propagate_queue.specs.PropagationInvariant.{HasNone}
use Rattle.propagate_queue.proofs.store.Store.known.Goals as goal

pub returns-clause-failed : goal.returns-clause-failed
returns-clause-failed g c = subst (λ (v : Levels). v.spent ≡ false → v.current.failed ≡ true → HasNone v.current.posted (length v.current.sets)) c.self.view_is c.known.ensures.failed
