use Rattle.std.proofs.Common.{ap, ◌∙◌, arith}
use Rattle.fd_model.specs.Levels.{Level}
use Rattle.propagate_queue.proofs.store.Store.post_one.Goals as goal

pub invariant_of-self : goal.invariant_of-self
invariant_of-self g c = λ h. ap (λ (l : Level). l.failed) c.make_marks.ensures.current ∙ c.self.invariant (omega (arith, h, c.make_marks.ensures.fewer))
