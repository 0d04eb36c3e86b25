use Rattle.std.proofs.Common.{◌≡◌, ◌-◌, ◌∙◌, sym, ap, arith}
use Rattle.fd_model.specs.Levels.{Levels}
use Rattle.propagate_queue.specs.StoreFields.{with_waiting}
use Rattle.propagate_queue.proofs.Waiting.{waiting_dropped, others_dropped, same_below}
use Rattle.propagate_queue.proofs.store.Store.drop_marks.Goals as goal

pub returns-then-n-self : goal.returns-then-n-self
returns-then-n-self g c =
    let t = c.self.inside in
    rw (← c.self.view_is) (same_below _ _ _ _ (sym (waiting_dropped c.args.n t.waiting t.made.current t.made.below (omega arith))))

pub returns-else-n-self : goal.returns-else-n-self
returns-else-n-self g c =
    let t = c.self.inside in
    rw (← c.self.view_is) (ap (λ (l : Levels). with_waiting l 0) c.drop_marks.ensures ∙ same_below _ _ _ _ (sym (others_dropped c.args.n t.waiting t.made.current t.made.below (omega arith))))
