use Rattle.std.proofs.Common.{Bool, reverse, false, subst}
use Rattle.propagate_queue.specs.StoreFields.{IsStore}
use Rattle.propagate_queue.proofs.StoreFields.{with_var}
use Rattle.propagate_queue.proofs.marked.MarkedStore.new_var.Goals as goal

pub invariant_of-self-2 : goal.invariant_of-self-2
invariant_of-self-2 g c =
    let t = c.self.inside in
    let s : IsStore t.agents t.queued.items (g.A.Agenda.agents t.agenda) (g.A.Agenda.spare t.agenda) t.chains t.trail (reverse t.marks.items) t.failed false =
    subst (λ (b : Bool). IsStore t.agents t.queued.items (g.A.Agenda.agents t.agenda) (g.A.Agenda.spare t.agenda) t.chains t.trail (reverse t.marks.items)
    t.failed b) c.if-self.false c.self.invariant in
    with_var t.agents t.queued.items (g.A.Agenda.agents t.agenda) (g.A.Agenda.spare t.agenda) t.chains c.new_var.new.self t.trail c.new_var-2.new.self
    (reverse t.marks.items) t.failed s c.in_ok-new_var.ensures.added c.in_ok-k.ensures.added
