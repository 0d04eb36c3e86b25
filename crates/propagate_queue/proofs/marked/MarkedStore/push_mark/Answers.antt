use Rattle.std.proofs.Common.{◌≡◌, ◌∙◌, ◌++◌, ◌∷◌, [], List, ℕ, Bool, reverse, false, ap, sym, subst, arith}
use Rattle.propagate_queue.specs.StoreFields.{IsStore}
use Rattle.propagate_queue.proofs.StoreFields.{pushed, newest}
use Rattle.propagate_queue.proofs.marked.MarkedStore.push_mark.Goals as goal

pub invariant_of-self-2 : goal.invariant_of-self-2
invariant_of-self-2 g c =
    let t = c.self.inside in
    let kept : t.failed ≡ false = ap (λ v. v.current.failed) c.self.view_is ∙ c.requires in
    let s : IsStore t.agents t.queued.items (g.A.Agenda.agents t.agenda) (g.A.Agenda.spare t.agenda) t.chains t.trail (reverse t.marks.items) false false =
    subst (λ (b : Bool). IsStore t.agents t.queued.items (g.A.Agenda.agents t.agenda) (g.A.Agenda.spare t.agenda) t.chains t.trail (reverse t.marks.items) b false) kept
    (subst (λ (b : Bool). IsStore t.agents t.queued.items (g.A.Agenda.agents t.agenda) (g.A.Agenda.spare t.agenda) t.chains t.trail (reverse t.marks.items)
    t.failed b) c.if-self.false c.self.invariant) in
    let next = pushed t.agents t.queued.items (g.A.Agenda.agents t.agenda) (g.A.Agenda.spare t.agenda) t.chains t.trail c.push_mark.new.self c.len.result
    (reverse t.marks.items) s (omega (arith, c.len.ensures)) c.in_ok-push_mark.ensures.marked in
    let turned : reverse c.push_reserved.new.self.items ≡ c.len.result ∷ reverse t.marks.items = newest c.push_reserved.new.self.items t.marks.items
    c.len.result (c.push_reserved.ensures.items ∙ ap (λ l. l ++ c.len.result ∷ []) c.reserve.ensures.items) in
    subst (λ (b : Bool). IsStore t.agents t.queued.items (g.A.Agenda.agents t.agenda) (g.A.Agenda.spare t.agenda) t.chains c.push_mark.new.self
    (reverse c.push_reserved.new.self.items) b false) (sym kept)
    (subst (λ (q : List ℕ). IsStore t.agents t.queued.items (g.A.Agenda.agents t.agenda) (g.A.Agenda.spare t.agenda) t.chains c.push_mark.new.self q false false) (sym turned) next)
