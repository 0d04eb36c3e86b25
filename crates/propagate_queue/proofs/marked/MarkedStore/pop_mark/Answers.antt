use Rattle.std.proofs.Common.{◌≡◌, ◌∙◌, ◌++◌, ◌∷◌, List, ℕ, reverse, ap, sym, subst}
use Rattle.std.specs.Option.{option_to_list}
use Rattle.propagate_queue.specs.Postings.{ranges_of}
use Rattle.propagate_queue.specs.StoreFields.{IsStore, levels_below}
use Rattle.propagate_queue.proofs.StoreFields.{popped_store, popped_stay, newest}
use Rattle.propagate_queue.proofs.marked.MarkedStore.pop_mark.Goals as goal

pub cut_to-requires-clause-stay : goal.cut_to-requires-clause-stay
cut_to-requires-clause-stay g c =
    let t = c.self.inside in
    let m = c.unwrap-agents.result in
    let turned : reverse t.marks.items ≡ m ∷ reverse c.pop.new.self.items = newest t.marks.items c.pop.new.self.items m
    (c.pop.ensures.items ∙ ap (λ o. c.pop.new.self.items ++ option_to_list o) c.unwrap-agents.ensures) in
    let s = subst (λ (q : List ℕ). IsStore t.agents t.queued.items (g.A.Agenda.agents t.agenda) (g.A.Agenda.spare t.agenda) t.chains t.trail q t.failed t.spent) turned c.self.invariant in
    (popped_stay t.agents t.queued.items (g.A.Agenda.agents t.agenda) (g.A.Agenda.spare t.agenda) t.chains t.trail c.pop_mark.new.self m
    (reverse c.pop.new.self.items) t.failed t.spent c.vars.result s c.pop_mark.ensures c.vars.ensures).0

pub invariant_of-self : goal.invariant_of-self
invariant_of-self g c =
    let t = c.self.inside in
    let m = c.unwrap-agents.result in
    let turned : reverse t.marks.items ≡ m ∷ reverse c.pop.new.self.items = newest t.marks.items c.pop.new.self.items m
    (c.pop.ensures.items ∙ ap (λ o. c.pop.new.self.items ++ option_to_list o) c.unwrap-agents.ensures) in
    let s = subst (λ (q : List ℕ). IsStore t.agents t.queued.items (g.A.Agenda.agents t.agenda) (g.A.Agenda.spare t.agenda) t.chains t.trail q t.failed t.spent) turned c.self.invariant in
    (popped_store t.agents c.truncate.new.self t.queued.items c.truncate-2.new.self.items (g.A.Agenda.agents t.agenda) (g.A.Agenda.spare t.agenda) t.chains
    c.cut_to.new.self t.trail c.pop_mark.new.self m c.vars.result (reverse c.pop.new.self.items) t.failed t.spent s c.pop_mark.ensures c.truncate.ensures
    c.truncate-2.ensures.items c.cut_to.ensures c.vars.ensures).0

pub returns-clause-levels : goal.returns-clause-levels
returns-clause-levels g c =
    let t = c.self.inside in
    let m = c.unwrap-agents.result in
    let turned : reverse t.marks.items ≡ m ∷ reverse c.pop.new.self.items = newest t.marks.items c.pop.new.self.items m
    (c.pop.ensures.items ∙ ap (λ o. c.pop.new.self.items ++ option_to_list o) c.unwrap-agents.ensures) in
    let s = subst (λ (q : List ℕ). IsStore t.agents t.queued.items (g.A.Agenda.agents t.agenda) (g.A.Agenda.spare t.agenda) t.chains t.trail q t.failed t.spent) turned c.self.invariant in
    sym (ap (λ v. v.below) c.self.view_is) ∙ ap (λ (q : List ℕ). levels_below q t.trail.below (ranges_of t.agents)) turned
    ∙ (popped_store t.agents c.truncate.new.self t.queued.items c.truncate-2.new.self.items (g.A.Agenda.agents t.agenda) (g.A.Agenda.spare t.agenda) t.chains
    c.cut_to.new.self t.trail c.pop_mark.new.self m c.vars.result (reverse c.pop.new.self.items) t.failed t.spent s c.pop_mark.ensures c.truncate.ensures
    c.truncate-2.ensures.items c.cut_to.ensures c.vars.ensures).1
