use Rattle.std.proofs.Common.{◌≡◌, ◌∙◌, ◌∷◌, [], ◌++◌, ℕ, List, ap}
use Rattle.branch_state.specs.ShownTerms.{open_set}
use Rattle.branch_state.proofs.ShownTerms.{gathered_more, set_added, set_absent, set_before, none_there}
use Rattle.branch_state.proofs.shown_terms.add_set.Goals as goal

pub returns-in_ok-push : goal.returns-in_ok-push
returns-in_ok-push g c = λ xs w.
    let set = open_set c.args.heap.now.now c.args.store.now.current.sets in
    let pushed : c.push.new.self.items ≡ c.args.sets.now.items ++ (c.args.variable, c.in-Some.domain.now) ∷ [] = c.in_ok-push.ensures.items
    ∙ ap (λ (d : List ℕ). c.args.sets.now.items ++ (c.args.variable, d) ∷ []) c.in_ok-copy.ensures.set in
    gathered_more set xs c.args.seen.now.keys c.insert.new.self.keys c.args.sets.now.items c.push.new.self.items c.args.variable c.in_ok-insert.field-0 w
    c.in_ok-insert.ensures.keys c.in_ok-insert.ensures.added
    (set_added set c.args.variable c.args.sets.now.items c.push.new.self.items c.in_ok-insert.field-0 c.in-Some.domain.now c.if-branch.true c.in-Some.ensures pushed)

pub returns-in_default : goal.returns-in_default
returns-in_default g c = λ xs w.
    let set = open_set c.args.heap.now.now c.args.store.now.current.sets in
    gathered_more set xs c.args.seen.now.keys c.insert.new.self.keys c.args.sets.now.items c.args.sets.now.items c.args.variable c.in_ok-insert.field-0 w
    c.in_ok-insert.ensures.keys c.in_ok-insert.ensures.added
    (set_absent set c.args.variable c.args.sets.now.items c.in_ok-insert.field-0 c.if-branch.true
    (none_there c.open_domain.result (set c.args.variable) (λ d. d.now) c.open_domain.ensures c.in_default.not-Some))

pub returns-else-branch : goal.returns-else-branch
returns-else-branch g c = λ xs w.
    let set = open_set c.args.heap.now.now c.args.store.now.current.sets in
    gathered_more set xs c.args.seen.now.keys c.insert.new.self.keys c.args.sets.now.items c.args.sets.now.items c.args.variable c.in_ok-insert.field-0 w
    c.in_ok-insert.ensures.keys c.in_ok-insert.ensures.added
    (set_before set c.args.variable c.args.sets.now.items c.in_ok-insert.field-0 c.if-branch.false)
