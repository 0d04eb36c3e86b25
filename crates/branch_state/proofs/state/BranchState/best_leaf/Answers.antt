use Rattle.std.proofs.Common.{◌≡◌, ◌+◌, ◌++◌, length, ap, sym, ◌∙◌, subst}
use Rattle.fd_language.specs.declared.TheConstants.{INFINITY}
use Rattle.fd_model.specs.Levels.{Levels}
use Rattle.bound_search.specs.Members.{AreOwn}
use Rattle.branch_state.specs.VariableBounds.{new_bounds}
use Rattle.branch_state.specs.States.{State, HasNoModel, IsSound}
use Rattle.branch_state.proofs.OpenSets.{open_model}
use Rattle.branch_state.proofs.States.{false_at}
use Rattle.branch_state.proofs.state.BranchState.best_leaf.Goals as goal

pub add_bounded-requires : goal.add_bounded-requires
add_bounded-requires g c =
    let now : State = record { atoms = c.self.inside.atoms; infinity = c.self.inside.infinity; heaps = c.self.inside.heap; levels = c.self.inside.store } in
    let o : IsSound now = subst IsSound (sym c.self.view_is) c.requires.sound in
    o.greatest.1

pub best-requires-clause-list : goal.best-requires-clause-list
best-requires-clause-list g c =
    let count : length c.add_bounded.new.store.current.sets ≡ length c.args.self.now.levels.current.sets + c.args.added =
    c.in_ok-kept.ensures.vars
    ∙ ap (λ (l : Levels). length l.current.sets + c.args.added) c.in_ok-push_mark.ensures.marked
    ∙ ap (λ (s : State). length s.levels.current.sets + c.args.added) c.self.view_is in
    subst (λ n. AreOwn n c.args.list.now) (sym count) c.requires.list

pub returns-then-not-kept-clause-found : goal.returns-then-not-kept-clause-found
returns-then-not-kept-clause-found g c =
    let now : State = record { atoms = c.self.inside.atoms; infinity = c.self.inside.infinity; heaps = c.self.inside.heap; levels = c.self.inside.store } in
    let o : IsSound now = subst IsSound (sym c.self.view_is) c.requires.sound in
    let posted : c.add_bounded.new.store.current.posted ≡ now.levels.current.posted ++ new_bounds now.infinity (length now.levels.current.sets) c.args.added =
    c.in_ok-kept.ensures.posted ∙ ap (λ (l : Levels). l.current.posted ++ new_bounds now.infinity (length l.current.sets) c.args.added) c.in_ok-push_mark.ensures.marked in
    absurd (open_model now o (length now.levels.current.sets) c.args.added (subst (HasNoModel INFINITY) posted (false_at c.in_ok-kept.kept _ c.if-not-kept.true c.in_ok-kept.ensures.none)))
