use Rattle.std.proofs.Common.{sym, subst, length}
use Rattle.unify_core.specs.Outcome.{IfTrue}
use Rattle.branch_state.specs.States.{State, IsSound, IsCell}
use Rattle.branch_state.specs.Steps.{AreTouchesBelow}
use Rattle.branch_state.proofs.States.{if_true, if_both, unified_sound, touches_low}
use Rattle.branch_state.proofs.state.BranchState.unify.Goals as goal

pub returns-clause-touches : goal.returns-clause-touches
returns-clause-touches g c =
    let now : State = record { atoms = c.self.inside.atoms; infinity = c.self.inside.infinity; heaps = c.self.inside.heap; levels = c.self.inside.store } in
    let o : IsSound now = subst IsSound (sym c.self.view_is) c.requires.sound in
    subst (λ (s : State). AreTouchesBelow (length s.levels.current.sets) c.args.touches.now.items
    → IfTrue c.unify_into.result (AreTouchesBelow (length now.levels.current.sets) c.unify_into.new.touches.items)) c.self.view_is
    (λ low. if_true c.unify_into.result _ _ (λ u. touches_low now.atoms now.infinity now.heaps.now c.unify_into.new.heap.now c.args.a c.args.b
    c.args.touches.now.items c.unify_into.new.touches.items now.levels.current o.now u low) c.unify_into.ensures.equal)

pub returns-clause-sound : goal.returns-clause-sound
returns-clause-sound g c =
    let now : State = record { atoms = c.self.inside.atoms; infinity = c.self.inside.infinity; heaps = c.self.inside.heap; levels = c.self.inside.store } in
    let o : IsSound now = subst IsSound (sym c.self.view_is) c.requires.sound in
    let own_a : IsCell now c.args.a = subst (λ (s : State). IsCell s c.args.a) (sym c.self.view_is) c.requires.own_a in
    let own_b : IsCell now c.args.b = subst (λ (s : State). IsCell s c.args.b) (sym c.self.view_is) c.requires.own_b in
    if_true c.unify_into.result _ _ (λ u. unified_sound now o c.unify_into.new.heap c.args.a c.args.b c.args.touches.now.items c.unify_into.new.touches.items
    c.unify_into.ensures.below own_a own_b u.0 u.1.0 u.1.1)
    (if_both c.unify_into.result _ _ c.unify_into.ensures.equal (if_both c.unify_into.result _ _ c.unify_into.ensures.atoms c.unify_into.ensures.valid))
