use Rattle.std.proofs.Common.{sym, subst, length}
use Rattle.fd_language.specs.declared.TheConstants.{INFINITY}
use Rattle.unify_core.specs.Outcome.{IfFalse}
use Rattle.branch_state.specs.States.{State, IsSound, HasNoModel}
use Rattle.branch_state.specs.Steps.{AreTouchesBelow, posted_with}
use Rattle.branch_state.proofs.States.{if_true, if_both, ok_true, posted_sound}
use Rattle.branch_state.proofs.state.BranchState.post_touches.Goals as goal

pub returns-clause-none : goal.returns-clause-none
returns-clause-none g c = subst (λ (s : State). IfFalse c.post_all.result (HasNoModel INFINITY (posted_with s c.args.touches.now))) c.self.view_is c.post_all.ensures.none

pub returns-clause-sound : goal.returns-clause-sound
returns-clause-sound g c =
    let now : State = record { atoms = c.self.inside.atoms; infinity = c.self.inside.infinity; heaps = c.self.inside.heap; levels = c.self.inside.store } in
    let o : IsSound now = subst IsSound (sym c.self.view_is) c.requires.sound in
    let low : AreTouchesBelow (length now.levels.current.sets) c.args.touches.now = subst
    (λ (s : State). AreTouchesBelow (length s.levels.current.sets) c.args.touches.now) (sym c.self.view_is) c.requires.touches in
    if_true c.post_all.result _ _ (λ u. posted_sound now o c.post_all.new.store c.args.touches.now low c.post_all.ensures.below u.0 u.1.0 u.1.1.0 u.1.1.1)
    (if_both c.post_all.result _ _ (ok_true c.post_all.result _ _ (λ e. e) c.post_all.ensures.unspent)
    (if_both c.post_all.result _ _ c.post_all.ensures.posted
    (if_both c.post_all.result _ _ (ok_true c.post_all.result _ _ (λ e. e) c.post_all.ensures.vars) c.post_all.ensures.kept)))
