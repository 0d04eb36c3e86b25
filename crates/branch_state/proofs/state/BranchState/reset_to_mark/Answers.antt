use Rattle.std.proofs.Common.{◌<◌, sym, subst, length}
use Rattle.branch_state.specs.States.{State, IsSoundBelow, IsUndone, without_pairs}
use Rattle.branch_state.proofs.Resetting.{reset_sound, reset_under, reset_undone, reset_pair}
use Rattle.branch_state.proofs.state.BranchState.reset_to_mark.Goals as goal

pub returns-clause-undone : goal.returns-clause-undone
returns-clause-undone g c =
    let now : State = record { atoms = c.self.inside.atoms; infinity = c.self.inside.infinity; heaps = c.self.inside.heap; levels = c.self.inside.store } in
    let o : IsSoundBelow now = subst IsSoundBelow (sym c.self.view_is) c.requires.sound in
    let more : 1 < length now.heaps.below = subst (λ (s : State). 1 < length s.heaps.below) (sym c.self.view_is) c.requires.marked in
    subst (λ (v : State). IsUndone v (without_pairs (record {
      atoms = c.self.inside.atoms;
      infinity = c.self.inside.infinity;
      heaps = c.reset_to_mark.new.self;
      levels = c.reset_to_mark-2.new.self;
    }) 1)) c.self.view_is
    (reset_undone now c.reset_to_mark.new.self c.reset_to_mark-2.new.self o more c.reset_to_mark.ensures.back c.reset_to_mark.ensures.below
    c.reset_to_mark-2.ensures.back c.reset_to_mark-2.ensures.below c.reset_to_mark-2.ensures.spent)

pub returns-clause-pair : goal.returns-clause-pair
returns-clause-pair g c =
    let now : State = record { atoms = c.self.inside.atoms; infinity = c.self.inside.infinity; heaps = c.self.inside.heap; levels = c.self.inside.store } in
    let o : IsSoundBelow now = subst IsSoundBelow (sym c.self.view_is) c.requires.sound in
    let more : 1 < length now.heaps.below = subst (λ (s : State). 1 < length s.heaps.below) (sym c.self.view_is) c.requires.marked in
    reset_pair now c.reset_to_mark.new.self c.reset_to_mark-2.new.self o more c.reset_to_mark.ensures.back c.reset_to_mark.ensures.below
    c.reset_to_mark-2.ensures.back c.reset_to_mark-2.ensures.below c.reset_to_mark-2.ensures.spent

pub returns-clause-under : goal.returns-clause-under
returns-clause-under g c =
    let now : State = record { atoms = c.self.inside.atoms; infinity = c.self.inside.infinity; heaps = c.self.inside.heap; levels = c.self.inside.store } in
    let o : IsSoundBelow now = subst IsSoundBelow (sym c.self.view_is) c.requires.sound in
    let more : 1 < length now.heaps.below = subst (λ (s : State). 1 < length s.heaps.below) (sym c.self.view_is) c.requires.marked in
    reset_under now c.reset_to_mark.new.self c.reset_to_mark-2.new.self o more c.reset_to_mark.ensures.back c.reset_to_mark.ensures.below
    c.reset_to_mark-2.ensures.back c.reset_to_mark-2.ensures.below c.reset_to_mark-2.ensures.spent

pub returns-clause-sound : goal.returns-clause-sound
returns-clause-sound g c =
    let now : State = record { atoms = c.self.inside.atoms; infinity = c.self.inside.infinity; heaps = c.self.inside.heap; levels = c.self.inside.store } in
    let o : IsSoundBelow now = subst IsSoundBelow (sym c.self.view_is) c.requires.sound in
    let more : 1 < length now.heaps.below = subst (λ (s : State). 1 < length s.heaps.below) (sym c.self.view_is) c.requires.marked in
    reset_sound now c.reset_to_mark.new.self c.reset_to_mark-2.new.self o more c.reset_to_mark.ensures.back c.reset_to_mark.ensures.below
    c.reset_to_mark-2.ensures.back c.reset_to_mark-2.ensures.below c.reset_to_mark-2.ensures.spent
