use Rattle.std.proofs.Common.{◌<◌, sym, subst, length, arith}
use Rattle.branch_state.specs.States.{State, IsSound}
use Rattle.branch_state.proofs.States.{dropped_sound, pairs_counted}
use Rattle.branch_state.proofs.state.BranchState.drop_marks.Goals as goal

pub drop_marks-requires-2 : goal.drop_marks-requires-2
drop_marks-requires-2 g c =
    let now : State = record { atoms = c.self.inside.atoms; infinity = c.self.inside.infinity; heaps = c.self.inside.heap; levels = c.self.inside.store } in
    let o : IsSound now = subst IsSound (sym c.self.view_is) c.requires.sound in
    let some : c.args.n < length now.heaps.below = subst (λ (s : State). c.args.n < length s.heaps.below) (sym c.self.view_is) c.requires.some in
    omega (arith, some, pairs_counted now.atoms now.infinity now.heaps.below now.levels.below o.below)

pub returns-clause-sound : goal.returns-clause-sound
returns-clause-sound g c =
    let now : State = record { atoms = c.self.inside.atoms; infinity = c.self.inside.infinity; heaps = c.self.inside.heap; levels = c.self.inside.store } in
    let o : IsSound now = subst IsSound (sym c.self.view_is) c.requires.sound in
    let some : c.args.n < length now.heaps.below = subst (λ (s : State). c.args.n < length s.heaps.below) (sym c.self.view_is) c.requires.some in
    rw (c.drop_marks.ensures, c.drop_marks-2.ensures) (dropped_sound now c.args.n o some)
