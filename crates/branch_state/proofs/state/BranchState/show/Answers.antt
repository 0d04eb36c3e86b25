use Rattle.std.proofs.Common.{◌∙◌, ap, sym, subst, IfOk}
use Rattle.heap_cells.specs.Atoms.{HasAtomsBelow}
use Rattle.branch_state.specs.ShownTerms.{IsShown, AreShowable}
use Rattle.branch_state.specs.States.{State, IsSound}
use Rattle.branch_state.proofs.state.BranchState.show.Goals as goal

pub show_cells-requires-clause-atoms : goal.show_cells-requires-clause-atoms
show_cells-requires-clause-atoms g c =
    let now : State = record { atoms = c.self.inside.atoms; infinity = c.self.inside.infinity; heaps = c.self.inside.heap; levels = c.self.inside.store } in
    let o : IsSound now = subst IsSound (sym c.self.view_is) c.requires.sound in
    subst (λ n. HasAtomsBelow n now.heaps.now) (ap (λ (s : State). s.atoms) c.self.view_is ∙ sym c.requires.atoms) o.now.names

pub show_cells-requires-clause-cells : goal.show_cells-requires-clause-cells
show_cells-requires-clause-cells g c =
    subst (λ n. AreShowable n c.self.inside.heap.now c.args.cells.now) (sym c.requires.atoms)
    (subst (λ (s : State). AreShowable c.args.self.now.atoms s.heaps.now c.args.cells.now) (sym c.self.view_is) c.requires.cells)

pub show_cells-requires-clause-linked : goal.show_cells-requires-clause-linked
show_cells-requires-clause-linked g c =
    let now : State = record { atoms = c.self.inside.atoms; infinity = c.self.inside.infinity; heaps = c.self.inside.heap; levels = c.self.inside.store } in
    let o : IsSound now = subst IsSound (sym c.self.view_is) c.requires.sound in
    o.now.linked

pub returns : goal.returns
returns g c = subst (λ (s : State). IfOk c.show_cells.result (IsShown c.args.pool.now.names s.heaps.now s.levels.current.sets c.args.cells.now)) c.self.view_is c.show_cells.ensures
