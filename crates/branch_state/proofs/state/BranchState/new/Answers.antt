use Rattle.std.proofs.Common.{◌≡◌, false, ◌∙◌, ap, subst, refl}
use Rattle.fd_model.specs.Levels.{Levels}
use Rattle.heap_cells.specs.Cells.{Heaps, no_cells}
use Rattle.heap_cells.specs.HeapInvariant.{IsHeap}
use Rattle.propagate_queue.specs.PropagationInvariant.{AreDomains}
use Rattle.branch_state.proofs.States.{first_sound, same_sound}
use Rattle.branch_state.proofs.state.BranchState.new.Goals as goal

pub returns-clause-sound : goal.returns-clause-sound
returns-clause-sound g c =
    let heaps = c.heap.view_is ∙ c.in_ok-heap.ensures in
    let levels = c.in_ok-store.ensures in
    let valid : IsHeap no_cells = subst IsHeap (ap (λ (h : Heaps). h.now) heaps) c.heap.invariant.stored.now in
    let domains = subst (λ (v : Levels). v.spent ≡ false → v.current.failed ≡ false → AreDomains v.current.posted v.current.sets) c.in_ok-store.ensures c.known.ensures.kept in
    same_sound c.args.atoms c.args.infinity _ _ _ _ c.in_ok-heap.ensures levels (first_sound c.args.atoms c.args.infinity c.requires valid (domains refl refl))
