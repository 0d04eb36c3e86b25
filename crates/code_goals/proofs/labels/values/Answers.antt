use Rattle.std.proofs.Common.{◌<◌, ◌≤◌, length, ap, sym, subst, ◌∙◌}
use Rattle.fd_language.specs.declared.TheConstants.{INFINITY}
use Rattle.fd_language.specs.Family.{universe}
use Rattle.fd_model.specs.Levels.{Levels}
use Rattle.heap_cells.specs.Cells.{Heaps}
use Rattle.heap_cells.specs.declared.Cell.TheVariants as cell
use Rattle.heap_cells.specs.declared.Seen.TheVariants as looks
use Rattle.heap_cells.specs.SeenCells.{IsSeen}
use Rattle.branch_lemmas.specs.Frames.{link_of}
use Rattle.range_code.specs.Frames.{family_of}
use Rattle.code_goals.proofs.Numbers.{own_link, no_link, values_linked, values_all}
use Rattle.code_goals.proofs.labels.values.Goals as goal
use Rattle.code_goals.proofs.labels.values.Goals.{in-Constrained+in_ok-all-in-Constrained, in_default}

pub domain-requires : goal.domain-requires
domain-requires g c =
    let seen = subst (λ (h : Heaps). IsSeen h.now (cell.Ref c.args.variable) (looks.Constrained c.in-Constrained.field-0 c.in-Constrained.k)) c.heap.ensures c.in-Constrained.ensures.seen in
    subst (λ (l : Levels). c.in-Constrained.k < length l.current.sets) (sym c.store.ensures) (c.requires.sound.now.linked c.in-Constrained.field-0 c.in-Constrained.k (ap link_of seen.1))

pub returns-clause-values : goal.returns-clause-values
returns-clause-values g c =
    let s = c.args.branch.now in
    let i = c.args.variable in
    let valid = c.requires.sound.now.valid in
    elim c.match-deref.branch [
      | in-Constrained+in_ok-all-in-Constrained w ↦
          (let seen = subst (λ (h : Heaps). IsSeen h.now (cell.Ref i) (looks.Constrained w.in-Constrained.field-0 w.in-Constrained.k)) c.heap.ensures w.in-Constrained.ensures.seen in
          w.all-is ∙ w.in_ok-all-in-Constrained.ensures.set ∙ w.domain.ensures ∙ ap (λ (l : Levels). family_of l.current.sets w.in-Constrained.k) w.store.ensures
          ∙ values_linked s i w.in-Constrained.k (own_link s.heaps.now valid i c.requires.variable w.in-Constrained.field-0 w.in-Constrained.k seen))
      | in_default w ↦
          (let seen = subst (λ (h : Heaps). IsSeen h.now (cell.Ref i) c.deref.result) c.heap.ensures c.deref.ensures.seen in
          w.all-is ∙ w.numbers_to-all.ensures ∙ ap universe w.infinity.ensures
          ∙ values_all s i (no_link s.heaps.now valid i c.requires.variable c.deref.result seen (λ j k e. w.in_default.not-Constrained j k e)))
    ]

pub numbers_to-all-requires : goal.numbers_to-all-requires
numbers_to-all-requires g c = subst (λ n. n ≤ INFINITY) (sym c.infinity.ensures) c.requires.sound.greatest.1
