-- The heap at the newest mark given back, while the mark stays.
use Rattle.std.proofs.Common.{◌≡◌, ◌+◌, ◌-◌, ◌<◌, ap, sym, ◌∙◌, subst, arith, List, [], ◌∷◌, ◌++◌, length, map, take, drop, reverse, Some}
use Rattle.std.specs.List.{slice_get}
use Rattle.std.proofs.lemmas.List.{length-take-le, take_more}
use Rattle.std.proofs.lemmas.Option.{get_or_from_slice_get, slice_get_within}
use Rattle.std.proofs.Math.Seq.{take-length}
use Rattle.heap_cells.specs.declared.Cell.{Cell}
use Rattle.heap_cells.specs.declared.Variable.{Variable}
use Rattle.heap_cells.specs.declared.Structure.{Structure}
use Rattle.heap_cells.specs.declared.Saved.{Saved}
use Rattle.heap_cells.specs.declared.Mark.{Mark}
use Rattle.heap_cells.specs.Cells.{Cells}
use Rattle.heap_cells.specs.HeapFields.{cells_of, heaps_of, restored, lengths, marked, AreSound}
use Rattle.heap_cells.proofs.HeapAdditions.{same_mark}
use Rattle.heap_cells.proofs.Levels.{marked_here, mark_stored}
use Rattle.heap_cells.proofs.Marks.{length-restored}
use Rattle.heap_cells.proofs.LooseInvariant.{mark_sound, undo_sound}
use Rattle.heap_cells.proofs.HeapUndo.{order, all_falls, undo_stored, undo_view}

-- the newest of the marks, and those before it
pub newest_is : (seen marks : List Mark) (m : Mark) → seen ≡ marks → slice_get seen (length seen - 1) ≡ Some m → marks ≡ take (length marks - 1) marks ++ m ∷ []
newest_is seen marks m e f =
    let g : slice_get marks (length marks - 1) ≡ Some m = subst (λ (l : List Mark). slice_get l (length l - 1) ≡ Some m) e f in
    let low : length marks - 1 < length marks = slice_get_within marks (length marks - 1) m g in
    let next : length marks ≡ (length marks - 1) + 1 = omega arith in
    sym (take-length marks) ∙ ap (λ n. take n marks) next ∙ take_more marks (length marks - 1) m low
    ∙ ap (λ (n : Mark). take (length marks - 1) marks ++ n ∷ []) (get_or_from_slice_get marks (length marks - 1) m m g)

-- marks are front and then m, the newest
module _ (vs : List Variable) (args : List Cell) (ss : List Structure) (trail : List Saved) (marks front : List Mark) (m : Mark)
    (marks_are : marks ≡ front ++ m ∷ []) (k : AreSound vs args ss trail marks) where
  abbrev vs' : List Variable
  vs' = take m.variables (restored (drop m.trail trail) vs)

  abbrev args' : List Cell
  args' = take m.args args

  abbrev ss' : List Structure
  ss' = take m.structures ss

  abbrev trail' : List Saved
  trail' = take m.trail trail

  -- the lengths are those of the mark
  lengths_left : lengths vs' args' ss' trail' ≡ m
  lengths_left =
      let up = (all_falls vs args ss trail marks front m marks_are k.stored).0 in
      let long = length-restored (drop m.trail trail) vs in
      same_mark (lengths vs' args' ss' trail') m
      (length-take-le m.variables (restored (drop m.trail trail) vs) (let u = up.variables in omega arith))
      (length-take-le m.args args up.args)
      (length-take-le m.structures ss up.structures)
      (length-take-le m.trail trail up.trail)

  pub reset_sound : AreSound vs' args' ss' trail' marks
  reset_sound =
      let back = undo_sound vs args ss trail marks front m marks_are k (undo_stored vs args ss trail marks front m marks_are k.stored) in
      subst (AreSound vs' args' ss' trail') (ap (λ (n : Mark). front ++ n ∷ []) lengths_left ∙ sym marks_are)
      (mark_sound vs' args' ss' trail' front back (mark_stored vs' args' ss' trail' front back.stored))

  -- the heap below is given back
  pub reset_back : (below : List Cells) → (heaps_of vs args ss trail marks).below ≡ below → below ≡ (heaps_of vs' args' ss' trail' marks).now ∷ drop 1 below
  reset_back below seen =
      let e = undo_view vs args ss trail marks front m marks_are k.stored in
      subst (λ (l : List Cells). l ≡ cells_of vs' args' ss' ∷ drop 1 l) seen
      (e ∙ ap (λ (l : List Cells). cells_of vs' args' ss' ∷ l) (sym (ap (λ (l : List Cells). drop 1 l) e)))

  -- and stays below
  pub reset_below : (heaps_of vs' args' ss' trail' marks).below ≡ (heaps_of vs args ss trail marks).below
  reset_below =
      ap (map (marked vs' args' ss' trail')) (order vs args ss trail marks front m marks_are k.stored)
      ∙ ap (λ (h : Cells). h ∷ map (marked vs' args' ss' trail') (reverse front)) (ap (marked vs' args' ss' trail') (sym lengths_left) ∙ marked_here vs' args' ss' trail')
      ∙ sym (undo_view vs args ss trail marks front m marks_are k.stored)
