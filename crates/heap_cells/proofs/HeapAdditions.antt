-- A mark, a variable or a compound term added, seen from outside.
use Rattle.std.proofs.Common.{◌≡◌, refl, ap, sym, ◌∙◌, subst, List, [], ◌∷◌, ◌++◌, length, take, drop, arith, length-append}
use Rattle.std.specs.Prelude.{All}
use Rattle.std.proofs.Math.Seq.{drop-append_seam, take-length}
use Rattle.term_pool.specs.declared.AtomId.{AtomId}
use Rattle.heap_cells.specs.declared.Cell.{Cell}
use Rattle.heap_cells.specs.declared.Variable.{Variable}
use Rattle.heap_cells.specs.declared.Variable.TheVariants as variable
use Rattle.heap_cells.specs.declared.Structure.{Structure}
use Rattle.heap_cells.specs.declared.Mark.{Mark}
use Rattle.heap_cells.specs.declared.Heap.TheInside.{Inside}
use Rattle.heap_cells.specs.Cells.{Cells, Compound, Heaps, IsOf, with_new_slot, with_compound}
use Rattle.heap_cells.specs.Terms.{KeepsTerms}
use Rattle.heap_cells.specs.HeapInvariant.{IsHeap}
use Rattle.heap_cells.specs.HeapFields.{cells_of, compound_of, heaps_of, AreStored, lengths, HasArgs}
use Rattle.heap_cells.proofs.Fields.{now_of, view_of, AreKept, now_is, valid_now}
use Rattle.heap_cells.proofs.HeapGrowth.{var_valid, var_kept, struct_valid, struct_kept}
use Rattle.heap_cells.proofs.Levels.{mark_stored, var_view, var_stored, args_view, args_stored, struct_view, struct_stored}

pub same_mark : (m n : Mark) → m.variables ≡ n.variables → m.args ≡ n.args → m.structures ≡ n.structures → m.trail ≡ n.trail → m ≡ n
same_mark m n a b c d =
    ap (λ x. let k : Mark = record m { variables = x } in k) a
    ∙ ap (λ x. let k : Mark = record n { args = x; structures = m.structures; trail = m.trail } in k) b
    ∙ ap (λ x. let k : Mark = record n { structures = x; trail = m.trail } in k) c
    ∙ ap (λ x. let k : Mark = record n { trail = x } in k) d

module _ (f : Inside) (seen : Heaps) (view_is : view_of f ≡ seen) (kept : AreKept f) where
  pub mark_after : (m : Mark) (marks : List Mark) → m.variables ≡ length f.variables.items → m.args ≡ length f.args.items
      → m.structures ≡ length f.structures.items → m.trail ≡ length f.trail.items → marks ≡ f.marks.items ++ m ∷ []
      → AreStored f.variables.items f.args.items f.structures.items f.trail.items marks
  mark_after m marks a b c d e =
      let here : Mark = lengths f.variables.items f.args.items f.structures.items f.trail.items in
      let same : m ≡ here = same_mark m here a b c d in
      subst (AreStored f.variables.items f.args.items f.structures.items f.trail.items) (sym e)
      (subst (λ (n : Mark). AreStored f.variables.items f.args.items f.structures.items f.trail.items (f.marks.items ++ n ∷ [])) (sym same)
      (mark_stored f.variables.items f.args.items f.structures.items f.trail.items f.marks.items kept))

  old : IsHeap seen.now
  old = valid_now f seen view_is kept

  old_below : (view_of f).below ≡ seen.below
  old_below = ap (λ (h : Heaps). h.below) view_is

  -- a variable
  module _ (vs : List Variable) (vs_is : vs ≡ f.variables.items ++ variable.Loose ∷ []) where
    pub var_after : AreStored vs f.args.items f.structures.items f.trail.items f.marks.items
    var_after =
        subst (λ (l : List Variable). AreStored l f.args.items f.structures.items f.trail.items f.marks.items) (sym vs_is)
        (var_stored f.variables.items f.args.items f.structures.items f.trail.items f.marks.items kept (var_valid (now_of f) kept.now))

    pub var_view_after : heaps_of vs f.args.items f.structures.items f.trail.items f.marks.items ≡ record seen { now = with_new_slot seen.now }
    var_view_after =
        ap (λ (l : List Variable). heaps_of l f.args.items f.structures.items f.trail.items f.marks.items) vs_is
        ∙ var_view f.variables.items f.args.items f.structures.items f.trail.items f.marks.items kept
        ∙ ap (λ (h : Cells). let r : Heaps = record { now = with_new_slot h; below = (view_of f).below } in r) (now_is f seen view_is)
        ∙ ap (λ (l : List Cells). let r : Heaps = record { now = with_new_slot seen.now; below = l } in r) old_below

    pub var_kept_after : KeepsTerms seen.now (cells_of vs f.args.items f.structures.items)
    var_kept_after = subst (KeepsTerms seen.now) (sym (ap (λ (h : Heaps). h.now) var_view_after)) (var_kept seen.now old)

  -- arguments, and then a compound term
  module _ (more args : List Cell) (args_is : args ≡ f.args.items ++ more) where
    pub args_after : AreStored f.variables.items args f.structures.items f.trail.items f.marks.items
    args_after = subst (λ (l : List Cell). AreStored f.variables.items l f.structures.items f.trail.items f.marks.items) (sym args_is)
        (args_stored f.variables.items f.args.items more f.structures.items f.trail.items f.marks.items kept)

    pub args_view_after : heaps_of f.variables.items args f.structures.items f.trail.items f.marks.items ≡ seen
    args_view_after = ap (λ (l : List Cell). heaps_of f.variables.items l f.structures.items f.trail.items f.marks.items) args_is
        ∙ args_view f.variables.items f.args.items more f.structures.items f.trail.items f.marks.items kept ∙ view_is

    -- where the compound term isn't added
    module _ (ss : List Structure) (ss_is : ss ≡ f.structures.items) where
      pub same_after : AreStored f.variables.items args ss f.trail.items f.marks.items
      same_after = subst (λ (l : List Structure). AreStored f.variables.items args l f.trail.items f.marks.items) (sym ss_is) args_after

      pub same_view_after : heaps_of f.variables.items args ss f.trail.items f.marks.items ≡ seen
      same_view_after = ap (λ (l : List Structure). heaps_of f.variables.items args l f.trail.items f.marks.items) ss_is ∙ args_view_after

      pub same_kept_after : KeepsTerms seen.now (cells_of f.variables.items args ss)
      same_kept_after = subst (KeepsTerms seen.now) (sym (ap (λ (h : Heaps). h.now) same_view_after)) (λ name c o. refl)

    module _ (s : Structure) (k : Compound) (ss : List Structure) (ss_is : ss ≡ f.structures.items ++ s ∷ []) (name_is : s.name ≡ k.name)
        (first_is : s.first ≡ length f.args.items) (count_is : s.count ≡ length more) (args_are : more ≡ k.args) (own : All (IsOf seen.now) k.args) where
      whole : take s.count (drop s.first args) ≡ k.args
      whole =
          ap (λ l. take s.count (drop s.first l)) args_is ∙ ap (λ n. take s.count (drop n (f.args.items ++ more))) first_is ∙ ap (take s.count) (drop-append_seam f.args.items more)
          ∙ ap (λ n. take n more) count_is ∙ take-length more ∙ args_are

      compound_is : compound_of args s ≡ k
      compound_is = ap (λ (cs : List Cell). let d : Compound = record { name = s.name; args = cs } in d) whole ∙ ap (λ (a : AtomId). let d : Compound = record { name = a; args = k.args } in d) name_is

      now_grown : with_compound (cells_of f.variables.items args f.structures.items) (compound_of args s) ≡ with_compound seen.now k
      now_grown = ap (λ (h : Heaps). with_compound h.now (compound_of args s)) args_view_after ∙ ap (with_compound seen.now) compound_is

      has_args : HasArgs (length args) s
      has_args = let a = ap length args_is in let b = length-append f.args.items more in omega arith

      pub struct_after : AreStored f.variables.items args ss f.trail.items f.marks.items
      struct_after =
          subst (λ (l : List Structure). AreStored f.variables.items args l f.trail.items f.marks.items) (sym ss_is)
          (struct_stored f.variables.items args f.structures.items f.trail.items f.marks.items s args_after has_args (subst IsHeap (sym now_grown) (struct_valid seen.now old k own)))

      pub struct_view_after : heaps_of f.variables.items args ss f.trail.items f.marks.items ≡ record seen { now = with_compound seen.now k }
      struct_view_after =
          ap (λ (l : List Structure). heaps_of f.variables.items args l f.trail.items f.marks.items) ss_is
          ∙ struct_view f.variables.items args f.structures.items f.trail.items f.marks.items s args_after
          ∙ ap (λ (h : Cells). let r : Heaps = record { now = h; below = (heaps_of f.variables.items args f.structures.items f.trail.items f.marks.items).below } in r) now_grown
          ∙ ap (λ (h : Heaps). let r : Heaps = record { now = with_compound seen.now k; below = h.below } in r) args_view_after

      pub struct_kept_after : KeepsTerms seen.now (cells_of f.variables.items args ss)
      struct_kept_after = subst (KeepsTerms seen.now) (sym (ap (λ (h : Heaps). h.now) struct_view_after)) (struct_kept seen.now old k own)
