-- A change of one variable, seen from outside.
use Rattle.std.proofs.Common.{◌≡◌, ℕ, ap, sym, ◌∙◌, subst, List, set, reverse}
use Rattle.std.specs.Prelude.{OnOk, OnErr, Result, Ok, Err}
use Rattle.std.proofs.lemmas.Result.{on_ok_weaker}
use Rattle.heap_cells.specs.declared.Variable.{Variable}
use Rattle.heap_cells.specs.declared.Saved.{Saved}
use Rattle.heap_cells.specs.declared.Heap.TheInside.{Inside}
use Rattle.heap_cells.specs.Cells.{Slot, Cells, Heaps, with_slot}
use Rattle.heap_cells.specs.HeapInvariant.{IsHeap}
use Rattle.heap_cells.specs.HeapFields.{slot_of, cells_of, heaps_of, AreStored, trailed, saved_at}
use Rattle.heap_cells.proofs.Fields.{now_of, view_of, AreKept, now_is}
use Rattle.heap_cells.proofs.Marks.{changed_stored, changed_view}

-- r is what the call answered, vs and trail what it left
module _ {A E : Type 0} (r : Result A E) (f : Inside) (seen : Heaps) (view_is : view_of f ≡ seen) (kept : AreKept f) (i : ℕ) (to : Variable) (s : Slot)
    (to_is : slot_of to ≡ s) (vs : List Variable) (trail : List Saved)
    (changed : OnOk r (vs ≡ set f.variables.items i to))
    (trail_is : OnOk r (trail ≡ trailed (reverse f.marks.items) f.trail.items (saved_at f.variables.items i)))
    (refused : OnErr r ((vs ≡ f.variables.items) × (trail ≡ f.trail.items)))
    (valid : IsHeap (with_slot seen.now i s)) where
  abbrev After : Type 0
  After = AreStored vs f.args.items f.structures.items trail f.marks.items

  slot_now : with_slot (now_of f) i (slot_of to) ≡ with_slot seen.now i s
  slot_now = ap (λ (h : Cells). with_slot h i (slot_of to)) (now_is f seen view_is) ∙ ap (with_slot seen.now i) to_is

  pub stored_after : After
  stored_after = go r changed trail_is refused
    where
      go : (q : Result A E) → OnOk q (vs ≡ set f.variables.items i to)
          → OnOk q (trail ≡ trailed (reverse f.marks.items) f.trail.items (saved_at f.variables.items i))
          → OnErr q ((vs ≡ f.variables.items) × (trail ≡ f.trail.items)) → After
      go (Ok x) a b c =
          subst (λ (l : List Variable). AreStored l f.args.items f.structures.items trail f.marks.items) (sym a)
          (subst (λ (l : List Saved). AreStored (set f.variables.items i to) f.args.items f.structures.items l f.marks.items) (sym b)
          (changed_stored f.variables.items f.args.items f.structures.items f.trail.items f.marks.items i to kept (subst IsHeap (sym slot_now) valid)))
      go (Err e) a b c =
          subst (λ (l : List Variable). AreStored l f.args.items f.structures.items trail f.marks.items) (sym c.0)
          (subst (λ (l : List Saved). AreStored f.variables.items f.args.items f.structures.items l f.marks.items) (sym c.1) kept)

  pub view_after : OnOk r (heaps_of vs f.args.items f.structures.items trail f.marks.items ≡ record seen { now = with_slot seen.now i s })
  view_after = go r changed trail_is
    where
      go : (q : Result A E) → OnOk q (vs ≡ set f.variables.items i to)
          → OnOk q (trail ≡ trailed (reverse f.marks.items) f.trail.items (saved_at f.variables.items i))
          → OnOk q (heaps_of vs f.args.items f.structures.items trail f.marks.items ≡ record seen { now = with_slot seen.now i s })
      go (Ok x) a b =
          ap (λ (l : List Variable). heaps_of l f.args.items f.structures.items trail f.marks.items) a
          ∙ ap (λ (l : List Saved). heaps_of (set f.variables.items i to) f.args.items f.structures.items l f.marks.items) b
          ∙ changed_view f.variables.items f.args.items f.structures.items f.trail.items f.marks.items i to kept
          ∙ ap (λ (h : Cells). let w : Heaps = record { now = h; below = (view_of f).below } in w) slot_now
          ∙ ap (λ (l : List Cells). let w : Heaps = record { now = with_slot seen.now i s; below = l } in w) (ap (λ (w : Heaps). w.below) view_is)
      go (Err e) a b = tt

  -- what holds of the changed heap holds of the heap now
  pub holds_after : (P : Cells → Type 0) → P (with_slot seen.now i s) → OnOk r (P (cells_of vs f.args.items f.structures.items))
  holds_after P p = on_ok_weaker r (λ (e : heaps_of vs f.args.items f.structures.items trail f.marks.items ≡ record seen { now = with_slot seen.now i s }).
      subst P (sym (ap (λ (w : Heaps). w.now) e)) p) view_after

  -- what holds of both holds of the heap now, also after an error
  pub always_after : (P : Cells → Type 0) → P (with_slot seen.now i s) → P seen.now → P (cells_of vs f.args.items f.structures.items)
  always_after P p q = go r (holds_after P p) refused
    where
      go : (x : Result A E) → OnOk x (P (cells_of vs f.args.items f.structures.items)) → OnErr x ((vs ≡ f.variables.items) × (trail ≡ f.trail.items)) → P (cells_of vs f.args.items f.structures.items)
      go (Ok x) a b = a
      go (Err e) a b = subst (λ (l : List Variable). P (cells_of l f.args.items f.structures.items)) (sym b.0) (subst P (sym (now_is f seen view_is)) q)
