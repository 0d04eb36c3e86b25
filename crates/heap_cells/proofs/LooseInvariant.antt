-- What holds of loose variables stays while a heap changes.
use Rattle.std.proofs.Common.{◌≡◌, ◌≢◌, ℕ, ◌<◌, refl, ap, sym, ◌∙◌, subst, arith, inl, inr, List, [], ◌∷◌, ◌++◌, length, get_or, set, take, drop, reverse}
use Rattle.std.proofs.Common.{get_or-set_other, get_or-set_same}
use Rattle.std.specs.Prelude.{All, OnOk, OnErr, Result, Ok, Err}
use Rattle.std.proofs.lemmas.Bool.{cases_eq, cases_lt}
use Rattle.std.proofs.lemmas.List.{get_or_append_left, reverse-append, length-map}
use Rattle.std.proofs.lemmas.List.Elements.{All-drop}
use Rattle.std.proofs.Math.Seq.{take-length, drop-length}
use Rattle.heap_cells.specs.declared.Cell.{Cell}
use Rattle.heap_cells.specs.declared.Cell.TheVariants as cell
use Rattle.heap_cells.specs.declared.Variable.{Variable}
use Rattle.heap_cells.specs.declared.Variable.TheVariants as variable
use Rattle.heap_cells.specs.declared.Structure.{Structure}
use Rattle.heap_cells.specs.declared.Saved.{Saved}
use Rattle.heap_cells.specs.declared.Mark.{Mark}
use Rattle.heap_cells.specs.Cells.{Slot, free, linked, bound, Compound, Cells, Heaps, slot_at, IsOf, with_slot, with_new_slot, with_compound}
use Rattle.heap_cells.specs.HeapInvariant.{IsHeap}
use Rattle.heap_cells.specs.HeapFields.{slot_of, cells_of, restored, saved_at, trailed, lengths, held, held_all, AreLoose, AreLooseAt, AreStored, AreSound}
use Rattle.heap_cells.specs.HeapFields.{HasArgs}
use Rattle.heap_cells.proofs.Elements.{head_of, tail_of, both_of}
use Rattle.heap_cells.proofs.Marks.{each_up_to, below_newest, at_mark_same, marked_same, changed_stored, now_changed}
use Rattle.heap_cells.proofs.Bindings.{slot_there, slot_elsewhere}
use Rattle.heap_cells.proofs.HeapGrowth.{new_slot_at, at_part}
use Rattle.heap_cells.proofs.Levels.{marked_here, var_at_mark, args_each, args_stored, args_view, struct_each, var_now}
use Rattle.heap_cells.proofs.HeapUndo.{now_undone, vars_undone, mark_undone, all_falls, all_held, order}
use Rattle.heap_cells.proofs.LooseVariables.{IsHeldMore, more_same, cells_more, stored_more, loose_at_more, held_more, all_held_more, held_open, all_held_open}

-- the same variables and the same heap
alike : (us vs : List Variable) (g h : Cells) → us ≡ vs → g ≡ h → AreLoose vs h → AreLoose us g
alike us vs g h a b l = subst (λ k. AreLoose us k) (sym b) (subst (λ (ws : List Variable). AreLoose ws h) (sym a) l)

bound_once : (c d : Cell) → bound c ≡ bound d → c ≡ d
bound_once c d e = cc

-- ---- now

-- one more variable, which is loose
pub var_loose : (vs : List Variable) (h : Cells) → IsHeap h → length h.slots ≡ length vs → AreLoose vs h → AreLoose (vs ++ variable.Loose ∷ []) (with_new_slot h)
var_loose vs h valid same l i e = elim (cases_lt i (length vs)) [
  | inl q ↦
      let u = l i (sym (get_or_append_left vs (variable.Loose ∷ []) variable.Open i q) ∙ e) in
      record { parts = u.parts; slots = λ k b. u.slots k (sym (new_slot_at h.slots k) ∙ b) }
  | inr q ↦ record {
    parts = λ j k d n c. (let o : IsOf h (cell.Ref i) = subst (IsOf h) c (valid.parts j k d n) in absurd (omega (arith, o, q, same)));
    slots = λ k b. (let o : IsOf h (cell.Ref i) = valid.slots k (cell.Ref i) (sym (new_slot_at h.slots k) ∙ b) in absurd (omega (arith, o, q, same)));
  }
]

-- a variable that changes to one that isn't loose, where no loose one is bound by it
pub changed_loose : (vs new : List Variable) (h : Cells) (i : ℕ) (v : Variable) (s : Slot) → i < length vs → v ≢ variable.Loose → IsHeldMore new (set vs i v)
    → ((j : ℕ) → get_or new j variable.Open ≡ variable.Loose → s ≢ bound (cell.Ref j)) → i < length h.slots → AreLoose vs h → AreLoose new (with_slot h i s)
changed_loose vs new h i v s there set_to m free_of own l j e =
    let was : get_or (set vs i v) j variable.Open ≡ variable.Loose = m.fewer j e in
    let other : j ≢ i = λ q. set_to (sym (get_or-set_same vs i v variable.Open there) ∙ ap (λ k. get_or (set vs i v) k variable.Open) (sym q) ∙ was) in
    let u = l j (sym (get_or-set_other vs i j v variable.Open other) ∙ was) in
    record {
      parts = u.parts;
      slots = λ k b. elim (cases_eq k i) [
        | inl q ↦ free_of j e (sym (slot_there h i s own) ∙ ap (slot_at (with_slot h i s)) (sym q) ∙ b)
        | inr d ↦ u.slots k (sym (slot_elsewhere h i k s d) ∙ b)
      ];
    }

-- one more compound term, whose arguments are held
pub struct_loose : (vs new : List Variable) (h : Cells) (k : Compound) → IsHeldMore new vs
    → ((j : ℕ) → get_or new j variable.Open ≡ variable.Loose → All (λ c. c ≢ cell.Ref j) k.args) → AreLoose vs h → AreLoose new (with_compound h k)
struct_loose vs new h k m free_of l i e =
    let u = l i (m.fewer i e) in
    record {
      parts = at_part h k (λ j d. All (λ c. c ≢ cell.Ref i) d.args) (λ j q. u.parts j) (free_of i e) (λ j q n d b. absurd (omega arith));
      slots = u.slots;
    }

-- ---- at the marks

module _ (vs : List Variable) (args : List Cell) (ss : List Structure) (trail : List Saved) (marks : List Mark) (k : AreSound vs args ss trail marks) where
  pub var_loose_below : All (AreLooseAt (vs ++ variable.Loose ∷ []) args ss trail) (reverse marks)
  var_loose_below = λ n d l. (let m = get_or (reverse marks) n d in
      let e = var_at_mark vs args ss trail (reverse marks) variable.Loose k.stored.falls m
      (each_up_to (lengths vs args ss trail) (reverse marks) k.stored.falls n d l) in
      alike _ _ _ _ e (ap (λ (us : List Variable). cells_of us args (take m.structures ss)) e) (k.loose_below n d l))

  pub changed_loose_below : (i : ℕ) (to : Variable) → All (AreLooseAt (set vs i to) args ss (trailed (reverse marks) trail (saved_at vs i))) (reverse marks)
  changed_loose_below i to = λ n d l. (let m = get_or (reverse marks) n d in
      let t = (each_up_to (lengths vs args ss trail) (reverse marks) k.stored.falls n d l).trail in
      let v = below_newest (lengths vs args ss trail) (reverse marks) k.stored.falls n d l in
      alike _ _ _ _ (at_mark_same vs args ss trail (reverse marks) i to k.stored.falls m t v) (marked_same vs args ss trail (reverse marks) i to k.stored.falls m t v) (k.loose_below n d l))

  pub args_loose_below : (more : List Cell) → All (AreLooseAt vs (args ++ more) ss trail) (reverse marks)
  args_loose_below more = λ n d l. alike _ _ _ _ refl (args_each vs args more ss trail (reverse marks) k.stored.falls k.stored.held_below n d l) (k.loose_below n d l)

  pub args_sound : (more : List Cell) → AreSound vs (args ++ more) ss trail marks
  args_sound more = record {
    stored = args_stored vs args more ss trail marks k.stored;
    loose = alike _ _ _ _ refl (ap (λ (h : Heaps). h.now) (args_view vs args more ss trail marks k.stored)) k.loose;
    loose_below = args_loose_below more;
  }

  pub mark_sound : AreStored vs args ss trail (marks ++ lengths vs args ss trail ∷ []) → AreSound vs args ss trail (marks ++ lengths vs args ss trail ∷ [])
  mark_sound stored =
      let here : Mark = lengths vs args ss trail in
      let whole : take (length vs) (restored (drop (length trail) trail) vs) ≡ vs = ap (λ es. take (length vs) (restored es vs)) (drop-length trail) ∙ take-length vs in
      record {
        stored = stored;
        loose = k.loose;
        loose_below = subst (All (AreLooseAt vs args ss trail)) (sym (reverse-append marks (here ∷ [])))
            (both_of (AreLooseAt vs args ss trail) here (reverse marks) (alike _ _ _ _ whole (marked_here vs args ss trail) k.loose) k.loose_below);
      }

  pub dropped_sound : (left : List Mark) (n : ℕ) → reverse left ≡ drop n (reverse marks) → AreStored vs args ss trail left → AreSound vs args ss trail left
  dropped_sound left n e stored = record {
    stored = stored;
    loose = k.loose;
    loose_below = subst (All (AreLooseAt vs args ss trail)) (sym e) (All-drop (AreLooseAt vs args ss trail) n (reverse marks) k.loose_below);
  }

  pub var_sound : AreStored (vs ++ variable.Loose ∷ []) args ss trail marks → AreSound (vs ++ variable.Loose ∷ []) args ss trail marks
  var_sound stored = record {
    stored = stored;
    loose = alike _ _ _ _ refl (var_now vs args ss) (var_loose vs (cells_of vs args ss) k.stored.now (length-map vs slot_of) k.loose);
    loose_below = var_loose_below;
  }

  -- a variable that changes, and maybe others that are held by it
  pub changed_sound : (i : ℕ) (v : Variable) (s : Slot) (new : List Variable) → i < length vs → slot_of v ≡ s → v ≢ variable.Loose → IsHeldMore new (set vs i v)
      → ((j : ℕ) → get_or new j variable.Open ≡ variable.Loose → s ≢ bound (cell.Ref j))
      → IsHeap (with_slot (cells_of vs args ss) i s) → AreSound new args ss (trailed (reverse marks) trail (saved_at vs i)) marks
  changed_sound i v s new there is set_to m free_of valid =
      let h : Cells = cells_of vs args ss in
      let slots : length h.slots ≡ length vs = length-map vs slot_of in
      let own : i < length h.slots = omega (arith, slots, there) in
      record {
        stored = stored_more args ss (trailed (reverse marks) trail (saved_at vs i)) new (set vs i v) m marks
            (changed_stored vs args ss trail marks i v k.stored (subst (λ r. IsHeap (with_slot h i r)) (sym is) valid));
        loose = alike _ _ _ _ refl (cells_more args ss new (set vs i v) m ∙ now_changed vs args ss trail (reverse marks) i v k.stored.falls
            ∙ ap (with_slot h i) is) (changed_loose vs new h i v s there set_to m free_of own k.loose);
        loose_below = λ n d l. loose_at_more args ss (trailed (reverse marks) trail (saved_at vs i)) new (set vs i v) m (get_or (reverse marks) n d) (changed_loose_below i v n d l);
      }

  -- a variable that is bound to a cell, which is held by it
  pub bound_sound : (i : ℕ) (v : Variable) (c : Cell) → i < length vs → slot_of v ≡ bound c → IsHeap (with_slot (cells_of vs args ss) i (bound c))
      → AreSound (held (set vs i v) c) args ss (trailed (reverse marks) trail (saved_at vs i)) marks
  bound_sound i v c there is valid =
      changed_sound i v (bound c) (held (set vs i v) c) there is (λ e. absurd (let f : free ≡ bound c = sym (ap slot_of e) ∙ is in cc)) (held_more (set vs i v) c)
      (λ j l q. held_open (set vs i v) j c l (bound_once c (cell.Ref j) q)) valid

  -- a compound term whose arguments are held
  pub struct_sound : (more : List Cell) (s : Structure) (h : Cells) (j : Compound) → cells_of vs (args ++ more) (ss ++ s ∷ []) ≡ with_compound h j
      → cells_of vs args ss ≡ h → j.args ≡ more → AreStored vs (args ++ more) ss trail marks
      → AreStored vs (args ++ more) (ss ++ s ∷ []) trail marks → AreSound (held_all vs more) (args ++ more) (ss ++ s ∷ []) trail marks
  struct_sound more s h j grown now_is are before stored =
      let m = all_held_more vs more in
      record {
        stored = stored_more (args ++ more) (ss ++ s ∷ []) trail (held_all vs more) vs m marks stored;
        loose = alike _ _ _ _ refl (cells_more (args ++ more) (ss ++ s ∷ []) (held_all vs more) vs m ∙ grown)
            (struct_loose vs (held_all vs more) h j m (λ i e. subst (All (λ c. c ≢ cell.Ref i)) (sym are) (all_held_open vs i more e)) (subst (AreLoose vs) now_is k.loose));
        loose_below = λ n d l. loose_at_more (args ++ more) (ss ++ s ∷ []) trail (held_all vs more) vs m (get_or (reverse marks) n d)
            (alike _ _ _ _ refl (struct_each vs (args ++ more) ss trail (reverse marks) s before.falls n d l) (args_loose_below more n d l));
      }

-- a heap with nothing in it
pub empty_sound : (vs : List Variable) (args : List Cell) (ss : List Structure) (trail : List Saved) (marks : List Mark) → vs ≡ [] → marks ≡ []
    → AreStored vs args ss trail marks → AreSound vs args ss trail marks
empty_sound vs args ss trail marks none no_marks stored = record {
  stored = stored;
  loose = λ i e. (let f : variable.Open ≡ variable.Loose = ap (λ l. get_or l i variable.Open) (sym none) ∙ e in absurd cc);
  loose_below = subst (λ (ms : List Mark). All (AreLooseAt vs args ss trail) (reverse ms)) (sym no_marks) (λ n d l. absurd (omega arith));
}

-- the heap at the newest mark
pub undo_sound : (vs : List Variable) (args : List Cell) (ss : List Structure) (trail : List Saved) (marks front : List Mark) (m : Mark)
    (are : marks ≡ front ++ m ∷ []) (k : AreSound vs args ss trail marks)
    → AreStored (take m.variables (restored (drop m.trail trail) vs)) (take m.args args) (take m.structures ss) (take m.trail trail) front
    → AreSound (take m.variables (restored (drop m.trail trail) vs)) (take m.args args) (take m.structures ss) (take m.trail trail) front
undo_sound vs args ss trail marks front m are k stored =
    let all = subst (All (AreLooseAt vs args ss trail)) (order vs args ss trail marks front m are k.stored) k.loose_below in
    let falls = all_falls vs args ss trail marks front m are k.stored in
    let held' = all_held vs args ss trail marks front m are k.stored in
    let first = head_of (λ (n : Mark). All (HasArgs n.args) (take n.structures ss)) m (reverse front) held' in
    let others = tail_of (λ (n : Mark). All (HasArgs n.args) (take n.structures ss)) m (reverse front) held' in
    record {
      stored = stored;
      loose = alike _ _ _ _ refl (now_undone vs args ss trail m (reverse front) falls.0 falls.1 first others) (head_of (AreLooseAt vs args ss trail) m (reverse front) all);
      loose_below = λ n d l. (let u = each_up_to m (reverse front) falls.1 n d l in
          alike _ _ _ _ (vars_undone vs args ss trail m (reverse front) falls.0 falls.1 first others (get_or (reverse front) n d) u)
          (mark_undone vs args ss trail m (reverse front) falls.0 falls.1 first others (get_or (reverse front) n d) u (others n d l))
          (tail_of (AreLooseAt vs args ss trail) m (reverse front) all n d l));
    }

-- a call that changes one variable to one of the store, or nothing
pub linked_sound : {A F : Type 0} (r : Result A F) (vs : List Variable) (args : List Cell) (ss : List Structure) (trail : List Saved) (marks : List Mark)
    (k : AreSound vs args ss trail marks) (i n : ℕ) (new : List Variable) (after : List Saved)
    → i < length vs → OnOk r (new ≡ set vs i (variable.Constrained n)) → OnOk r (after ≡ trailed (reverse marks) trail (saved_at vs i))
    → OnErr r ((new ≡ vs) × (after ≡ trail)) → IsHeap (with_slot (cells_of vs args ss) i (linked n)) → AreSound new args ss after marks
linked_sound (Ok x) vs args ss trail marks k i n new after there a b c valid =
    let v : Variable = variable.Constrained n in
    subst (λ (l : List Variable). AreSound l args ss after marks) (sym a)
    (subst (λ (l : List Saved). AreSound (set vs i v) args ss l marks) (sym b)
    (changed_sound vs args ss trail marks k i v (linked n) (set vs i v) there refl (λ e. absurd cc) (more_same (set vs i v)) (λ j e. λ q. absurd cc) valid))
linked_sound (Err x) vs args ss trail marks k i n new after there a b c valid =
    subst (λ (l : List Variable). AreSound l args ss after marks) (sym c.0) (subst (λ (l : List Saved). AreSound vs args ss l marks) (sym c.1) k)
