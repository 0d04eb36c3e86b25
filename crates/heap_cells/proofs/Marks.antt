-- The heaps at the marks stay as they are while the current one changes.
use Rattle.std.proofs.Common.{◌≡◌, ℕ, zero, suc, ◌≤◌, Bool, true, false, cond, refl, ap, sym, ◌∙◌, subst, arith, List, [], ◌∷◌, ◌++◌, length, map, get_or, set}
use Rattle.std.proofs.Common.{take, drop, reverse, length-append, length-set}
use Rattle.std.specs.Prelude.{All, nat_lt}
use Rattle.std.proofs.lemmas.Bool.Decides.{nat_tests}
use Rattle.std.proofs.lemmas.List.{map-set, set-get_or, drop-append-le, take-set-le, set-set}
use Rattle.heap_cells.specs.declared.Cell.{Cell}
use Rattle.heap_cells.specs.declared.Variable.{Variable}
use Rattle.heap_cells.specs.declared.Variable.TheVariants as variable
use Rattle.heap_cells.specs.declared.Structure.{Structure}
use Rattle.heap_cells.specs.declared.Saved.{Saved}
use Rattle.heap_cells.specs.declared.Mark.{Mark}
use Rattle.heap_cells.specs.Cells.{Slot, Cells, Heaps, with_slot}
use Rattle.heap_cells.specs.HeapInvariant.{IsHeap}
use Rattle.heap_cells.specs.HeapFields.{slot_of, compound_of, cells_of, heaps_of, AreStored, restored, saved_at, newest, trailed, IsUpTo, Fall, lengths, marked}
use Rattle.heap_cells.proofs.Elements.{head_of, tail_of, both_of}

pub map_same : {X Y : Type 0} (P : X → Type 0) (f g : X → Y) → ((x : X) → P x → f x ≡ g x) → (xs : List X) → All P xs → map f xs ≡ map g xs
map_same P f g e [] h = refl
map_same P f g e (x ∷ xs) h = let a = e x (head_of P x xs h) in let b = map_same P f g e xs (tail_of P x xs h) in cc

-- marks
pub up_to_itself : (n : Mark) → IsUpTo n n
up_to_itself n = record { variables = omega arith; args = omega arith; structures = omega arith; trail = omega arith }

pub up_to_both : (n m k : Mark) → IsUpTo n m → IsUpTo m k → IsUpTo n k
up_to_both n m k a b = record { variables = omega arith; args = omega arith; structures = omega arith; trail = omega arith }

pub fall_more : (n m : Mark) (ms : List Mark) → IsUpTo n m → Fall m ms → Fall n ms
fall_more n m [] u f = tt
fall_more n m (k ∷ ms) u f = (up_to_both n m k u f.0, f.1)

pub each_up_to : (n : Mark) (ms : List Mark) → Fall n ms → All (IsUpTo n) ms
each_up_to n [] f = λ k d l. absurd (omega arith)
each_up_to n (m ∷ ms) f = both_of (IsUpTo n) m ms f.0 (each_up_to n ms (fall_more n m ms f.0 f.1))

pub below_newest : (n : Mark) (ms : List Mark) → Fall n ms → All (λ m. m.variables ≤ newest ms) ms
below_newest n [] f = λ k d l. absurd (omega arith)
below_newest n (m ∷ ms) f = both_of (λ (k : Mark). k.variables ≤ m.variables) m ms (omega arith) (λ k d l. (each_up_to m ms f.1 k d l).variables)

pub take_set : {X : Type 0} (n : ℕ) (xs : List X) (i : ℕ) (x : X) → take n (set xs i x) ≡ set (take n xs) i x
take_set zero xs i x = refl
take_set (suc n) [] i x = refl
take_set (suc n) (z ∷ zs) zero x = refl
take_set (suc n) (z ∷ zs) (suc i) x = ap (λ l. z ∷ l) (take_set n zs i x)

pub restored-take : (n : ℕ) (es : List Saved) (vs : List Variable) → take n (restored es vs) ≡ restored es (take n vs)
restored-take n [] vs = refl
restored-take n (e ∷ es) vs = take_set n (restored es vs) e.at e.was ∙ ap (λ l. set l e.at e.was) (restored-take n es vs)

pub restored-append : (es ds : List Saved) (vs : List Variable) → restored (es ++ ds) vs ≡ restored es (restored ds vs)
restored-append [] ds vs = refl
restored-append (e ∷ es) ds vs = ap (λ l. set l e.at e.was) (restored-append es ds vs)

pub length-restored : (es : List Saved) (vs : List Variable) → length (restored es vs) ≡ length vs
length-restored [] vs = refl
length-restored (e ∷ es) vs = length-set (restored es vs) e.at e.was ∙ length-restored es vs

-- a change that is saved where it is older than the newest mark
module _ (vs : List Variable) (args : List Cell) (ss : List Structure) (trail : List Saved) (ms : List Mark) (i : ℕ) (to : Variable) (falls : Fall (lengths vs args ss trail) ms) where
  undone : set (set vs i to) i (get_or vs i variable.Open) ≡ vs
  undone = set-set vs i to (get_or vs i variable.Open) ∙ set-get_or vs i variable.Open

  marked_saved : (m : Mark) → m.trail ≤ length trail → take m.variables (restored (drop m.trail (trail ++ saved_at vs i ∷ [])) (set vs i to)) ≡ take m.variables (restored (drop m.trail trail) vs)
  marked_saved m l =
      ap (λ es. take m.variables (restored es (set vs i to))) (drop-append-le m.trail trail (saved_at vs i ∷ []) l)
      ∙ ap (take m.variables) (restored-append (drop m.trail trail) (saved_at vs i ∷ []) (set vs i to) ∙ ap (restored (drop m.trail trail)) undone)

  marked_younger : (m : Mark) → m.variables ≤ i → take m.variables (restored (drop m.trail trail) (set vs i to)) ≡ take m.variables (restored (drop m.trail trail) vs)
  marked_younger m l =
      restored-take m.variables (drop m.trail trail) (set vs i to)
      ∙ ap (restored (drop m.trail trail)) (take-set-le m.variables vs i to l)
      ∙ sym (restored-take m.variables (drop m.trail trail) vs)

  abbrev if_saved : Bool → List Saved
  if_saved b = cond b (trail ++ saved_at vs i ∷ []) trail

  older : (b : Bool) → nat_lt i (newest ms) ≡ b → (m : Mark) → m.trail ≤ length trail → m.variables ≤ newest ms
      → take m.variables (restored (drop m.trail (if_saved b)) (set vs i to)) ≡ take m.variables (restored (drop m.trail trail) vs)
  older true e m t v = marked_saved m t
  older false e m t v = marked_younger m (let l : newest ms ≤ i = grind (arith, nat_tests) in omega arith)

  pub at_mark_same : (m : Mark) → m.trail ≤ length trail → m.variables ≤ newest ms
      → take m.variables (restored (drop m.trail (trailed ms trail (saved_at vs i))) (set vs i to)) ≡ take m.variables (restored (drop m.trail trail) vs)
  at_mark_same m t v = older (nat_lt i (newest ms)) refl m t v

  pub marked_same : (m : Mark) → m.trail ≤ length trail → m.variables ≤ newest ms → marked (set vs i to) args ss (trailed ms trail (saved_at vs i)) m ≡ marked vs args ss trail m
  marked_same m t v = ap (λ (l : List Variable). cells_of l args (take m.structures ss)) (at_mark_same m t v)

  pub each_same : All (λ m. marked (set vs i to) args ss (trailed ms trail (saved_at vs i)) m ≡ marked vs args ss trail m) ms
  each_same = λ k d l. marked_same (get_or ms k d) (each_up_to (lengths vs args ss trail) ms falls k d l).trail (below_newest (lengths vs args ss trail) ms falls k d l)

  pub below_same : map (marked (set vs i to) args ss (trailed ms trail (saved_at vs i))) ms ≡ map (marked vs args ss trail) ms
  below_same = map_same (λ m. marked (set vs i to) args ss (trailed ms trail (saved_at vs i)) m ≡ marked vs args ss trail m)
      (marked (set vs i to) args ss (trailed ms trail (saved_at vs i))) (marked vs args ss trail) (λ m e. e) ms each_same

  pub now_changed : cells_of (set vs i to) args ss ≡ with_slot (cells_of vs args ss) i (slot_of to)
  now_changed = ap (λ (l : List Slot). let h : Cells = record { slots = l; compounds = map (compound_of args) ss } in h) (map-set slot_of vs i to)

  trail_longer : (b : Bool) → length trail ≤ length (if_saved b)
  trail_longer true = omega (arith, length-append trail (saved_at vs i ∷ []))
  trail_longer false = omega arith

  pub lengths_more : IsUpTo (lengths (set vs i to) args ss (trailed ms trail (saved_at vs i))) (lengths vs args ss trail)
  lengths_more = record { variables = omega (arith, length-set vs i to); args = omega arith; structures = omega arith; trail = trail_longer (nat_lt i (newest ms)) }

pub changed_stored : (vs : List Variable) (args : List Cell) (ss : List Structure) (trail : List Saved) (marks : List Mark) (i : ℕ) (to : Variable) → AreStored vs args ss trail marks
    → IsHeap (with_slot (cells_of vs args ss) i (slot_of to)) → AreStored (set vs i to) args ss (trailed (reverse marks) trail (saved_at vs i)) marks
changed_stored vs args ss trail marks i to k v = record {
  now = subst IsHeap (sym (now_changed vs args ss trail (reverse marks) i to k.falls)) v;
  below = λ n d l. subst IsHeap (sym (each_same vs args ss trail (reverse marks) i to k.falls n d l)) (k.below n d l);
  held = k.held;
  held_below = k.held_below;
  falls = fall_more (lengths (set vs i to) args ss (trailed (reverse marks) trail (saved_at vs i))) (lengths vs args ss trail) (reverse marks)
      (lengths_more vs args ss trail (reverse marks) i to k.falls) k.falls;
}

pub changed_view : (vs : List Variable) (args : List Cell) (ss : List Structure) (trail : List Saved) (marks : List Mark) (i : ℕ) (to : Variable) → AreStored vs args ss trail marks
    → heaps_of (set vs i to) args ss (trailed (reverse marks) trail (saved_at vs i)) marks ≡ record (heaps_of vs args ss trail marks) { now = with_slot (cells_of vs args ss) i (slot_of to) }
changed_view vs args ss trail marks i to k =
    let a = now_changed vs args ss trail (reverse marks) i to k.falls in
    let b = below_same vs args ss trail (reverse marks) i to k.falls in
    ap (λ (h : Cells). let r : Heaps = record { now = h; below = map (marked (set vs i to) args ss (trailed (reverse marks) trail (saved_at vs i))) (reverse marks) } in r) a
    ∙ ap (λ (l : List Cells). let r : Heaps = record { now = with_slot (cells_of vs args ss) i (slot_of to); below = l } in r) b
