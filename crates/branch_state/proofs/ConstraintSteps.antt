-- A constraint's ranges, its variables and its touches, one after the other.
use Rattle.std.proofs.Common.{◌≡◌, ℕ, zero, suc, ◌+◌, ◌<◌, ◌≤◌, true, false, ◌==◌, nat_lt, ℤ, List, [], ◌∷◌, ◌++◌, length, map, take, get_or, Some, refl, ap}
use Rattle.std.proofs.Common.{sym, ◌∙◌, subst, inl, inr, arith, eq-eqb}
use Rattle.std.proofs.lemmas.Bool.{cases_Bool, or_left, or_right}
use Rattle.std.proofs.lemmas.Bool.Decides.{nat_tests}
use Rattle.std.proofs.lemmas.List.{take_more}
use Rattle.heap_cells.proofs.Lemmas.{number_of}
use Rattle.fd_language.specs.Family.{has}
use Rattle.fd_language.specs.Range.{Range, Indexical}
use Rattle.fd_language.proofs.Lemmas.{in_left, only_member}
use Rattle.heap_cells.specs.declared.Cell.TheVariants as cell
use Rattle.heap_cells.specs.Cells.{Cells, Heaps, Slot, free, linked, bound, is_bound, slot_at, with_slot, with_now}
use Rattle.heap_cells.specs.SeenCells.{IsRoot}
use Rattle.constraint_expand.specs.Posts.{indexicals}
use Rattle.range_code.specs.Slots.{slots_of}
use Rattle.unify_core.specs.declared.Touch.{Touch}
use Rattle.unify_core.specs.declared.Touch.TheVariants.{Value}
use Rattle.branch_lemmas.specs.Frames.{link_of, link_in}
use Rattle.branch_lemmas.proofs.Lemmas.{slot_behind}
use Rattle.branch_state.specs.Constraints.{variables_in, firsts, store_variable, row_touches, with_integers, AreFrom, AreOpen, AreLinked}
use Rattle.branch_state.specs.StoreVariables.{or_zero}
use Rattle.branch_state.proofs.ConstraintHeaps.{bound_size, bound_else}

-- ---- lists

-- ---- ranges

abbrev pub of_pair : ℕ × Range → Indexical
of_pair p = record { target = p.0; range = p.1 }

pub indexicals_map : (ps : List (ℕ × Range)) → indexicals ps ≡ map of_pair ps
indexicals_map [] = refl
indexicals_map (p ∷ ps) = ap (λ (l : List Indexical). of_pair p ∷ l) (indexicals_map ps)

-- ---- touches

touches_both : (of : ℕ → ℕ) (ds : List (ℕ × ℤ)) (d : ℕ × ℤ) → row_touches of (ds ++ d ∷ []) ≡ row_touches of ds ++ Value (of d.0) d.1 ∷ []
touches_both of [] d = refl
touches_both of (e ∷ ds) d = ap (λ (l : List Touch). Value (of e.0) e.1 ∷ l) (touches_both of ds d)

pub touches_step : (of : ℕ → ℕ) (ds : List (ℕ × ℤ)) (i : ℕ) (d : ℕ × ℤ) → i < length ds → (done new : List Touch) (t : Touch)
    → done ≡ row_touches of (take i ds) → t ≡ Value (of (get_or ds i d).0) (get_or ds i d).1 → new ≡ done ++ t ∷ [] → new ≡ row_touches of (take (i + 1) ds)
touches_step of ds i d l done new t e is n =
    n ∙ ap (λ (l : List Touch). l ++ t ∷ []) e ∙ ap (λ (u : Touch). row_touches of (take i ds) ++ u ∷ []) is
    ∙ sym (ap (row_touches of) (take_more ds i d l) ∙ touches_both of (take i ds) (get_or ds i d))

-- ---- bindings

integers_both : (ds : List (ℕ × ℤ)) (d : ℕ × ℤ) (h : Cells) → with_integers (ds ++ d ∷ []) h ≡ with_slot (with_integers ds h) d.0 (bound (cell.Int d.1))
integers_both [] d h = refl
integers_both (e ∷ ds) d h = integers_both ds d (with_slot h e.0 (bound (cell.Int e.1)))

pub integers_step : (ds : List (ℕ × ℤ)) (i : ℕ) (d : ℕ × ℤ) → i < length ds → (h : Cells)
    → with_slot (with_integers (take i ds) h) (get_or ds i d).0 (bound (cell.Int (get_or ds i d).1)) ≡ with_integers (take (i + 1) ds) h
integers_step ds i d l h = sym (ap (λ l. with_integers l h) (take_more ds i d l) ∙ integers_both (take i ds) (get_or ds i d) h)

-- ---- linked variables

pub linked_slot : (h : Cells) (x k : ℕ) → link_in h x ≡ Some k → slot_at h x ≡ linked k
linked_slot h x k e = by_slot (slot_at h x) e where
  by_slot : (s : Slot) → link_of s ≡ Some k → s ≡ linked k
  by_slot free e = absurd (cc)
  by_slot (linked j) e = let f : j ≡ k = cc in ap linked f
  by_slot (bound c) e = absurd (cc)

pub linked_own : (h : Cells) (x k : ℕ) → link_in h x ≡ Some k → x < length h.slots
linked_own h x k e = elim (cases_Bool (nat_lt x (length h.slots))) [
  | inl t ↦ (let l : x < length h.slots = grind (arith, nat_tests) in l)
  | inr t ↦ absurd (let l : length h.slots ≤ x = grind (arith, nat_tests) in let f : free ≡ linked k = sym (slot_behind h x l) ∙ linked_slot h x k e in cc)
]

linked_root : (h : Cells) (x k : ℕ) → link_in h x ≡ Some k → IsRoot h (cell.Ref x)
linked_root h x k e = ap is_bound (linked_slot h x k e)

-- what a linked variable is seen as
pub seen_linked : (h : Cells) (x : ℕ) → AreLinked h (x ∷ []) → (i k : ℕ) → slot_at h i ≡ linked k → (IsRoot h (cell.Ref x) → cell.Ref x ≡ cell.Ref i) → k ≡ store_variable h x
seen_linked h x a i k s top =
    let l = a x (or_left (x == x) false (eq-eqb x x refl)) in
    sym (ap or_zero (ap (link_in h) (number_of x i (top (linked_root h x l.0 l.1))) ∙ ap link_of s))

-- variables of a list that are linked
pub one_linked : (h : Cells) (xs : List ℕ) (x : ℕ) → has xs x ≡ true → AreLinked h xs → AreLinked h (x ∷ [])
one_linked h xs x i a y e = subst (λ z. (k : ℕ) × (link_in h z ≡ Some k)) (only_member x y e) (a x i)

pub has_at : (xs : List ℕ) (i d : ℕ) → i < length xs → has xs (get_or xs i d) ≡ true
has_at [] i d l = absurd (omega (arith, l))
has_at (x ∷ xs) zero d l = or_left (x == x) (has xs x) (eq-eqb x x refl)
has_at (x ∷ xs) (suc i) d l = or_right (x == get_or xs i d) (has xs (get_or xs i d)) (has_at xs i d (omega (arith, l)))

pub at_linked : (h : Cells) (xs : List ℕ) (i d : ℕ) → i < length xs → AreLinked h xs → AreLinked h (get_or xs i d ∷ [])
at_linked h xs i d l a = one_linked h xs (get_or xs i d) (has_at xs i d l) a

pub target_linked : (h : Cells) (p : Indexical) → AreLinked h (variables_in (p ∷ [])) → AreLinked h (p.target ∷ [])
target_linked h p a = one_linked h (variables_in (p ∷ [])) p.target (or_left (p.target == p.target) (has (slots_of p.range ++ []) p.target) (eq-eqb p.target p.target refl)) a

pub slots_linked : (h : Cells) (p : Indexical) → AreLinked h (variables_in (p ∷ [])) → AreLinked h (slots_of p.range)
slots_linked h p a y e = a y (or_right (p.target == y) (has (slots_of p.range ++ []) y) (in_left (slots_of p.range) [] y e))

first_linked : (h : Cells) (ds : List (ℕ × ℤ)) (i : ℕ) (d : ℕ × ℤ) → i < length ds → has (firsts ds) (get_or ds i d).0 ≡ true
first_linked h [] i d l = absurd (omega (arith, l))
first_linked h (e ∷ ds) zero d l = or_left (e.0 == e.0) (has (firsts ds) e.0) (eq-eqb e.0 e.0 refl)
first_linked h (e ∷ ds) (suc i) d l = or_right (e.0 == (get_or ds i d).0) (has (firsts ds) (get_or ds i d).0) (first_linked h ds i d (omega (arith, l)))

pub equated_linked : (h : Cells) (ds : List (ℕ × ℤ)) (i : ℕ) (d : ℕ × ℤ) → i < length ds → AreLinked h (firsts ds) → AreLinked h ((get_or ds i d).0 ∷ [])
equated_linked h ds i d l a = one_linked h (firsts ds) (get_or ds i d).0 (first_linked h ds i d l) a

-- ---- the next variable to be bound

from_at : (n : ℕ) (ds : List (ℕ × ℤ)) (i : ℕ) (d : ℕ × ℤ) → AreFrom n ds → i < length ds → (get_or ds i d).0 ≡ n + i
from_at n [] i d f l = absurd (omega (arith, l))
from_at n (e ∷ ds) zero d f l = f.0 ∙ (let e : n ≡ n + 0 = omega arith in e)
from_at n (e ∷ ds) (suc i) d f l = from_at (suc n) ds i d f.1 (omega (arith, l)) ∙ (let e : suc n + i ≡ n + suc i = omega arith in e)

take_from : (n : ℕ) (ds : List (ℕ × ℤ)) (i : ℕ) → AreFrom n ds → AreFrom n (take i ds)
take_from n [] zero f = tt
take_from n [] (suc i) f = tt
take_from n (d ∷ ds) zero f = tt
take_from n (d ∷ ds) (suc i) f = (f.0, take_from (suc n) ds i f.1)

length_take : (ds : List (ℕ × ℤ)) (i : ℕ) → i < length ds → length (take i ds) ≡ i
length_take [] i l = absurd (omega (arith, l))
length_take (d ∷ ds) zero l = refl
length_take (d ∷ ds) (suc i) l = ap suc (length_take ds i (omega (arith, l)))

pub next_there : (n : ℕ) (ds : List (ℕ × ℤ)) (h : Cells) → AreFrom n ds → AreOpen n ds h → (i : ℕ) (d : ℕ × ℤ) → i < length ds → (g : Cells)
    → g ≡ with_integers (take i ds) h → (get_or ds i d).0 < length g.slots
next_there n ds h f o i d l g e =
    let a = from_at n ds i d f l in
    let u = o (get_or ds i d).0 (omega (arith, a)) (omega (arith, a, l)) in
    subst (λ (c : Cells). (get_or ds i d).0 < length c.slots) (sym e) (subst (λ k. (get_or ds i d).0 < k) (sym (bound_size (take i ds) h)) u.0)

pub next_unbound : (n : ℕ) (ds : List (ℕ × ℤ)) (h : Cells) → AreFrom n ds → AreOpen n ds h → (i : ℕ) (d : ℕ × ℤ) → i < length ds → (g : Cells)
    → g ≡ with_integers (take i ds) h → is_bound (slot_at g (get_or ds i d).0) ≡ false
next_unbound n ds h f o i d l g e =
    let a = from_at n ds i d f l in
    let t = length_take ds i l in
    let u = o (get_or ds i d).0 (omega (arith, a)) (omega (arith, a, l)) in
    ap (λ (c : Cells). is_bound (slot_at c (get_or ds i d).0)) e ∙ ap is_bound (bound_else n (take i ds) h (take_from n ds i f) (get_or ds i d).0 (inr (omega (arith, a, t)))) ∙ u.1

pub bound_step : (ds : List (ℕ × ℤ)) (i : ℕ) (d : ℕ × ℤ) → i < length ds → (first old new : Heaps) (z : ℤ)
    → old ≡ with_now first (with_integers (take i ds) first.now) → z ≡ (get_or ds i d).1
    → new ≡ with_now old (with_slot old.now (get_or ds i d).0 (bound (cell.Int z))) → new ≡ with_now first (with_integers (take (i + 1) ds) first.now)
bound_step ds i d l first old new z e same n =
    n ∙ ap (λ (w : ℤ). with_now old (with_slot old.now (get_or ds i d).0 (bound (cell.Int w)))) same
    ∙ ap (λ (x : Heaps). with_now x (with_slot x.now (get_or ds i d).0 (bound (cell.Int (get_or ds i d).1)))) e ∙ ap (with_now first) (integers_step ds i d l first.now)
