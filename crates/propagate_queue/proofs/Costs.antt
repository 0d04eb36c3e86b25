-- The heap of those that wait.
use Rattle.std.proofs.Common.{◌≡◌, ℕ, suc, ◌+◌, ◌-◌, ◌^◌, ◌<◌, ◌≤◌, min, Bool, true, false, cond, ◌==◌, List, [], ◌∷◌, map, length, refl, ap, sym, ◌∙◌, inl}
use Rattle.std.proofs.Common.{inr, arith, eqb-true, All, nat_lt}
use Rattle.std.specs.Prelude.{Result, Ok, Err, OnOk}
use Rattle.std.specs.Result.{is_ok}
use Rattle.std.specs.List.{sum_by}
use Rattle.std.specs.List.Sorted.{IsPermutation}
use Rattle.std.specs.Ordering.{is_lt, ordering_then, nat_cmp}
use Rattle.std.specs.BinaryHeap.{IsHeap, IsUpperBound}
use Rattle.std.specs.declared.cmp.Ordering.{Ordering}
use Rattle.std.specs.declared.cmp.Ordering.TheVariants.{Less, Equal, Greater}
use Rattle.std.proofs.lemmas.Bool.{cases_Bool, true≢false, eqb-false, ltb-false}
use Rattle.std.proofs.lemmas.List.{length-map}
use Rattle.std.proofs.lemmas.List.Elements.{All-cons, All-nil, All-tail, All-map}
use Rattle.std.proofs.lemmas.List.Sums.{sum_by-cons}
use Rattle.std.proofs.lemmas.List.Sorted.{sum_by-IsPermutation, IsPermutation-map, All-permutation, length_permutation}
use Rattle.propagate_queue.specs.Queues.{times}
use Rattle.propagate_queue.specs.AgendaEntries.{AgendaEntry, agents_of, IsBefore, IsCheapest}
use Rattle.propagate_queue.specs.AgendaHeap.{Entry, waiting, entry_cmp, AreHeaped}

-- what holds on success, of a call that succeeded
pub was_ok : {T E P : Type 0} (r : Result T E) → is_ok r ≡ true → OnOk r P → P
was_ok (Ok x) h p = p
was_ok (Err e) h p = absurd (true≢false (sym h))

times_is : (k : ℕ) (xs : List ℕ) → times k xs ≡ sum_by (λ a. cond (a == k) 1 0) xs
times_is k [] = refl
times_is k (a ∷ as') = step (a == k) (times k as') ∙ ap (λ n. cond (a == k) 1 0 + n) (times_is k as') ∙ sym (sum_by-cons (λ a. cond (a == k) 1 0) a as') where
  step : (b : Bool) (n : ℕ) → cond b (suc n) n ≡ cond b 1 0 + n
  step true n = omega arith
  step false n = omega arith

-- a list in another order
pub times_permutation : (k : ℕ) (xs ys : List ℕ) → IsPermutation xs ys → times k ys ≡ times k xs
times_permutation k xs ys h = times_is k ys ∙ sum_by-IsPermutation (λ a. cond (a == k) 1 0) xs ys h ∙ sym (times_is k xs)

-- neither part of a comparison is less
neither_less : (a b c : Bool) (o p : Ordering) → is_lt (ordering_then (ordering_then (cond a Less (cond b Equal Greater)) (cond c Less o)) p) ≡ false → (a ≡ false) × (b ≡ true → c ≡ false)
neither_less true b c o p h = absurd (true≢false h)
neither_less false true true o p h = absurd (true≢false h)
neither_less false true false o p h = (refl, λ e. refl)
neither_less false false c o p h = (refl, λ e. absurd (true≢false (sym e)))

before : (x y : Entry) → is_lt (entry_cmp x y) ≡ false → IsBefore (waiting x) (waiting y)
before x y h =
    let parts : (nat_lt y.0.0 x.0.0 ≡ false) × ((y.0.0 == x.0.0) ≡ true → nat_lt y.0.1 x.0.1 ≡ false) = neither_less (nat_lt y.0.0 x.0.0) (y.0.0 == x.0.0)
    (nat_lt y.0.1 x.0.1) (cond (y.0.1 == x.0.1) Equal Greater) (nat_cmp y.0.2 x.0.2) h in
    elim (cases_Bool (y.0.0 == x.0.0)) [
      | inl e ↦ inr (sym (eqb-true y.0.0 x.0.0 e), ltb-false y.0.1 x.0.1 (parts.1 e))
      | inr e ↦ let other : y.0.0 ≡ x.0.0 → ⊥ = eqb-false y.0.0 x.0.0 e in inl (omega (arith, ltb-false y.0.0 x.0.0 parts.0, other))
    ]

all_before : (x : Entry) (es : List Entry) → IsUpperBound entry_cmp x es → All (λ e. IsBefore (waiting x) (waiting e)) es
all_before x [] h = All-nil (λ e. IsBefore (waiting x) (waiting e))
all_before x (e ∷ es) h = All-cons (λ y. IsBefore (waiting x) (waiting y)) e es (before x e h.0) (all_before x es h.1)

-- one more on the heap
pub heaped_more : (es es' : List Entry) (e : Entry) (puts : ℕ) → AreHeaped es puts → puts ≤ 2 ^ 64 - 1 → e.0.1 ≡ puts → IsPermutation (e ∷ es) es'
    → (IsHeap entry_cmp es → IsHeap entry_cmp es') → AreHeaped es' (min (puts + 1) (2 ^ 64 - 1))
heaped_more es es' e puts h low f p k = record {
  heap = k h.heap;
  turns = All-permutation (λ x. x.0.1 ≤ min (puts + 1) (2 ^ 64 - 1)) (e ∷ es) es' p
      (All-cons (λ x. x.0.1 ≤ min (puts + 1) (2 ^ 64 - 1)) e es (omega (arith, f, room)) (λ i d l. omega (arith, h.turns i d l, room)));
  earlier = λ few. All-permutation (λ x. x.0.1 < min (puts + 1) (2 ^ 64 - 1)) (e ∷ es) es' p
      (All-cons (λ x. x.0.1 < min (puts + 1) (2 ^ 64 - 1)) e es (omega (arith, f, few)) (λ i d l. omega (arith, h.turns i d l, few)));
} where
  room : puts ≤ min (puts + 1) (2 ^ 64 - 1)
  room = omega (arith, low)

-- the greatest leaves the heap
pub heaped_less : (es es' : List Entry) (e : Entry) (puts : ℕ) → AreHeaped es puts → IsPermutation es (e ∷ es')
    → (IsHeap entry_cmp es → IsHeap entry_cmp es' × IsUpperBound entry_cmp e es) → AreHeaped es' puts
heaped_less es es' e puts h p k = record {
  heap = (k h.heap).0;
  turns = All-tail (λ x. x.0.1 ≤ puts) e es' (All-permutation (λ x. x.0.1 ≤ puts) es (e ∷ es') p h.turns);
  earlier = λ low. All-tail (λ x. x.0.1 < puts) e es' (All-permutation (λ x. x.0.1 < puts) es (e ∷ es') p (h.earlier low));
}

pub cheapest : (es es' : List Entry) (e : Entry) (puts : ℕ) → AreHeaped es puts → IsPermutation es (e ∷ es')
    → (IsHeap entry_cmp es → IsHeap entry_cmp es' × IsUpperBound entry_cmp e es) → IsCheapest (map waiting es) (map waiting es') e.0.2
cheapest es es' e puts h p k = (waiting e, refl, IsPermutation-map waiting es (e ∷ es') p, All-map (IsBefore (waiting e)) waiting es (all_before e es (k h.heap).1))

pub times_of : (k : ℕ) (es es' : List Entry) (e : Entry) → IsPermutation es (e ∷ es') → times k (agents_of (map waiting es)) ≡ times k (e.0.2 ∷ agents_of (map waiting es'))
times_of k es es' e p = sym (times_permutation k (agents_of (map waiting es)) (e.0.2 ∷ agents_of (map waiting es'))
    (IsPermutation-map (λ (w : AgendaEntry). w.agent) (map waiting es) (waiting e ∷ map waiting es') (IsPermutation-map waiting es (e ∷ es') p)))

pub length_of : (es : List Entry) → length (agents_of (map waiting es)) ≡ length es
length_of es = length-map (map waiting es) (λ (w : AgendaEntry). w.agent) ∙ length-map es waiting

pub times_more : (k : ℕ) (es es' : List Entry) (e : Entry) → IsPermutation (e ∷ es) es' → times k (agents_of (map waiting es')) ≡ times k (e.0.2 ∷ agents_of (map waiting es))
times_more k es es' e p = times_permutation k (e.0.2 ∷ agents_of (map waiting es)) (agents_of (map waiting es'))
    (IsPermutation-map (λ (w : AgendaEntry). w.agent) (waiting e ∷ map waiting es) (map waiting es') (IsPermutation-map waiting (e ∷ es) es' p))

pub length_more : (es es' : List Entry) (e : Entry) → IsPermutation (e ∷ es) es' → length (agents_of (map waiting es')) ≡ length (agents_of (map waiting es)) + 1
length_more es es' e p = omega (arith, length_of es, length_of es', length_permutation (e ∷ es) es' p)
