-- The numbers that are reached from the first ones.
use Rattle.std.proofs.Common.{◌≡◌, ℕ, zero, suc, ◌+◌, ◌<◌, ◌≤◌, ◌⊎◌, inl, inr, Bool, true, false, cond, List, [], ◌∷◌, ◌++◌, length, get_or, refl, sym, ap, ◌∙◌}
use Rattle.std.proofs.Common.{arith, true≢false, append_assoc, append-nil}
use Rattle.std.specs.Prelude.{◌||◌, nat_eq, slice_get, Some, None}
use Rattle.std.proofs.lemmas.Option.{slice_get_within, get_or_from_slice_get}
use Rattle.std.specs.List.{list_any, IsDistinct}
use Rattle.std.proofs.lemmas.Bool.{eqb-true, eq-eqb, cases_lt}
use Rattle.std.proofs.lemmas.List.{get_or_append_left}
use Rattle.std.proofs.lemmas.List.Folds.{list_any-append, list_any_at}
use Rattle.std.proofs.lemmas.Map.Steps.{length-le_from_distinct_below}
use Rattle.std.proofs.Math.Bool.{or-false}
use Rattle.indexmap.specs.IndexSet.{insert_key}
use Rattle.text_warnings.specs.Graphs.{is_in, leads_to, AreBelow, AreLed, IsFrontOf, IsLed, at_first, by_edge}

pub or_cases : (a b : Bool) → (a || b) ≡ true → (a ≡ true) ⊎ (b ≡ true)
or_cases true b e = inl refl
or_cases false b e = inr e

pub or_left : (a b : Bool) → a ≡ true → (a || b) ≡ true
or_left a b e = ap (λ x. x || b) e

pub or_right : (a b : Bool) → b ≡ true → (a || b) ≡ true
or_right true b e = refl
or_right false b e = e

-- ---- one more number

pub in_insert : (ns : List ℕ) (n m : ℕ) → is_in (insert_key nat_eq ns m) n ≡ (is_in ns n || nat_eq n m)
in_insert ns n m = pick (list_any (nat_eq m) ns) refl
  where
    among : list_any (nat_eq m) ns ≡ true → (b : Bool) → nat_eq n m ≡ b → is_in ns n ≡ (is_in ns n || b)
    among h true e = let t : is_in ns n ≡ true = ap (is_in ns) (eqb-true n m e) ∙ h in t ∙ sym (or_right (is_in ns n) true refl)
    among h false e = sym (or-false (is_in ns n))

    pick : (b : Bool) → list_any (nat_eq m) ns ≡ b → is_in (cond b ns (ns ++ m ∷ [])) n ≡ (is_in ns n || nat_eq n m)
    pick true e = among e (nat_eq n m) refl
    pick false e = list_any-append (nat_eq n) ns (m ∷ []) ∙ ap (λ b. is_in ns n || b) (or-false (nat_eq n m))

front_insert : (ns : List ℕ) (m : ℕ) → IsFrontOf ns (insert_key nat_eq ns m)
front_insert ns m = pick (list_any (nat_eq m) ns)
  where
    pick : (b : Bool) → IsFrontOf ns (cond b ns (ns ++ m ∷ []))
    pick true = ([], sym (append-nil ns))
    pick false = (m ∷ [], refl)

-- what a loop has put in
pub record HasPut (old numbers ns : List ℕ) : Type 0 where
  pub members : (n : ℕ) → is_in ns n ≡ (is_in old n || is_in numbers n)
  pub grown : IsFrontOf old ns

pub put_none : (old : List ℕ) → HasPut old [] old
put_none old = record { members = λ n. sym (or-false (is_in old n)); grown = ([], sym (append-nil old)) }

pub put_more : (old numbers next ns new : List ℕ) (m : ℕ) → HasPut old numbers ns → new ≡ insert_key nat_eq ns m → next ≡ numbers ++ m ∷ [] → HasPut old next new
put_more old numbers next ns new m h e split = record {
  members = λ n.
      ap (λ l. is_in l n) e ∙ in_insert ns n m ∙ ap (λ b. b || nat_eq n m) (h.members n) ∙ assoc (is_in old n) (is_in numbers n) (nat_eq n m)
      ∙ ap (λ b. is_in old n || b) (ap (λ b. is_in numbers n || b) (sym (or-false (nat_eq n m))) ∙ sym (list_any-append (nat_eq n) numbers (m ∷ [])) ∙ ap (λ l. is_in l n) (sym split));
  grown = let more = front_insert ns m in (h.grown.0 ++ more.0, e ∙ more.1 ∙ ap (λ l. l ++ more.0) h.grown.1 ∙ append_assoc old h.grown.0 more.0);
}
  where
    assoc : (a b d : Bool) → ((a || b) || d) ≡ (a || (b || d))
    assoc true b d = refl
    assoc false b d = refl

-- ---- a number at its place

pub in_at : (ns : List ℕ) (i : ℕ) → i < length ns → is_in ns (get_or ns i 0) ≡ true
in_at ns i h = list_any_at (nat_eq (get_or ns i 0)) ns i 0 h (eq-eqb (get_or ns i 0) (get_or ns i 0) refl)

place_later : (x : ℕ) (xs : List ℕ) (n : ℕ) → (i : ℕ) × (i < length xs) × (get_or xs i 0 ≡ n) → (i : ℕ) × (i < length (x ∷ xs)) × (get_or (x ∷ xs) i 0 ≡ n)
place_later x xs n w = (suc w.0, omega (arith, w.1), w.2)

pub place_of : (ns : List ℕ) (n : ℕ) → is_in ns n ≡ true → (i : ℕ) × (i < length ns) × (get_or ns i 0 ≡ n)
place_of [] n e = absurd (true≢false (sym e))
place_of (x ∷ xs) n e = elim (or_cases (nat_eq n x) (is_in xs n) e) [ inl h ↦ (0, omega arith, sym (eqb-true n x h)) | inr h ↦ place_later x xs n (place_of xs n h) ]

-- a number that is read at its place
pub found_at : (ns : List ℕ) (i n : ℕ) → slice_get ns i ≡ Some n → (i < length ns) × (n ≡ get_or ns i 0)
found_at ns i n e = (slice_get_within ns i n e, sym (get_or_from_slice_get ns i n 0 e))

pub none_at : (ns : List ℕ) (i : ℕ) → slice_get ns i ≡ None → length ns ≤ i
none_at [] i e = omega arith
none_at (n ∷ ns) zero e = absurd cc
none_at (n ∷ ns) (suc i) e = let rest = none_at ns i e in omega (arith, rest)

-- ---- the search

module _ (starts : List ℕ) (edges : List (List ℕ)) where
  -- those at the first places are dealt with
  pub record IsReaching (at : ℕ) (ns : List ℕ) : Type 0 where
    pub below : AreBelow (length edges) ns
    pub sound : (n : ℕ) → is_in ns n ≡ true → IsLed starts edges n
    pub firsts : (n : ℕ) → is_in starts n ≡ true → is_in ns n ≡ true
    pub closed : (i : ℕ) → i < at → i < length ns → (n : ℕ) → is_in (leads_to edges (get_or ns i 0)) n ≡ true → is_in ns n ≡ true

  pub begun : (ns : List ℕ) → AreBelow (length edges) starts → ((n : ℕ) → is_in ns n ≡ is_in starts n) → IsReaching 0 ns
  begun ns below h = record {
    below = λ n e. below n (sym (h n) ∙ e);
    sound = λ n e. at_first (sym (h n) ∙ e);
    firsts = λ n e. h n ∙ e;
    closed = λ i l. absurd (omega (arith, l));
  }

  pub reaching_more : (at : ℕ) (ns new : List ℕ) (m : ℕ) → IsReaching at ns → at < length ns → m ≡ get_or ns at 0 → AreBelow (length edges) (leads_to edges m)
      → ((n : ℕ) → is_in new n ≡ (is_in ns n || is_in (leads_to edges m) n)) → IsFrontOf ns new → IsReaching (at + 1) new
  reaching_more at ns new m r inside is below members front = record {
    below = λ n e. elim (or_cases (is_in ns n) (is_in (leads_to edges m) n) (sym (members n) ∙ e)) [ inl h ↦ r.below n h | inr h ↦ below n h ];
    sound = λ n e. elim (or_cases (is_in ns n) (is_in (leads_to edges m) n) (sym (members n) ∙ e)) [
      | inl h ↦ r.sound n h
      | inr h ↦ by_edge (r.sound m (ap (is_in ns) is ∙ in_at ns at inside)) h
    ];
    firsts = λ n e. members n ∙ or_left (is_in ns n) (is_in (leads_to edges m) n) (r.firsts n e);
    closed = λ i l k n e. old i (cases i l) n e;
  }
    where
      cases : (i : ℕ) → i < at + 1 → (i < at) ⊎ (i ≡ at)
      cases i l = elim (cases_lt i at) [ inl h ↦ inl h | inr h ↦ inr (omega arith) ]

      kept : (i : ℕ) → i < length ns → get_or new i 0 ≡ get_or ns i 0
      kept i h = ap (λ l. get_or l i 0) front.1 ∙ get_or_append_left ns front.0 0 i h

      old : (i : ℕ) → (i < at) ⊎ (i ≡ at) → (n : ℕ) → is_in (leads_to edges (get_or new i 0)) n ≡ true → is_in new n ≡ true
      old i (inl h) n e =
          let here : i < length ns = omega (arith, h, inside) in
          members n ∙ or_left (is_in ns n) (is_in (leads_to edges m) n) (r.closed i h here n (ap (λ k. is_in (leads_to edges k) n) (sym (kept i here)) ∙ e))
      old i (inr h) n e =
          let here : i < length ns = omega (arith, h, inside) in
          members n ∙ or_right (is_in ns n) (is_in (leads_to edges m) n) (ap (λ k. is_in (leads_to edges k) n) (is ∙ ap (λ j. get_or ns j 0) (sym h) ∙ sym (kept i here)) ∙ e)

  complete : (at : ℕ) (ns : List ℕ) → IsReaching at ns → length ns ≤ at → (n : ℕ) → IsLed starts edges n → is_in ns n ≡ true
  complete at ns r whole n (at_first e) = r.firsts n e
  complete at ns r whole n (by_edge {m = m} h e) =
      let here = place_of ns m (complete at ns r whole m h) in
      r.closed here.0 (omega (arith, here.1, whole)) here.1 n (ap (λ k. is_in (leads_to edges k) n) here.2 ∙ e)

  -- all are dealt with
  pub reached_all : (at : ℕ) (ns : List ℕ) → IsReaching at ns → length ns ≤ at → AreLed starts edges ns
  reached_all at ns r whole = λ n. (r.sound n, complete at ns r whole n)

  pub as_many : (at : ℕ) (ns : List ℕ) → IsReaching at ns → IsDistinct nat_eq ns → length ns ≤ length edges
  as_many at ns r d = length-le_from_distinct_below ns (length edges) d (λ q e. r.below q e)
