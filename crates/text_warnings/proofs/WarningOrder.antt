-- Warnings in the order of their places.
use Rattle.std.proofs.Common.{◌≡◌, ℕ, ◌<◌, ◌≤◌, ◌⊎◌, inl, inr, Bool, true, false, cond, ltb, List, [], ◌∷◌, ◌++◌, Result, Ok, Err, length, map, get_or, refl}
use Rattle.std.proofs.Common.{sym, ap, ap₂, ◌∙◌, subst, arith}
use Rattle.std.specs.Prelude.{◌==◌, ◌&&◌, not, filter, All, OnOk}
use Rattle.std.specs.Ordering.{is_lt, nat_cmp}
use Rattle.std.specs.declared.cmp.Ordering.TheVariants.{Less, Equal, Greater}
use Rattle.std.specs.List.Sorted.{IsPermutation, IsNonDecreasingBy, IsStableByKey, ties}
use Rattle.std.proofs.lemmas.Bool.Decides.{nat_tests}
use Rattle.std.proofs.lemmas.Bool.{cases_order}
use Rattle.std.proofs.lemmas.List.{get_or-map, length-map}
use Rattle.std.proofs.lemmas.List.Sorted.{All-permutation}
use Rattle.term_pool.specs.Contents.{Contents}
use Rattle.term_reader.specs.declared.reader.Sentences.{Sentences}
use Rattle.term_reader.specs.Sentences.{sentences_of}
use Rattle.text_warnings.specs.declared.Warning.{Warning}
use Rattle.text_warnings.specs.declared.Concern.TheVariants.{Single}
use Rattle.text_warnings.specs.Warnings as model
use Rattle.text_warnings.specs.Warnings.{AreWarnings, all_warnings}
use Rattle.text_warnings.specs.WarningViews.{warning_in, AddsAll, IsWarningWithin}

pub on_ok : {T E P Q : Type 0} → (r : Result T E) → (P → Q) → OnOk r P → OnOk r Q
on_ok (Ok x) f h = f h
on_ok (Err e) f h = tt

lt_of : (t u : Bool) → is_lt (cond t Less (cond u Equal Greater)) ≡ t
lt_of true u = refl
lt_of false true = refl
lt_of false false = refl

tests_by : (p q : ℕ) → (p ≡ q) ⊎ ((p < q) ⊎ (q < p)) → (not (ltb p q) && not (ltb q p)) ≡ (q == p)
tests_by p q (inl e) = grind (arith, nat_tests)
tests_by p q (inr (inl l)) = grind (arith, nat_tests)
tests_by p q (inr (inr l)) = grind (arith, nat_tests)

-- two places tie where they are the same
tie : (p q : ℕ) → (not (is_lt (nat_cmp p q)) && not (is_lt (nat_cmp q p))) ≡ (q == p)
tie p q = ap₂ (λ (a b : Bool). not a && not b) (lt_of (ltb p q) (p == q)) (lt_of (ltb q p) (q == p)) ∙ tests_by p q (cases_order p q)

-- those at one place
abbrev at_place : ℕ → Warning → Bool
at_place p w = w.place == p

filter_same : {A : Type 0} (p q : A → Bool) → ((x : A) → p x ≡ q x) → (xs : List A) → filter p xs ≡ filter q xs
filter_same {A} p q h [] = refl
filter_same {A} p q h (x ∷ xs) = ap₂ (λ (b : Bool) (l : List A). cond b (x ∷ l) l) (h x) (filter_same p q h xs)

filter_map_same : (c : Contents) (p : ℕ) (ws : List Warning) → filter (λ w. w.place == p) (map (warning_in c) ws) ≡ map (warning_in c) (filter (at_place p) ws)
filter_map_same c p [] = refl
filter_map_same c p (w ∷ ws) = by (w.place == p) (filter_map_same c p ws)
  where
    by : (b : Bool) → filter (λ w. w.place == p) (map (warning_in c) ws) ≡ map (warning_in c) (filter (at_place p) ws)
        → cond b (warning_in c w ∷ filter (λ w. w.place == p) (map (warning_in c) ws)) (filter (λ w. w.place == p) (map (warning_in c) ws)) ≡ map (warning_in c)
        (cond b (w ∷ filter (at_place p) ws) (filter (at_place p) ws))
    by true h = ap (λ (l : List model.Warning). warning_in c w ∷ l) h
    by false h = h

pub sorted : (starts : List ℕ) (s : Sentences) (none old new : List Warning) → none ≡ [] → AddsAll starts s none old → IsNonDecreasingBy (λ w. w.place) new
    → IsStableByKey (λ w. w.place) nat_cmp old new → AreWarnings starts (sentences_of s) (map (warning_in s.pool) new)
sorted starts s none old new empty a rising stable = record {
  reached = a.reached;
  tells = a.tells;
  rising = λ i j d order h.
      let long = length-map new (warning_in s.pool) in
      let inside : j < length new = omega (arith, long, h) in
      let first : i < length new = omega (arith, order, inside) in
      let zero_w : Warning = record { place = 0; concern = Single (record { number = 0 }) } in
      subst (λ (w : model.Warning). w.place ≤ (get_or (map (warning_in s.pool) new) j d).place) (sym (get_or-map (warning_in s.pool) new i zero_w d first))
      (subst (λ (w : model.Warning). (get_or new i zero_w).place ≤ w.place) (sym (get_or-map (warning_in s.pool) new j zero_w d inside)) (rising i j zero_w order inside));
  same = λ p.
      filter_map_same s.pool p new
      ∙ ap (map (warning_in s.pool))
      (filter_same (at_place p) (ties (λ x y. is_lt (nat_cmp x.place y.place)) (record { place = p; concern = Single (record { number = 0 }) })) (λ w. sym (tie p w.place)) new
      ∙ stable (record { place = p; concern = Single (record { number = 0 }) })
      ∙ filter_same (ties (λ x y. is_lt (nat_cmp x.place y.place)) (record { place = p; concern = Single (record { number = 0 }) })) (at_place p) (λ w. tie p w.place) old)
      ∙ sym (filter_map_same s.pool p old)
      ∙ ap (filter (λ w. w.place == p)) (a.adds.are ∙ ap (λ (ws : List Warning). map (warning_in s.pool) ws ++ all_warnings starts a.reached (sentences_of s)) empty);
}

pub sorted_within : (starts : List ℕ) (s : Sentences) (none old new : List Warning) → none ≡ [] → AddsAll starts s none old → IsPermutation old new → All (IsWarningWithin s.pool) new
sorted_within starts s none old new empty a moved =
    All-permutation (IsWarningWithin s.pool) old new moved (a.adds.within (subst (All (IsWarningWithin s.pool)) (sym empty) (λ k d h. absurd (omega (arith, h)))))
