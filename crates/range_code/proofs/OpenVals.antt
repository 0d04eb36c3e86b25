-- Whether a val is open, told from the slots that are read by val.
use Rattle.std.proofs.Common.{◌≡◌, ℕ, suc, ◌<◌, Bool, true, cond, ◌&&◌, List, [], ◌∷◌, filter, length, Option, refl, sym, ◌∙◌, ap, subst, inl, inr, arith}
use Rattle.std.proofs.Common.{eq-eqb}
use Rattle.std.specs.List.{All, list_any}
use Rattle.std.proofs.lemmas.Bool.{cases_Bool, true≢false, or_left, or_right, or_cases}
use Rattle.std.proofs.lemmas.List.Elements.{All-nil, All-cons, All-head, All-tail}
use Rattle.std.specs.Cmp.{both_ways}
use Rattle.fd_language.specs.declared.range_node.Feature.{Feature}
use Rattle.fd_language.specs.declared.range_node.Feature.TheVariants as feature
use Rattle.fd_language.specs.declared.range_node.Need.{Need}
use Rattle.fd_language.specs.Family.{Family, count_up}
use Rattle.fd_language.specs.Range.{is_several}
use Rattle.fd_language.specs.Features.{is_val, is_same_pair}
use Rattle.fd_language.proofs.Lemmas.{in_count_up, has-filter, any_to}
use Rattle.range_code.specs.declared.frame.Arg.{Arg}
use Rattle.range_code.specs.Frames.{AreArgs}
use Rattle.range_code.specs.ValSlots.{has_pair}
use Rattle.range_code.specs.Nodes.{IsSeen}
use Rattle.range_code.specs.Standings.{opens}
use Rattle.range_code.proofs.Standings.{same_is}

-- what holds of each number that passes holds of all that are kept
pub all_kept : (p : ℕ → Bool) (P : ℕ → Type 0) (xs : List ℕ) → ((x : ℕ) → p x ≡ true → P x) → All P (filter p xs)
all_kept p P [] h = All-nil P
all_kept p P (x ∷ xs) h = elim (cases_Bool (p x)) [
  | inl e ↦ subst (λ b. All P (cond b (x ∷ filter p xs) (filter p xs))) (sym e) (All-cons P x (filter p xs) (h x e) (all_kept p P xs h))
  | inr e ↦ subst (λ b. All P (cond b (x ∷ filter p xs) (filter p xs))) (sym e) (all_kept p P xs h)
]

pub one_pair : (P : ℕ → Type 0) (ds : List (ℕ × Feature)) (s : ℕ) (f : Feature) → All (λ d. P d.0) ds → has_pair ds (s, f) ≡ true → P s
one_pair P [] s f h g = absurd (true≢false (sym g))
one_pair P (d ∷ ds) s f h g = elim (or_cases (is_same_pair (s, f) d) (has_pair ds (s, f)) g) [
  | inl e ↦ subst (λ q. P q.0) (sym (same_is (s, f) d e)) (All-head (λ q. P q.0) d ds h)
  | inr e ↦ one_pair P ds s f (All-tail (λ q. P q.0) d ds h) e
]

any_kept : (p t : ℕ → Bool) (xs : List ℕ) → list_any t (filter p xs) ≡ true → (s : ℕ) × (p s ≡ true) × (t s ≡ true)
any_kept p t [] h = absurd (true≢false (sym h))
any_kept p t (x ∷ xs) h = elim (cases_Bool (p x)) [
  | inl e ↦ elim (or_cases (t x) (list_any t (filter p xs)) (sym (ap (λ b. list_any t (cond b (x ∷ filter p xs) (filter p xs))) e) ∙ h)) [
    | inl g ↦ (x, e, g)
    | inr g ↦ any_kept p t xs g
  ]
  | inr e ↦ any_kept p t xs (sym (ap (λ b. list_any t (cond b (x ∷ filter p xs) (filter p xs))) e) ∙ h)
]

module _ (S : Family) where
  opened_by : (ds : List (ℕ × Feature)) (s : ℕ) → has_pair ds (s, feature.Val) ≡ true → is_several (S s) ≡ true → list_any (opens S) ds ≡ true
  opened_by [] s h g = absurd (true≢false (sym h))
  opened_by (d ∷ ds) s h g = elim (or_cases (is_same_pair (s, feature.Val) d) (has_pair ds (s, feature.Val)) h) [
    | inl e ↦ or_left (opens S d) (list_any (opens S) ds) (ap (opens S) (sym (same_is (s, feature.Val) d e)) ∙ g)
    | inr e ↦ or_right (opens S d) (list_any (opens S) ds) (opened_by ds s e g)
  ]

  here : (s n : ℕ) (f : Feature) (ds : List (ℕ × Feature)) → s < n → (is_val f && is_several (S s)) ≡ true
      → (z : ℕ) × (z < n) × (has_pair ((s, f) ∷ ds) (z, feature.Val) ≡ true) × (is_several (S z) ≡ true)
  here s n feature.Val ds l h = (s, l, or_left (is_same_pair (s, feature.Val) (s, feature.Val)) (has_pair ds (s, feature.Val)) (ap (λ b. b && true) (eq-eqb s s refl)), h)
  here s n feature.Min ds l h = absurd (true≢false (sym h))
  here s n feature.Max ds l h = absurd (true≢false (sym h))
  here s n feature.Dom ds l h = absurd (true≢false (sym h))

  opener : (n : ℕ) (ds : List (ℕ × Feature)) → All (λ d. d.0 < n) ds → list_any (opens S) ds ≡ true → (z : ℕ) × (z < n) × (has_pair ds (z, feature.Val) ≡ true) × (is_several (S z) ≡ true)
  opener n [] h g = absurd (true≢false (sym g))
  opener n (d ∷ ds) h g = elim (or_cases (opens S d) (list_any (opens S) ds) g) [
    | inl e ↦ here d.0 n d.1 ds (All-head (λ q. q.0 < n) d ds h) e
    | inr e ↦ let k = opener n ds (All-tail (λ q. q.0 < n) d ds h) e in (k.0, k.1, or_right (is_same_pair (k.0, feature.Val) d) (has_pair ds (k.0, feature.Val)) k.2, k.3)
  ]

  -- some slot that is read by val has several members exactly where some pair says so
  pub vals_open : (ds : List (ℕ × Feature)) (n : ℕ) → All (λ d. d.0 < n) ds → list_any (λ s. is_several (S s)) (filter (λ s. has_pair ds (s, feature.Val)) (count_up 0 n)) ≡ list_any (opens S) ds
  vals_open ds n h = both_ways (list_any (λ s. is_several (S s)) (filter (λ s. has_pair ds (s, feature.Val)) (count_up 0 n))) (list_any (opens S) ds)
      (λ g. let k = any_kept (λ s. has_pair ds (s, feature.Val)) (λ s. is_several (S s)) (count_up 0 n) g in opened_by ds k.0 k.1 k.2)
      (λ g. let k = opener n ds h g in any_to (λ s. is_several (S s)) (filter (λ s. has_pair ds (s, feature.Val)) (count_up 0 n)) k.0
      (has-filter (λ s. has_pair ds (s, feature.Val)) (count_up 0 n) k.0 (in_count_up 0 n k.0 (omega arith) (let l : k.0 < n = k.1 in omega arith)) k.2) k.3)

args_length : (count : ℕ) (ns : List (Option Need)) (args : List Arg) → AreArgs count ns args → length args ≡ length ns
args_length count [] [] h = refl
args_length count [] (a ∷ as') h = absurd h
args_length count (n ∷ ns) [] h = absurd h
args_length count (n ∷ ns) (a ∷ as') h = ap suc (args_length count ns as' h.1)

-- a slot with an argument is one of the slots
pub all_below : (count : ℕ) (ns : List (Option Need)) (args : List Arg) (n : ℕ) (ds : List (ℕ × Feature)) → AreArgs count ns args → length ns ≡ n
    → All (λ d. IsSeen count args d.0) ds → All (λ d. d.0 < n) ds
all_below count ns args n [] h e g = All-nil (λ d. d.0 < n)
all_below count ns args n (d ∷ ds) h e g =
    let seen : IsSeen count args d.0 = All-head (λ q. IsSeen count args q.0) d ds g in
    All-cons (λ q. q.0 < n) d ds (subst (λ k. d.0 < k) (args_length count ns args h ∙ e) seen.0) (all_below count ns args n ds h e (All-tail (λ q. IsSeen count args q.0) d ds g))
