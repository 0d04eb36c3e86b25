-- The sets of ranges by the table, made of the sets of their parts.
use Rattle.std.proofs.Common.{◌≡◌, ℕ, zero, suc, ◌+◌, ◌<◌, ◌≤◌, Bool, not, ◌||◌, ◌&&◌, ℤ, pos, ◌+ℤ◌, ◌-ℤ◌, ◌*ℤ◌, int_le, List, [], ◌∷◌, filter, refl, sym, ◌∙◌}
use Rattle.std.proofs.Common.{inl, inr, arith}
use Rattle.std.specs.Prelude.{neg_ℤ}
use Rattle.std.specs.List.{list_any}
use Rattle.std.specs.Ordering.{int_eq}
use Rattle.std.proofs.lemmas.Int.{ints}
use Rattle.std.proofs.lemmas.Bool.{cases_Bool, true≢false}
use Rattle.std.proofs.lemmas.List.Elements.{filter_agree}
use Rattle.domain_ranges.proofs.Lemmas.{set_same}
use Rattle.fd_language.specs.Family.{has, universe, count_up, IsRising}
use Rattle.fd_language.specs.Range.{some_number}
use Rattle.fd_language.proofs.Lemmas.{has-filter, has-filter_back, universe_rising, in_universe, rising_same, rising_inside, rising-filter}
use Rattle.domain_ranges.specs.Sets.{is_shifted, is_scaled, is_quotient}

any_up : (p q : ℕ → Bool) (low k : ℕ) → ((n : ℕ) → n < low + k → p n ≡ q n) → list_any p (count_up low k) ≡ list_any q (count_up low k)
any_up p q low zero h = refl
any_up p q low (suc k) h = let here : p low ≡ q low = h low (omega arith) in let rest = any_up p q (suc low) k (λ n l. h n (omega arith)) in rw (here, rest) refl

pub any_within : (M : ℕ) (p q : ℕ → Bool) → ((n : ℕ) → n ≤ M → p n ≡ q n) → some_number M p ≡ some_number M q
unfolding universe
any_within M p q h = any_up p q 0 (suc M) (λ n l. h n (omega arith))

abbrev table : ℕ → (ℕ → Bool) → List ℕ
table M p = filter p (universe M)

has_table : (M : ℕ) (p : ℕ → Bool) (n : ℕ) → n ≤ M → has (table M p) n ≡ p n
has_table M p n h = elim (cases_Bool (p n)) [
  | inl e ↦ has-filter p (universe M) n (in_universe M n h) e ∙ sym e
  | inr e ↦ elim (cases_Bool (has (table M p) n)) [
    | inl g ↦ absurd (true≢false (sym (has-filter_back p (universe M) n g).1 ∙ e))
    | inr g ↦ g ∙ sym e
  ]
]

single_test : (t z : ℤ) → (int_le t z && int_le z t) ≡ int_eq t z
single_test t z = grind (arith, ints)

pub one_is : (M : ℕ) (t : ℤ) → filter (λ n. int_le t (pos n) && int_le (pos n) t) (universe M) ≡ filter (λ n. int_eq t (pos n)) (universe M)
one_is M t = filter_agree (λ n. int_le t (pos n) && int_le (pos n) t) (λ n. int_eq t (pos n)) (λ n. single_test t (pos n)) (universe M)

pub dom_is : (M : ℕ) (xs : List ℕ) → IsRising 0 M xs → xs ≡ table M (has xs)
dom_is M xs r = rising_same 0 M xs (table M (has xs)) r (rising-filter (has xs) 0 M (universe M) (universe_rising M))
    (record { each = λ n h. has-filter (has xs) (universe M) n ((rising_inside M xs r).each n h) h })
    (record { each = λ n h. (has-filter_back (has xs) (universe M) n h).1 })

pub union_is : (M : ℕ) (f g : ℕ → Bool) → filter (λ n. has (table M f) n || has (table M g) n) (universe M) ≡ table M (λ n. f n || g n)
union_is M f g = set_same M (λ n. has (table M f) n || has (table M g) n) (λ n. f n || g n) (λ n h. rw (has_table M f n h, has_table M g n h) refl)

filter_two : (p q : ℕ → Bool) (l : List ℕ) → filter p (filter q l) ≡ filter (λ z. q z && p z) l
filter_two p q [] = refl
filter_two p q (z ∷ l) = elim (cases_Bool (q z)) [
  | inl i ↦ let rest = filter_two p q l in rw (i, rest) refl
  | inr i ↦ let rest = filter_two p q l in rw (i, rest) refl
]

pub inter_is : (M : ℕ) (f g : ℕ → Bool) → filter (has (table M g)) (table M f) ≡ table M (λ n. f n && g n)
inter_is M f g = filter_two (has (table M g)) f (universe M) ∙ set_same M (λ n. f n && has (table M g) n) (λ n. f n && g n) (λ n h. rw (has_table M g n h) refl)

pub outside_is : (M : ℕ) (f : ℕ → Bool) → filter (λ n. not (has (table M f) n)) (universe M) ≡ table M (λ n. not (f n))
outside_is M f = set_same M (λ n. not (has (table M f) n)) (λ n. not (f n)) (λ n h. rw (has_table M f n h) refl)

-- a pointwise form, by the test of an operand and a number
moved_is : (M : ℕ) (f : ℕ → Bool) (test : ℕ → ℕ → Bool) → filter (λ n. some_number M (λ e. has (table M f) e && test e n)) (universe M) ≡ table M (λ n. some_number M (λ e. f e && test e n))
moved_is M f test = filter_agree (λ n. some_number M (λ e. has (table M f) e && test e n)) (λ n. some_number M (λ e. f e && test e n))
    (λ n. any_within M (λ e. has (table M f) e && test e n) (λ e. f e && test e n) (λ e h. rw (has_table M f e h) refl)) (universe M)

pub plus_is : (M : ℕ) (f : ℕ → Bool) (c : ℤ) → filter (is_shifted M (table M f) c) (universe M) ≡ table M (λ n. some_number M (λ e. f e && int_eq (pos e +ℤ c) (pos n)))
plus_is M f c = moved_is M f (λ e n. int_eq (pos e +ℤ c) (pos n))

pub minus_is : (M : ℕ) (f : ℕ → Bool) (c : ℤ) → filter (is_shifted M (table M f) (neg_ℤ c)) (universe M) ≡ table M (λ n. some_number M (λ e. f e && int_eq (pos e -ℤ c) (pos n)))
minus_is M f c = moved_is M f (λ e n. int_eq (pos e +ℤ neg_ℤ c) (pos n))

pub times_is : (M : ℕ) (f : ℕ → Bool) (c : ℤ) → filter (is_scaled M (table M f) c) (universe M) ≡ table M (λ n. some_number M (λ e. f e && int_eq (pos e *ℤ c) (pos n)))
times_is M f c = moved_is M f (λ e n. int_eq (pos e *ℤ c) (pos n))

pub over_is : (M : ℕ) (f : ℕ → Bool) (c : ℤ) → filter (is_quotient M (table M f) c) (universe M) ≡ table M (λ n. some_number M (λ e. f e && int_eq (pos n *ℤ c) (pos e)))
over_is M f c = moved_is M f (λ e n. int_eq (pos n *ℤ c) (pos e))
