-- A negated sum: its parts are the parts negated, and it is within the limits where the sum is.
use Rattle.std.proofs.Common.{◌≡◌, ℕ, zero, suc, ◌^◌, Bool, true, false, cond, ℤ, pos, negsuc, ◌+ℤ◌, ◌*ℤ◌, neg_ℤ, List, [], ◌∷◌, refl, sym, ap, ◌∙◌, arith}
use Rattle.std.proofs.Common.{Result, Ok, Err}
use Rattle.std.proofs.Math.IntN.{*ℤ_comm, *ℤ-negsuc, neg_ℤ-neg_ℤ}
use Rattle.std.proofs.lemmas.Int.{ints}
use Rattle.std.specs.Prelude.{nat_abs, nat_lt, ◌==◌, ◌&&◌, not, length, codes}
use Rattle.std.specs.Ordering.{int_eq}
use Rattle.std.specs.List.{list_all}
use Rattle.std.specs.Str.{bytes_eq}
use Rattle.fd_model.proofs.Lemmas.{mul_none}
use Rattle.fd_model.specs.declared.kinds.QueryFault.{QueryFault}
use Rattle.fd_model.specs.declared.kinds.QueryFault.TheVariants.{Evaluation, Nonlinear, BadType}
use Rattle.fd_language.specs.Term.{Term, Var, Int, Atom, Comp, no_terms, term, Name}
use Rattle.fd_model.specs.Linear.{Sum, with_product, with_products, scaled, nonzero, plus, times, is_constant, in_integers, is_within, checked, of_both, of_one}
use Rattle.fd_model.specs.Linear.{sum_of, difference_of, product_of, collect_term}
use Rattle.linear_forms.specs.Sums.{signed}

-- the product by -1 is the negation
pub neg_one : (z : ℤ) → negsuc 0 *ℤ z ≡ neg_ℤ z
neg_one (pos n) = ap (λ k. neg_ℤ (pos k)) (omega arith)
neg_one (negsuc n) = ap pos (omega arith)

neg_abs : (z : ℤ) → nat_abs (neg_ℤ z) ≡ nat_abs z
neg_abs (pos zero) = refl
neg_abs (pos (suc n)) = refl
neg_abs (negsuc n) = refl

pub is_zero : (z : ℤ) → int_eq z (pos 0) ≡ true → z ≡ pos 0
is_zero z h = grind (arith, ints)

neg_zero : (z : ℤ) → int_eq (neg_ℤ z) (pos 0) ≡ int_eq z (pos 0)
neg_zero (pos zero) = refl
neg_zero (pos (suc n)) = grind (arith, ints)
neg_zero (negsuc n) = grind (arith, ints)

pub one_zero : (z : ℤ) → int_eq (negsuc 0 *ℤ z) (pos 0) ≡ int_eq z (pos 0)
one_zero z = ap (λ y. int_eq y (pos 0)) (neg_one z) ∙ neg_zero z

pub one_twice : (z : ℤ) → negsuc 0 *ℤ (negsuc 0 *ℤ z) ≡ z
one_twice z = neg_one (negsuc 0 *ℤ z) ∙ ap neg_ℤ (neg_one z) ∙ neg_ℤ-neg_ℤ z

pub one_added : (a b : ℤ) → negsuc 0 *ℤ (a +ℤ b) ≡ (negsuc 0 *ℤ a) +ℤ (negsuc 0 *ℤ b)
one_added a b = let e = neg_one (a +ℤ b) in let f = neg_one a in let g = neg_one b in omega (arith, ints)

-- a negated factor
neg_right : (k : ℤ) (n : ℕ) → k *ℤ neg_ℤ (pos n) ≡ neg_ℤ (k *ℤ pos n)
neg_right k zero = mul_none k ∙ sym (ap neg_ℤ (mul_none k))
neg_right k (suc n) = *ℤ-negsuc k n

neg_factor : (k z : ℤ) → k *ℤ neg_ℤ z ≡ neg_ℤ (k *ℤ z)
neg_factor k (pos n) = neg_right k n
neg_factor k (negsuc n) = sym (neg_ℤ-neg_ℤ (k *ℤ pos (suc n))) ∙ ap neg_ℤ (sym (*ℤ-negsuc k n))

pub one_factor : (k z : ℤ) → k *ℤ (negsuc 0 *ℤ z) ≡ negsuc 0 *ℤ (k *ℤ z)
one_factor k z = ap (λ y. k *ℤ y) (neg_one z) ∙ neg_factor k z ∙ sym (neg_one (k *ℤ z))

pub one_scales : (k z : ℤ) → (negsuc 0 *ℤ k) *ℤ z ≡ negsuc 0 *ℤ (k *ℤ z)
one_scales k z = *ℤ_comm (negsuc 0 *ℤ k) z ∙ one_factor z k ∙ ap (λ y. negsuc 0 *ℤ y) (*ℤ_comm z k)

-- and of the language like its factor
pub one_inside : (z : ℤ) → in_integers (negsuc 0 *ℤ z) ≡ in_integers z
one_inside z = ap in_integers (neg_one z) ∙ ap (λ n. nat_lt n (2 ^ 63)) (neg_abs z)

-- the negation of an integer of the language
pub neg_inside : (z : ℤ) → in_integers z ≡ true → in_integers (neg_ℤ z) ≡ true
neg_inside z h = ap in_integers (sym (neg_one z)) ∙ one_inside z ∙ h

-- the negated sum
abbrev pub negated : Sum → Sum
negated s = times (negsuc 0) s

same_sum : (ps qs : List (ℕ × ℤ)) (a b : ℤ) → ps ≡ qs → a ≡ b → (let s : Sum = record { products = ps; constant = a } in s) ≡ record { products = qs; constant = b }
same_sum ps qs a b p q = λ i. record { products = p i; constant = q i }

same_cons : (x : ℕ) (a b : ℤ) (ts us : List (ℕ × ℤ)) → a ≡ b → ts ≡ us → (let p : ℕ × ℤ = (x, a) in p ∷ ts) ≡ (x, b) ∷ us
same_cons x a b ts us p q = λ i. (x, p i) ∷ q i

scaled_product : (ts : List (ℕ × ℤ)) (x : ℕ) (a : ℤ) → scaled (negsuc 0) (with_product ts x a) ≡ with_product (scaled (negsuc 0) ts) x (negsuc 0 *ℤ a)
scaled_product [] x a = refl
scaled_product (t ∷ ts) x a = by (t.0 == x) (scaled_product ts x a) where
  by : (b : Bool) → scaled (negsuc 0) (with_product ts x a) ≡ with_product (scaled (negsuc 0) ts) x (negsuc 0 *ℤ a)
      → scaled (negsuc 0) (cond b ((x, t.1 +ℤ a) ∷ ts) (t ∷ with_product ts x a)) ≡ cond b ((x, (negsuc 0 *ℤ t.1) +ℤ (negsuc 0 *ℤ a)) ∷ scaled (negsuc 0) ts)
      ((t.0, negsuc 0 *ℤ t.1) ∷ with_product (scaled (negsuc 0) ts) x (negsuc 0 *ℤ a))
  by true e = same_cons x _ _ _ _ (one_added t.1 a) refl
  by false e = same_cons t.0 _ _ _ _ refl e

scaled_products : (ts us : List (ℕ × ℤ)) → scaled (negsuc 0) (with_products ts us) ≡ with_products (scaled (negsuc 0) ts) (scaled (negsuc 0) us)
scaled_products ts [] = refl
scaled_products ts (u ∷ us) = scaled_products (with_product ts u.0 u.1) us ∙ ap (λ vs. with_products vs (scaled (negsuc 0) us)) (scaled_product ts u.0 u.1)

scaled_twice : (ts : List (ℕ × ℤ)) → scaled (negsuc 0) (scaled (negsuc 0) ts) ≡ ts
scaled_twice [] = refl
scaled_twice (t ∷ ts) = same_cons t.0 _ _ _ _ (one_twice t.1) (scaled_twice ts)

scaled_factor : (k : ℤ) (ts : List (ℕ × ℤ)) → scaled k (scaled (negsuc 0) ts) ≡ scaled (negsuc 0) (scaled k ts)
scaled_factor k [] = refl
scaled_factor k (t ∷ ts) = same_cons t.0 _ _ _ _ (one_factor k t.1) (scaled_factor k ts)

scaled_by : (k : ℤ) (ts : List (ℕ × ℤ)) → scaled (negsuc 0 *ℤ k) ts ≡ scaled (negsuc 0) (scaled k ts)
scaled_by k [] = refl
scaled_by k (t ∷ ts) = same_cons t.0 _ _ _ _ (one_scales k t.1) (scaled_by k ts)

pub negated_plus : (s t : Sum) → negated (plus s t) ≡ plus (negated s) (negated t)
negated_plus s t = same_sum _ _ _ _ (scaled_products s.products t.products) (one_added s.constant t.constant)

pub negated_twice : (s : Sum) → negated (negated s) ≡ s
negated_twice s = same_sum _ _ _ _ (scaled_twice s.products) (one_twice s.constant)

pub times_negated : (k : ℤ) (s : Sum) → times k (negated s) ≡ negated (times k s)
times_negated k s = same_sum _ _ _ _ (scaled_factor k s.products) (one_factor k s.constant)

pub negated_times : (k : ℤ) (s : Sum) → times (negsuc 0 *ℤ k) s ≡ negated (times k s)
negated_times k s = same_sum _ _ _ _ (scaled_by k s.products) (one_scales k s.constant)

all_scaled : (p : ℤ → Bool) → ((z : ℤ) → p (negsuc 0 *ℤ z) ≡ p z) → (ts : List (ℕ × ℤ)) → list_all (λ (t : ℕ × ℤ). p t.1) (scaled (negsuc 0) ts) ≡ list_all (λ (t : ℕ × ℤ). p t.1) ts
all_scaled p h [] = refl
all_scaled p h (t ∷ ts) = λ i. h t.1 i && all_scaled p h ts i

count_scaled : (ts : List (ℕ × ℤ)) → length (nonzero (scaled (negsuc 0) ts)) ≡ length (nonzero ts)
count_scaled [] = refl
count_scaled (t ∷ ts) = by (int_eq (negsuc 0 *ℤ t.1) (pos 0)) (int_eq t.1 (pos 0)) (one_zero t.1) (count_scaled ts) where
  by : (b c : Bool) → b ≡ c → length (nonzero (scaled (negsuc 0) ts)) ≡ length (nonzero ts)
      → length (cond b (nonzero (scaled (negsuc 0) ts)) ((t.0, negsuc 0 *ℤ t.1) ∷ nonzero (scaled (negsuc 0) ts))) ≡ length
      (cond c (nonzero ts) (t ∷ nonzero ts))
  by true true e h = h
  by false false e h = ap suc h
  by true false e h = absurd (cc)
  by false true e h = absurd (cc)

pub constant_negated : (s : Sum) → is_constant (negated s) ≡ is_constant s
constant_negated s = all_scaled (λ z. int_eq z (pos 0)) one_zero s.products

pub within_negated : (s : Sum) → is_within (negated s) ≡ is_within s
within_negated s = λ i. one_inside s.constant i && (all_scaled in_integers one_inside s.products i && not (nat_lt (2 ^ 31) (count_scaled s.products i)))

-- the checked sum negated is the negated sum checked
pub signed_checked : (s : Sum) → signed true (checked s) ≡ checked (negated s)
signed_checked s = by (is_within s) (is_within (negated s)) (within_negated s) where
  by : (b c : Bool) → c ≡ b → of_one (λ u. Ok (negated u)) (cond b (Ok s) (Err Evaluation)) ≡ cond c (Ok (negated s)) (Err Evaluation)
  by true true e = refl
  by false false e = refl
  by true false e = absurd (cc)
  by false true e = absurd (cc)

-- what is checked is within the limits
pub checked_within : (s t : Sum) → checked s ≡ Ok t → (s ≡ t) × (is_within t ≡ true)
checked_within s t h = by (is_within s) refl h where
  by : (b : Bool) → is_within s ≡ b → cond b (Ok s) (Err Evaluation) ≡ Ok t → (s ≡ t) × (is_within t ≡ true)
  by true e g = let same : s ≡ t = cc in (same, ap is_within (sym same) ∙ e)
  by false e g = absurd (cc)

pub within_checked : (s : Sum) → is_within s ≡ true → checked s ≡ Ok s
within_checked s h = ap (λ b. cond b (Ok s) (Err Evaluation)) h

pub outside_checked : (s : Sum) → is_within s ≡ false → checked s ≡ Err Evaluation
outside_checked s h = ap (λ b. cond b (Ok s) (Err Evaluation)) h

-- sums, differences and products of negated operands
pub sum_signed : (n : Bool) (r q : Result Sum QueryFault) → of_both sum_of (signed n r) (signed n q) ≡ signed n (of_both sum_of r q)
sum_signed false r q = refl
sum_signed true (Ok s) (Ok t) = ap checked (sym (negated_plus s t)) ∙ sym (signed_checked (plus s t))
sum_signed true (Ok s) (Err f) = refl
sum_signed true (Err f) (Ok t) = refl
sum_signed true (Err f) (Err g) = refl

pub difference_signed : (n : Bool) (r q : Result Sum QueryFault) → of_both sum_of (signed n r) (signed (not n) q) ≡ signed n (of_both difference_of r q)
difference_signed false (Ok s) (Ok t) = refl
difference_signed false (Ok s) (Err f) = refl
difference_signed false (Err f) (Ok t) = refl
difference_signed false (Err f) (Err g) = refl
difference_signed true (Ok s) (Ok t) = ap (λ u. checked (plus (negated s) u)) (sym (negated_twice t)) ∙ ap checked (sym (negated_plus s (negated t))) ∙ sym (signed_checked (plus s (negated t)))
difference_signed true (Ok s) (Err f) = refl
difference_signed true (Err f) (Ok t) = refl
difference_signed true (Err f) (Err g) = refl

pub product_signed : (n : Bool) (r q : Result Sum QueryFault) → of_both product_of r (signed n q) ≡ signed n (of_both product_of r q)
product_signed false r q = refl
product_signed true (Ok s) (Ok t) = by (is_constant s) (is_constant (negated t)) (is_constant t) (constant_negated t) where
  by : (a b c : Bool) → b ≡ c → cond a (checked (times s.constant (negated t))) (cond b (checked (times (negsuc 0 *ℤ t.constant) s)) (Err Nonlinear)) ≡ signed
      true (cond a (checked (times s.constant t)) (cond c (checked (times t.constant s)) (Err Nonlinear)))
  by true b c e = ap checked (times_negated s.constant t) ∙ sym (signed_checked (times s.constant t))
  by false true true e = ap checked (negated_times t.constant s) ∙ sym (signed_checked (times t.constant s))
  by false false false e = refl
  by false true false e = absurd (cc)
  by false false true e = absurd (cc)
product_signed true (Ok s) (Err f) = refl
product_signed true (Err f) (Ok t) = refl
product_signed true (Err f) (Err g) = refl

-- what is collected is within the limits
collected_operator : (f : Name) (r q : Result Sum QueryFault) (u : Sum) → (let both = λ (op : Sum → Sum → Result Sum QueryFault). of_both op r q in
    cond (bytes_eq f (codes "+")) (both sum_of) (cond (bytes_eq f (codes "-")) (both difference_of)
    (cond (bytes_eq f (codes "*")) (both product_of) (Err BadType))) ≡ Ok u) → is_within u ≡ true
collected_operator f r q u h = by (bytes_eq f (codes "+")) (bytes_eq f (codes "-")) (bytes_eq f (codes "*")) r q h where
  product : (s t : Sum) (a b : Bool) → cond a (checked (times s.constant t)) (cond b (checked (times t.constant s)) (Err Nonlinear)) ≡ Ok u → is_within u ≡ true
  product s t true b h = (checked_within (times s.constant t) u h).1
  product s t false true h = (checked_within (times t.constant s) u h).1
  product s t false false h = absurd (cc)

  by : (a b c : Bool) (r q : Result Sum QueryFault) → cond a (of_both sum_of r q) (cond b (of_both difference_of r q) (cond c (of_both product_of r q) (Err BadType))) ≡ Ok u → is_within u ≡ true
  by true b c (Ok s) (Ok t) h = (checked_within (plus s t) u h).1
  by false true c (Ok s) (Ok t) h = (checked_within (plus s (negated t)) u h).1
  by false false true (Ok s) (Ok t) h = product s t (is_constant s) (is_constant t) h
  by false false false (Ok s) (Ok t) h = absurd (cc)
  by true b c (Ok s) (Err f) h = absurd (cc)
  by false true c (Ok s) (Err f) h = absurd (cc)
  by false false true (Ok s) (Err f) h = absurd (cc)
  by false false false (Ok s) (Err f) h = absurd (cc)
  by true b c (Err f) q h = absurd (cc)
  by false true c (Err f) q h = absurd (cc)
  by false false true (Err f) q h = absurd (cc)
  by false false false (Err f) q h = absurd (cc)

pub collected_within : (t : Term) (s : Sum) → collect_term t ≡ Ok s → is_within s ≡ true
collected_within (Var x) s h = (checked_within (record { products = (x, pos 1) ∷ []; constant = pos 0 }) s h).1
collected_within (Int z) s h = (checked_within (record { products = []; constant = z }) s h).1
collected_within (Atom a) s h = absurd (cc)
collected_within (Comp f no_terms) s h = absurd (cc)
collected_within (Comp f (term a no_terms)) s h = by (bytes_eq f (codes "-")) (collect_term a) h where
  by : (b : Bool) (r : Result Sum QueryFault) → cond b (of_one (λ s. checked (negated s)) r) (Err BadType) ≡ Ok s → is_within s ≡ true
  by true (Ok u) g = (checked_within (negated u) s g).1
  by true (Err f) g = absurd (cc)
  by false r g = absurd (cc)
collected_within (Comp f (term a (term b no_terms))) s h = collected_operator f (collect_term a) (collect_term b) s h
collected_within (Comp f (term a (term b (term c ts)))) s h = absurd (cc)

-- the opposite of a collected sum
pub opposite_signed : (n : Bool) (t : Term) → signed (not n) (collect_term t) ≡ signed n (of_one (λ s. checked (negated s)) (collect_term t))
opposite_signed n t = by n (collect_term t) refl where
  by : (n : Bool) (r : Result Sum QueryFault) → collect_term t ≡ r → signed (not n) r ≡ signed n (of_one (λ s. checked (negated s)) r)
  by false (Ok s) e = sym (within_checked (negated s) (within_negated s ∙ collected_within t s e))
  by true (Ok s) e = sym (signed_checked (negated s) ∙ ap checked (negated_twice s) ∙ within_checked s (collected_within t s e))
  by false (Err f) e = refl
  by true (Err f) e = refl
