-- What is kept of two sums together, and of a sum times a constant.
use Rattle.std.proofs.Common.{◌≡◌, ℕ, suc, ◌+◌, ◌≤◌, ◌^◌, Bool, true, false, cond, ℤ, pos, ◌+ℤ◌, ◌*ℤ◌, List, [], ◌∷◌, Option, None, Some, Result, Ok, Err, refl}
use Rattle.std.proofs.Common.{sym, ap, subst, ◌∙◌, arith, min}
use Rattle.std.proofs.lemmas.Int.{ints}
use Rattle.std.proofs.lemmas.Bool.Decides.{nat_tests}
use Rattle.std.proofs.lemmas.Cmp.{nat_eq_equiv}
use Rattle.std.specs.Prelude.{nat_eq, nat_lt, ◌==◌, ◌&&◌, not, length, MatchResult}
use Rattle.std.specs.Ordering.{int_eq}
use Rattle.std.specs.List.{list_all, IsDistinct, sum_by}
use Rattle.std.specs.List.Sorted.{IsPermutation}
use Rattle.std.specs.Map.{keys_of, values_of}
use Rattle.std.proofs.lemmas.List.Sorted.{sum_by-IsPermutation}
use Rattle.std.proofs.lemmas.List.Sums.{sum_by-cons}
use Rattle.std.proofs.lemmas.Map.Keys.{IsDistinct-cons}
use Rattle.std.proofs.lemmas.Map.Lookups.{hash_map_IsPermutation_from_get, map_keys}
use Rattle.fd_model.proofs.Lemmas.{mul_none}
use Rattle.fd_language.proofs.Lemmas.{all_three as and_three}
use Rattle.indexmap.specs.Layout.{hash_map}
use Rattle.fd_model.specs.declared.kinds.QueryFault.{QueryFault}
use Rattle.fd_model.specs.declared.kinds.QueryFault.TheVariants.{Evaluation, Nonlinear}
use Rattle.fd_model.specs.Linear as linear
use Rattle.fd_model.specs.Linear.{with_products, scaled, nonzero, plus, times, is_constant, in_integers, are_few, is_within, checked, sum_of, product_of}
use Rattle.linear_forms.specs.declared.LinearFault.{LinearFault}
use Rattle.linear_forms.specs.declared.LinearFault.TheVariants as fault
use Rattle.linear_forms.specs.declared.sums.Share.{Share}
use Rattle.linear_forms.specs.declared.sums.Sum.{Sum}
use Rattle.linear_forms.specs.LinearForm.{IsFaultOf}
use Rattle.linear_forms.specs.Shares.{both, scaled_share, share_at, together, open_count, coefficients, Rise, OverflowsBy}
use Rattle.linear_forms.specs.Sums.{IsSum, Gives, Adds, AddsSum, ExceedsSum, over_terms, over_constant, over_many, Multiplies, ExceedsTimes, over_term}
use Rattle.linear_forms.specs.Sums.{over_constant_times}
use Rattle.linear_forms.proofs.Signs.{within_checked, outside_checked, is_zero}
use Rattle.linear_forms.proofs.Shares.{Lacks, kept, merged, merged_coefficients, merged_share, merged_rises, merged_distinct, share_between, all_from, all_at}
use Rattle.linear_forms.proofs.Shares.{rise_ends, rise_later, rise_sooner, head_lacks, tail_distinct}

-- ---- how many coefficients aren't 0
weight : ℕ × Share → ℕ
weight e = cond (int_eq e.1.coefficient (pos 0)) 0 1

count_weight : (es : List (ℕ × Share)) → open_count (values_of es) ≡ sum_by weight (map_keys (λ (x : ℕ). x) es)
unfolding weight
count_weight [] = refl
count_weight (e ∷ es) = by (int_eq e.1.coefficient (pos 0)) (count_weight es) ∙ sym (sum_by-cons weight e (map_keys (λ (x : ℕ). x) es)) where
  by : (b : Bool) → open_count (values_of es) ≡ sum_by weight (map_keys (λ (x : ℕ). x) es)
      → cond b (open_count (values_of es)) (suc (open_count (values_of es))) ≡ cond b 0 1 + sum_by weight (map_keys (λ (x : ℕ). x) es)
  by true h = omega arith
  by false h = omega arith

count_products : (es : List (ℕ × Share)) → open_count (values_of es) ≡ length (nonzero (coefficients es))
count_products [] = refl
count_products (e ∷ es) = by (int_eq e.1.coefficient (pos 0)) (count_products es) where
  by : (b : Bool) → open_count (values_of es) ≡ length (nonzero (coefficients es))
      → cond b (open_count (values_of es)) (suc (open_count (values_of es))) ≡ length
      (cond b (nonzero (coefficients es)) ((e.0, e.1.coefficient) ∷ nonzero (coefficients es)))
  by true h = h
  by false h = ap suc h

count_same : (es qs : List (ℕ × Share)) → IsDistinct nat_eq (keys_of es) → IsDistinct nat_eq (keys_of qs) → ((x : ℕ) → share_at es x ≡ share_at qs x)
    → open_count (values_of es) ≡ length (nonzero (coefficients qs))
count_same es qs d e h =
    let p : IsPermutation (map_keys (λ (x : ℕ). x) es) (map_keys (λ (x : ℕ). x) qs) = hash_map_IsPermutation_from_get nat_eq_equiv (hash_map es (tt {0}) 0)
    (hash_map qs (tt {0}) 0) d e h (λ (x : ℕ). x) (λ x y k. nat_eq_sound x y k) in
    count_weight es ∙ sym (sum_by-IsPermutation weight (map_keys (λ (x : ℕ). x) es) (map_keys (λ (x : ℕ). x) qs) p) ∙ sym (count_weight qs) ∙ count_products qs
  where
    nat_eq_sound : (x y : ℕ) → nat_eq x y ≡ true → x ≡ y
    nat_eq_sound x y h = grind (arith, nat_tests)

pub kept_count : (t : Sum) (s : linear.Sum) (lo hi : ℕ) → IsSum t s lo hi → open_count (values_of t.terms.entries) ≡ length (nonzero s.products)
kept_count t s lo hi i = count_same t.terms.entries i.order i.unique i.distinct i.same ∙ ap (λ ts. length (nonzero ts)) i.products

zero_count : (ts : List (ℕ × ℤ)) → (length (nonzero ts) == 0) ≡ list_all (λ (t : ℕ × ℤ). int_eq t.1 (pos 0)) ts
zero_count [] = refl
zero_count (t ∷ ts) = by (int_eq t.1 (pos 0)) (zero_count ts) where
  by : (b : Bool) → (length (nonzero ts) == 0) ≡ list_all (λ (t : ℕ × ℤ). int_eq t.1 (pos 0)) ts
      → (length (cond b (nonzero ts) (t ∷ nonzero ts)) == 0) ≡ (b && list_all (λ (t : ℕ × ℤ). int_eq t.1 (pos 0)) ts)
  by true h = h
  by false h = grind (arith, nat_tests)

pub kept_constant : (t : Sum) (s : linear.Sum) (lo hi : ℕ) → IsSum t s lo hi → (open_count (values_of t.terms.entries) == 0) ≡ is_constant s
kept_constant t s lo hi i = ap (λ n. n == 0) (kept_count t s lo hi i) ∙ zero_count s.products

-- ---- two sums

and_first : (a b c : Bool) → a ≡ false → (a && (b && c)) ≡ false
and_first a b c p = ap (λ d. d && (b && c)) p

and_second : (a b c : Bool) → b ≡ false → (a && (b && c)) ≡ false
and_second true b c p = ap (λ d. d && c) p
and_second false b c p = refl

and_third : (a b c : Bool) → c ≡ false → (a && (b && c)) ≡ false
and_third true true c p = p
and_third true false c p = refl
and_third false b c p = refl

and_parts : (a b c : Bool) → (a && (b && c)) ≡ true → (a ≡ true) × (b ≡ true) × (c ≡ true)
and_parts true true true h = (refl, refl, refl)
and_parts true true false h = absurd (cc)
and_parts true false c h = absurd (cc)
and_parts false b c h = absurd (cc)

pub kept_inside : (t : Sum) (s : linear.Sum) (lo hi : ℕ) → IsSum t s lo hi → (x : ℕ) (w : Share) → share_at t.terms.entries x ≡ Some w → in_integers w.coefficient ≡ true
kept_inside t s lo hi i x w e =
    let all : list_all (λ (t : ℕ × ℤ). in_integers t.1)
    s.products ≡ true = (and_parts (in_integers s.constant) (list_all (λ (t : ℕ × ℤ). in_integers t.1) s.products) (are_few s.products) i.within).1 in
    all_at in_integers i.order x w (ap (list_all (λ (t : ℕ × ℤ). in_integers t.1)) i.products ∙ all) (sym (i.same x) ∙ e)

pub constant_inside : (t : Sum) (s : linear.Sum) (lo hi : ℕ) → IsSum t s lo hi → in_integers t.constant ≡ true
constant_inside t s lo hi i = ap in_integers i.constant ∙ (and_parts (in_integers s.constant) (list_all (λ (t : ℕ × ℤ). in_integers t.1) s.products) (are_few s.products) i.within).0

both_turned : (r q : Option Share) → together r q ≡ together q r
both_turned None None = refl
both_turned None (Some t) = refl
both_turned (Some s) None = refl
both_turned (Some s) (Some t) =
    let a : s.coefficient +ℤ t.coefficient ≡ t.coefficient +ℤ s.coefficient = omega (arith, ints) in
    let b : min s.first t.first ≡ min t.first s.first = omega arith in
    λ i. Some (record { coefficient = a i; first = b i })

-- what is kept of a and b, whichever was added to the other
record Joins (a b new : Sum) : Type 0 where
  each : (x : ℕ) → share_at new.terms.entries x ≡ together (share_at a.terms.entries x) (share_at b.terms.entries x)
  inside : (x : ℕ) (w : Share) → share_at new.terms.entries x ≡ Some w → in_integers w.coefficient ≡ true
  unique : IsDistinct nat_eq (keys_of new.terms.entries)
  constant : new.constant ≡ a.constant +ℤ b.constant
  within : in_integers (a.constant +ℤ b.constant) ≡ true
  few : nat_lt (2 ^ 31) (open_count (values_of new.terms.entries)) ≡ false

data JoinsOver (a b : Sum) : Type 0 where
  over_share : (x : ℕ) (w : Share) → together (share_at a.terms.entries x) (share_at b.terms.entries x) ≡ Some w → in_integers w.coefficient ≡ false → JoinsOver a b
  over_sum : in_integers (a.constant +ℤ b.constant) ≡ false → JoinsOver a b
  over_count : (new : List (ℕ × Share)) → ((x : ℕ) → share_at new x ≡ together (share_at a.terms.entries x) (share_at b.terms.entries x))
      → IsDistinct nat_eq (keys_of new) → nat_lt (2 ^ 31) (open_count (values_of new)) ≡ true → JoinsOver a b

added_inside : (a b new : List (ℕ × Share)) → ((x : ℕ) (w : Share) → share_at a x ≡ Some w → in_integers w.coefficient ≡ true)
    → ((x : ℕ) (w : Share) → share_at b x ≡ Some w → in_integers w.coefficient ≡ true)
    → Adds a b new → (x : ℕ) (w : Share) → share_at new x ≡ Some w → in_integers w.coefficient ≡ true
added_inside a b new h g d x w e = by (share_at a x) (share_at b x) refl refl (sym (d.each x) ∙ e) where
  by : (r q : Option Share) → share_at a x ≡ r → share_at b x ≡ q → together r q ≡ Some w → in_integers w.coefficient ≡ true
  by None None p q k = absurd (cc)
  by (Some u) None p q k = h x w (p ∙ k)
  by None (Some v) p q k = g x w (q ∙ k)
  by (Some u) (Some v) p q k = let same : both u v ≡ w = cc in subst (λ (s : Share). in_integers s.coefficient ≡ true) same (d.inside x u v p q)

joins_front : (a b new : Sum) (s t : linear.Sum) (lo m hi : ℕ) → IsSum a s lo m → IsSum b t m hi → AddsSum (2 ^ 31) a b new → Joins a b new
joins_front a b new s t lo m hi i j d = record {
  each = d.terms.each;
  inside = added_inside a.terms.entries b.terms.entries new.terms.entries (kept_inside a s lo m i) (kept_inside b t m hi j) d.terms;
  unique = d.terms.unique i.unique;
  constant = d.constant;
  within = d.inside;
  few = d.few;
}

joins_back : (a b new : Sum) (s t : linear.Sum) (lo m hi : ℕ) → IsSum a s lo m → IsSum b t m hi → AddsSum (2 ^ 31) b a new → Joins a b new
joins_back a b new s t lo m hi i j d =
    let same : b.constant +ℤ a.constant ≡ a.constant +ℤ b.constant = omega (arith, ints) in
    record {
      each = λ x. d.terms.each x ∙ both_turned (share_at b.terms.entries x) (share_at a.terms.entries x);
      inside = added_inside b.terms.entries a.terms.entries new.terms.entries (kept_inside b t m hi j) (kept_inside a s lo m i) d.terms;
      unique = d.terms.unique j.unique;
      constant = d.constant ∙ same;
      within = ap in_integers (sym same) ∙ d.inside;
      few = d.few;
    }

over_front : (a b : Sum) (s : linear.Sum) (lo hi : ℕ) → IsSum a s lo hi → ExceedsSum (2 ^ 31) a b → JoinsOver a b
over_front a b s lo hi i (over_terms e) = over_share e.variable e.share e.is e.over
over_front a b s lo hi i (over_constant e) = over_sum e
over_front a b s lo hi i (over_many new d e) = over_count new d.each (d.unique i.unique) e

over_back : (a b : Sum) (s : linear.Sum) (lo hi : ℕ) → IsSum b s lo hi → ExceedsSum (2 ^ 31) b a → JoinsOver a b
over_back a b s lo hi i (over_terms e) = over_share e.variable e.share (both_turned (share_at a.terms.entries e.variable) (share_at b.terms.entries e.variable) ∙ e.is) e.over
over_back a b s lo hi i (over_constant e) = over_sum (ap in_integers (let same : a.constant +ℤ b.constant ≡ b.constant +ℤ a.constant = omega (arith, ints) in same) ∙ e)
over_back a b s lo hi i (over_many new d e) = over_count new (λ x. d.each x ∙ both_turned (share_at b.terms.entries x) (share_at a.terms.entries x)) (d.unique i.unique) e

module _ (a b : Sum) (s t : linear.Sum) (lo m hi : ℕ) (p : IsSum a s lo m) (q : IsSum b t m hi) where
  order : List (ℕ × Share)
  order = merged p.order q.order

  first_kept : (x : ℕ) (r u : Option Share) → share_at p.order x ≡ r → share_at q.order x ≡ u → together r u ≡ kept r u
  first_kept x None u e f = refl
  first_kept x (Some v) None e f = refl
  first_kept x (Some v) (Some w) e f =
      let l = share_between lo m p.order x v p.rise e in
      let g = share_between m hi q.order x w q.rise f in
      let h : min v.first w.first ≡ v.first = omega (arith, l.1, g.0) in
      λ i. Some (record { coefficient = v.coefficient +ℤ w.coefficient; first = h i })

  order_share : (x : ℕ) → together (share_at a.terms.entries x) (share_at b.terms.entries x) ≡ share_at order x
  unfolding order
  order_share x =
      (λ i. together (p.same x i) (q.same x i)) ∙ first_kept x (share_at p.order x) (share_at q.order x) refl refl ∙ sym (merged_share p.order q.order q.distinct x)

  order_products : coefficients order ≡ (plus s t).products
  unfolding order
  order_products = merged_coefficients p.order q.order ∙ (λ i. with_products (p.products i) (q.products i))

  order_constant : a.constant +ℤ b.constant ≡ (plus s t).constant
  order_constant = λ i. p.constant i +ℤ q.constant i

  order_distinct : IsDistinct nat_eq (keys_of order)
  unfolding order
  order_distinct = merged_distinct p.order q.order p.distinct

  order_rises : Rise lo order hi
  unfolding order
  order_rises = merged_rises lo m hi p.order q.order p.rise q.rise

  joined_within : (new : Sum) → Joins a b new → is_within (plus s t) ≡ true
  joined_within new j =
      and_three (in_integers (plus s t).constant) (list_all (λ (t : ℕ × ℤ). in_integers t.1) (plus s t).products) (are_few (plus s t).products)
      (ap in_integers (sym order_constant) ∙ j.within)
      (ap (list_all (λ (t : ℕ × ℤ). in_integers t.1)) (sym order_products) ∙ all_from in_integers order order_distinct (λ x w e. j.inside x w (j.each x ∙ order_share x ∙ e)))
      (ap (λ n. not (nat_lt (2 ^ 31) n)) (ap (λ ts. length (nonzero ts)) (sym order_products)
      ∙ sym (count_same new.terms.entries order j.unique order_distinct (λ x. j.each x ∙ order_share x))) ∙ ap not j.few)

  joined_gives : (new : Sum) → Joins a b new → (u : linear.Sum) × (sum_of s t ≡ Ok u) × IsSum new u lo hi
  joined_gives new j =
      let w = joined_within new j in (
        plus s t,
        within_checked (plus s t) w,
        record {
          order = order;
          same = λ x. j.each x ∙ order_share x;
          unique = j.unique;
          distinct = order_distinct;
          rise = order_rises;
          products = order_products;
          constant = j.constant ∙ order_constant;
          within = w;
        },
      )

  over_gives : JoinsOver a b → sum_of s t ≡ Err Evaluation
  over_gives (over_share x w e o) =
      let all : list_all (λ (t : ℕ × ℤ). in_integers t.1) (plus s t).products ≡ false = not_all (list_all (λ (t : ℕ × ℤ). in_integers t.1) order_ps) refl in
      outside_checked (plus s t) (and_second (in_integers (plus s t).constant) (list_all (λ (t : ℕ × ℤ). in_integers t.1) (plus s t).products) (are_few (plus s t).products) all)
    where
      order_ps : List (ℕ × ℤ)
      order_ps = (plus s t).products

      not_all : (b : Bool) → list_all (λ (t : ℕ × ℤ). in_integers t.1) (plus s t).products ≡ b → b ≡ false
      not_all false g = refl
      not_all true g =
          let k : in_integers w.coefficient ≡ true = all_at in_integers order x w (ap (list_all (λ (t : ℕ × ℤ). in_integers t.1)) order_products ∙ g) (sym (order_share x) ∙ e) in
          absurd (cc)
  over_gives (over_sum e) =
      outside_checked (plus s t) (and_first (in_integers (plus s t).constant) (list_all (λ (t : ℕ × ℤ). in_integers t.1) (plus s t).products)
      (are_few (plus s t).products) (ap in_integers (sym order_constant) ∙ e))
  over_gives (over_count new each u e) =
      outside_checked (plus s t) (and_third (in_integers (plus s t).constant) (list_all (λ (t : ℕ × ℤ). in_integers t.1) (plus s t).products) (are_few (plus s t).products)
      (ap (λ n. not (nat_lt (2 ^ 31) n)) (ap (λ ts. length (nonzero ts)) (sym order_products) ∙ sym (count_same new order u order_distinct (λ x. each x ∙ order_share x))) ∙ ap not e))

  front_err : (f : LinearFault) → OverflowsBy (ExceedsSum (2 ^ 31) a b) f → IsFaultOf (sum_of s t) f
  front_err fault.Nonlinear h = absurd h
  front_err fault.NotANumber h = absurd h
  front_err fault.Overflow h = over_gives (over_front a b s lo m p h)
  front_err fault.NoMemory h = tt

  back_err : (f : LinearFault) → OverflowsBy (ExceedsSum (2 ^ 31) b a) f → IsFaultOf (sum_of s t) f
  back_err fault.Nonlinear h = absurd h
  back_err fault.NotANumber h = absurd h
  back_err fault.Overflow h = over_gives (over_back a b t m hi q h)
  back_err fault.NoMemory h = tt

  -- the sum of both, where b was added to a, or a to b
  pub sum_front : (r : Result Sum LinearFault) → MatchResult r (AddsSum (2 ^ 31) a b) (OverflowsBy (ExceedsSum (2 ^ 31) a b)) → Gives (sum_of s t) lo hi r
  sum_front (Ok new) d = joined_gives new (joins_front a b new s t lo m hi p q d)
  sum_front (Err f) h = front_err f h

  pub sum_back : (r : Result Sum LinearFault) → MatchResult r (AddsSum (2 ^ 31) b a) (OverflowsBy (ExceedsSum (2 ^ 31) b a)) → Gives (sum_of s t) lo hi r
  sum_back (Ok new) d = joined_gives new (joins_back a b new s t lo m hi p q d)
  sum_back (Err f) h = back_err f h

-- ---- a sum times a constant
scaled_entries : ℤ → List (ℕ × Share) → List (ℕ × Share)
scaled_entries k [] = []
scaled_entries k (e ∷ es) = (e.0, scaled_share k e.1) ∷ scaled_entries k es

scaled_coefficients : (k : ℤ) (es : List (ℕ × Share)) → coefficients (scaled_entries k es) ≡ scaled k (coefficients es)
unfolding scaled_entries
scaled_coefficients k [] = refl
scaled_coefficients k (e ∷ es) = ap (λ (ts : List (ℕ × ℤ)). (e.0, k *ℤ e.1.coefficient) ∷ ts) (scaled_coefficients k es)

scaled_rises : (k : ℤ) (lo hi : ℕ) (es : List (ℕ × Share)) → Rise lo es hi → Rise lo (scaled_entries k es) hi
unfolding scaled_entries
scaled_rises k lo hi [] r = r
scaled_rises k lo hi (e ∷ es) r = (r.0, scaled_rises k (suc e.1.first) hi es r.1)

scaled_lacks : (k : ℤ) (x : ℕ) (es : List (ℕ × Share)) → Lacks x es → Lacks x (scaled_entries k es)
unfolding scaled_entries
scaled_lacks k x [] l = l
scaled_lacks k x (e ∷ es) l = (l.0, scaled_lacks k x es l.1)

scaled_distinct : (k : ℤ) (es : List (ℕ × Share)) → IsDistinct nat_eq (keys_of es) → IsDistinct nat_eq (keys_of (scaled_entries k es))
unfolding scaled_entries
scaled_distinct k [] d = d
scaled_distinct k (e ∷ es) d = IsDistinct-cons nat_eq e.0 (keys_of (scaled_entries k es)) (scaled_lacks k e.0 es (head_lacks e es d)) (scaled_distinct k es (tail_distinct e es d))

abbrev scaled_option : ℤ → Option Share → Option Share
scaled_option k None = None
scaled_option k (Some v) = Some (scaled_share k v)

scaled_at : (k : ℤ) (es : List (ℕ × Share)) (x : ℕ) → share_at (scaled_entries k es) x ≡ scaled_option k (share_at es x)
unfolding scaled_entries
scaled_at k [] x = refl
scaled_at k (e ∷ es) x = by (nat_eq x e.0) (scaled_at k es x) where
  by : (b : Bool) → share_at (scaled_entries k es) x ≡ scaled_option k (share_at es x)
      → cond b (Some (scaled_share k e.1)) (share_at (scaled_entries k es) x) ≡ scaled_option k (cond b (Some e.1) (share_at es x))
  by true h = refl
  by false h = h

zero_times : (k z : ℤ) → int_eq z (pos 0) ≡ true → int_eq (k *ℤ z) (pos 0) ≡ true
zero_times k z h = ap (λ y. int_eq (k *ℤ y) (pos 0)) (is_zero z h) ∙ ap (λ y. int_eq y (pos 0)) (mul_none k)

scaled_fewer : (k : ℤ) (ts : List (ℕ × ℤ)) → length (nonzero (scaled k ts)) ≤ length (nonzero ts)
scaled_fewer k [] = omega arith
scaled_fewer k (t ∷ ts) = by (int_eq t.1 (pos 0)) refl (int_eq (k *ℤ t.1) (pos 0)) refl (scaled_fewer k ts) where
  by : (b : Bool) → int_eq t.1 (pos 0) ≡ b → (c : Bool) → int_eq (k *ℤ t.1) (pos 0) ≡ c → length (nonzero (scaled k ts)) ≤ length (nonzero ts)
      → length (cond c (nonzero (scaled k ts)) ((t.0, k *ℤ t.1) ∷ nonzero (scaled k ts))) ≤ length (cond b (nonzero ts) (t ∷ nonzero ts))
  by true e true f h = h
  by true e false f h = let g = zero_times k t.1 e in absurd (cc)
  by false e true f h = omega arith
  by false e false f h = omega arith

few_scaled : (k : ℤ) (ts : List (ℕ × ℤ)) → are_few ts ≡ true → are_few (scaled k ts) ≡ true
few_scaled k ts h = let e = scaled_fewer k ts in grind (arith, nat_tests)

module _ (t : Sum) (s : linear.Sum) (lo hi : ℕ) (p : IsSum t s lo hi) (k : ℤ) where
  times_products : coefficients (scaled_entries k p.order) ≡ (times k s).products
  times_products = scaled_coefficients k p.order ∙ ap (scaled k) p.products

  new_share : (new : Sum) → Multiplies k t new → (x : ℕ) (r : Option Share) → share_at t.terms.entries x ≡ r → share_at new.terms.entries x ≡ scaled_option k r
  new_share new m x None e = m.terms.none x e
  new_share new m x (Some v) e = m.terms.each x v e

  times_share : (new : Sum) → Multiplies k t new → (x : ℕ) → share_at new.terms.entries x ≡ share_at (scaled_entries k p.order) x
  times_share new m x = new_share new m x (share_at t.terms.entries x) refl ∙ ap (scaled_option k) (p.same x) ∙ sym (scaled_at k p.order x)

  times_inside : (new : Sum) → Multiplies k t new → (x : ℕ) (w : Share) → share_at (scaled_entries k p.order) x ≡ Some w → in_integers w.coefficient ≡ true
  times_inside new m x w e = by (share_at p.order x) refl (sym (scaled_at k p.order x) ∙ e) where
    by : (r : Option Share) → share_at p.order x ≡ r → scaled_option k r ≡ Some w → in_integers w.coefficient ≡ true
    by None f g = absurd (cc)
    by (Some v) f g = let same : scaled_share k v ≡ w = cc in subst (λ (u : Share). in_integers u.coefficient ≡ true) same (m.terms.inside x v (p.same x ∙ f))

  times_within : (new : Sum) → Multiplies k t new → is_within (times k s) ≡ true
  times_within new m =
      and_three (in_integers (times k s).constant) (list_all (λ (t : ℕ × ℤ). in_integers t.1) (times k s).products) (are_few (times k s).products)
      (ap (λ z. in_integers (k *ℤ z)) (sym p.constant) ∙ m.inside)
      (ap (list_all (λ (t : ℕ × ℤ). in_integers t.1)) (sym times_products) ∙ all_from in_integers (scaled_entries k p.order) (scaled_distinct k p.order p.distinct) (times_inside new m))
      (few_scaled k s.products (and_parts (in_integers s.constant) (list_all (λ (t : ℕ × ℤ). in_integers t.1) s.products) (are_few s.products) p.within).2)

  times_over : ExceedsTimes k t → checked (times k s) ≡ Err Evaluation
  times_over (over_term o) =
      outside_checked (times k s) (and_second (in_integers (times k s).constant) (list_all (λ (t : ℕ × ℤ). in_integers t.1) (times k s).products)
      (are_few (times k s).products) (not_all (list_all (λ (t : ℕ × ℤ). in_integers t.1) (times k s).products) refl))
    where
      not_all : (b : Bool) → list_all (λ (t : ℕ × ℤ). in_integers t.1) (times k s).products ≡ b → b ≡ false
      not_all false g = refl
      not_all true g =
          let h : in_integers (k *ℤ o.share.coefficient) ≡ true = all_at in_integers (scaled_entries k p.order) o.variable (scaled_share k o.share)
          (ap (list_all (λ (t : ℕ × ℤ). in_integers t.1)) times_products ∙ g)
          (scaled_at k p.order o.variable ∙ ap (scaled_option k) (sym (p.same o.variable) ∙ o.is)) in
          absurd (cc)
  times_over (over_constant_times e) =
      outside_checked (times k s) (and_first (in_integers (times k s).constant) (list_all (λ (t : ℕ × ℤ). in_integers t.1) (times k s).products)
      (are_few (times k s).products) (ap (λ z. in_integers (k *ℤ z)) (sym p.constant) ∙ e))

  times_err : (f : LinearFault) → OverflowsBy (ExceedsTimes k t) f → IsFaultOf (checked (times k s)) f
  times_err fault.Nonlinear h = absurd h
  times_err fault.NotANumber h = absurd h
  times_err fault.Overflow h = times_over h
  times_err fault.NoMemory h = tt

  pub times_gives : (r : Result Sum LinearFault) → MatchResult r (Multiplies k t) (OverflowsBy (ExceedsTimes k t)) → Gives (checked (times k s)) lo hi r
  times_gives (Ok new) m =
      let w = times_within new m in (
        times k s,
        within_checked (times k s) w,
        record {
          order = scaled_entries k p.order;
          same = times_share new m;
          unique = m.terms.unique;
          distinct = scaled_distinct k p.order p.distinct;
          rise = scaled_rises k lo hi p.order p.rise;
          products = times_products;
          constant = m.constant ∙ ap (λ z. k *ℤ z) p.constant;
          within = w;
        },
      )
  times_gives (Err f) h = times_err f h

pub sum_wider : (t : Sum) (s : linear.Sum) (start lo hi end : ℕ) → IsSum t s lo hi → start ≤ lo → hi ≤ end → IsSum t s start end
sum_wider t s start lo hi end i l h = record {
  order = i.order;
  same = i.same;
  unique = i.unique;
  distinct = i.distinct;
  rise = rise_later start hi end i.order (rise_sooner start lo hi i.order i.rise l) h;
  products = i.products;
  constant = i.constant;
  within = i.within;
}

pub gives_wider : (d : Result linear.Sum QueryFault) (start lo hi end : ℕ) (r : Result Sum LinearFault) → Gives d lo hi r → start ≤ lo → hi ≤ end → Gives d start end r
gives_wider d start lo hi end (Ok t) g l h = (g.0, g.1, sum_wider t g.0 start lo hi end g.2 l h)
gives_wider d start lo hi end (Err f) g l h = g

module _ (a b : Sum) (s t : linear.Sum) (lo m hi : ℕ) (p : IsSum a s lo m) (q : IsSum b t m hi) where
  -- the product, where one of both is a constant
  pub product_left : (open_count (values_of a.terms.entries) == 0) ≡ true → (r : Result Sum LinearFault)
      → MatchResult r (Multiplies a.constant b) (OverflowsBy (ExceedsTimes a.constant b)) → Gives (product_of s t) lo hi r
  product_left h r g =
      let c : is_constant s ≡ true = sym (kept_constant a s lo m p) ∙ h in
      let d : product_of s t ≡ checked (times a.constant t) = ap
      (λ b. cond b (checked (times s.constant t)) (cond (is_constant t) (checked (times t.constant s)) (Err Nonlinear))) c
      ∙ ap (λ z. checked (times z t)) (sym p.constant) in
      subst (λ e. Gives e lo hi r) (sym d) (gives_wider (checked (times a.constant t)) lo m hi hi r (times_gives b t m hi q a.constant r g) (rise_ends lo m p.order p.rise) (omega arith))

  pub product_right : (open_count (values_of a.terms.entries) == 0) ≡ false → (open_count (values_of b.terms.entries) == 0) ≡ true
      → (r : Result Sum LinearFault) → MatchResult r (Multiplies b.constant a) (OverflowsBy (ExceedsTimes b.constant a)) → Gives (product_of s t) lo hi r
  product_right h j r g =
      let c : is_constant s ≡ false = sym (kept_constant a s lo m p) ∙ h in
      let k : is_constant t ≡ true = sym (kept_constant b t m hi q) ∙ j in
      let d : product_of s t ≡ checked (times b.constant s) =
      ap (λ b. cond b (checked (times s.constant t)) (cond (is_constant t) (checked (times t.constant s)) (Err Nonlinear))) c
      ∙ ap (λ b. cond b (checked (times t.constant s)) (Err Nonlinear)) k ∙ ap (λ z. checked (times z s)) (sym q.constant) in
      subst (λ e. Gives e lo hi r) (sym d) (gives_wider (checked (times b.constant s)) lo lo m hi r (times_gives a s lo m p b.constant r g) (omega arith) (rise_ends m hi q.order q.rise))

  pub product_none : (open_count (values_of a.terms.entries) == 0) ≡ false → (open_count (values_of b.terms.entries) == 0) ≡ false → product_of s t ≡ Err Nonlinear
  product_none h j =
      let c : is_constant s ≡ false = sym (kept_constant a s lo m p) ∙ h in
      let k : is_constant t ≡ false = sym (kept_constant b t m hi q) ∙ j in
      ap (λ b. cond b (checked (times s.constant t)) (cond (is_constant t) (checked (times t.constant s)) (Err Nonlinear))) c ∙ ap (λ b. cond b (checked (times t.constant s)) (Err Nonlinear)) k
