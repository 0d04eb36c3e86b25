-- The sets of a counter, and of the variable whose number is counted.
use Rattle.std.proofs.Common.{◌≡◌, ℕ, zero, suc, ◌+◌, ◌*◌, ◌<◌, ◌≤◌, Bool, true, false, cond, not, ◌&&◌, ◌||◌, ◌==◌, eqb-true, eq-eqb, ℤ, pos, negsuc, ◌+ℤ◌, ◌-ℤ◌}
use Rattle.std.proofs.Common.{◌*ℤ◌, ◌≤ℤ◌, int_le, List, [], ◌∷◌, filter, refl, sym, ◌∙◌, ap, subst, inl, inr, arith}
use Rattle.std.specs.Ordering.{int_eq}
use Rattle.std.specs.Cmp.{both_ways}
use Rattle.std.proofs.Math.Bool.{or-false}
use Rattle.std.proofs.lemmas.Int.{ints}
use Rattle.std.proofs.lemmas.Bool.{cases_Bool, and_parts, and_from, false_from_ne_true, true≢false, or_left}
use Rattle.std.proofs.lemmas.List.Elements.{filter_agree}
use Rattle.fd_language.specs.declared.TheConstants.{INFINITY}
use Rattle.fd_language.specs.Family.{Family, has, universe, IsRising}
use Rattle.fd_language.specs.Range.{some_number, least, greatest, is_none_left}
use Rattle.fd_language.proofs.Lemmas.{two, some_from, has_high, least_in, greatest_in, not_empty}
use Rattle.domain_ranges.specs.Narrowing.{between}
use Rattle.domain_ranges.specs.Spans.{has_int}
use Rattle.domain_ranges.proofs.Lemmas.{set_same, some_has, int_same, same_int, pos_same, times_zero}
use Rattle.range_code.specs.Choices.{is_in}
use Rattle.range_code.specs.Forms.{IsNumber}
use Rattle.range_code.specs.declared.Reach.{Reach}
use Rattle.range_code.specs.declared.Reach.TheVariants as reach
use Rattle.range_code.specs.SetReaches.{IsReach}
use Rattle.range_code.specs.SpelledRanges.{counter_range, counted_range}
use Rattle.range_code.specs.QuickForms.{has_value, has_other, counter_least, counter_greatest, counted_reach}
use Rattle.range_code.specs.Work.{filled_set}
use Rattle.range_code.proofs.Tables.{any_within}

-- some number of U that passes, times 0
abbrev times_test : (ℕ → Bool) → ℕ → ℕ → Bool
times_test f e x = f x && int_eq (pos x *ℤ pos 0) (pos e)

times_none : (f : ℕ → Bool) (e : ℕ) → some_number INFINITY (λ x. f x && int_eq (pos x *ℤ pos 0) (pos e)) ≡ (some_number INFINITY f && (0 == e))
times_none f e = both_ways (some_number INFINITY (times_test f e)) (some_number INFINITY f && (0 == e))
    (λ t.
    let a = some_from INFINITY (times_test f e) t in
    let b = and_parts (f a.0) (int_eq (pos a.0 *ℤ pos 0) (pos e)) a.2 in
    and_from (some_number INFINITY f) (0 == e) (some_has INFINITY f a.0 a.1 b.0)
    (eq-eqb 0 e (sym (times_zero a.0) ∙ pos_same (a.0 * 0) e (same_int (pos (a.0 * 0)) (pos e) b.1))))
    (λ t.
    let b = and_parts (some_number INFINITY f) (0 == e) t in
    let a = some_from INFINITY f b.0 in
    some_has INFINITY (times_test f e) a.0 a.1
    (and_from (f a.0) (int_eq (pos a.0 *ℤ pos 0) (pos e)) a.2 (int_same (pos (a.0 * 0)) (pos e) (ap pos (times_zero a.0 ∙ eqb-true 0 e b.1)))))

-- 0, if it passes, plus 1
abbrev plus_test : Bool → ℕ → ℕ → Bool
plus_test b n e = (b && (0 == e)) && int_eq (pos e +ℤ pos 1) (pos n)

plus_one : (b : Bool) (n : ℕ) → some_number INFINITY (λ e. (b && (0 == e)) && int_eq (pos e +ℤ pos 1) (pos n)) ≡ (b && (1 == n))
plus_one b n = both_ways (some_number INFINITY (plus_test b n)) (b && (1 == n))
    (λ t.
    let a = some_from INFINITY (plus_test b n) t in
    let c = and_parts (b && (0 == a.0)) (int_eq (pos a.0 +ℤ pos 1) (pos n)) a.2 in
    let d = and_parts b (0 == a.0) c.0 in
    and_from b (1 == n) d.0
    (eq-eqb 1 n (ap (λ k. k + 1) (eqb-true 0 a.0 d.1) ∙ pos_same (a.0 + 1) n (same_int (pos (a.0 + 1)) (pos n) c.1))))
    (λ t.
    let d = and_parts b (1 == n) t in
    some_has INFINITY (plus_test b n) 0 (omega arith)
    (and_from (b && (0 == 0)) (int_eq (pos 0 +ℤ pos 1) (pos n)) (and_from b (0 == 0) d.0 refl) (int_same (pos 1) (pos n) (ap pos (eqb-true 1 n d.1)))))

-- the numbers of a counter's range
abbrev is_value : ℤ → List ℕ → ℕ → Bool
is_value v s x = int_eq v (pos x) && has s x

counter_test : (S : Family) (p : ℕ → ℤ) (v : ℤ) (slot n : ℕ) →
    is_in S p (counter_range v slot) n ≡ ((has_value (S slot) v && (1 == n)) || (has_other (S slot) v && (0 == n)))
counter_test S p v slot n = two (λ a b. a || b)
    (any_within INFINITY (λ e. some_number INFINITY (λ x. is_value v (S slot) x && int_eq (pos x *ℤ pos 0) (pos e)) && int_eq (pos e +ℤ pos 1) (pos n))
    (λ e. (some_number INFINITY (is_value v (S slot)) && (0 == e)) && int_eq (pos e +ℤ pos 1) (pos n))
    (λ e h. ap (λ c. c && int_eq (pos e +ℤ pos 1) (pos n)) (times_none (is_value v (S slot)) e))
    ∙ plus_one (some_number INFINITY (is_value v (S slot))) n)
    (times_none (λ x. not (int_eq v (pos x)) && has (S slot) x) n)

both_there : (n : ℕ) → ((1 == n) || (0 == n)) ≡ (int_le (pos 0) (pos n) && int_le (pos n) (pos 1))
both_there n = grind (arith, ints)

one_there : (n : ℕ) → ((1 == n) || false) ≡ (int_le (pos 1) (pos n) && int_le (pos n) (pos 1))
one_there n = grind (arith, ints)

zero_there : (n : ℕ) → (0 == n) ≡ (int_le (pos 0) (pos n) && int_le (pos n) (pos 0))
zero_there n = grind (arith, ints)

neither_there : (n : ℕ) → false ≡ (int_le (pos 1) (pos n) && int_le (pos n) (pos 0))
neither_there n = grind (arith, ints)

counter_set : (a b : Bool) → filter (λ n. (a && (1 == n)) || (b && (0 == n))) (universe INFINITY) ≡ between (cond (b || false) (pos 0) (pos 1)) (cond a (pos 1) (pos 0))
counter_set true true = filter_agree _ _ both_there (universe INFINITY)
counter_set true false = filter_agree _ _ one_there (universe INFINITY)
counter_set false true = filter_agree _ _ zero_there (universe INFINITY)
counter_set false false = filter_agree _ _ neither_there (universe INFINITY)

pub counter_is : (S : Family) (p : ℕ → ℤ) (v : ℤ) (slot : ℕ) → is_none_left (S slot) ≡ false
    → filled_set S p (counter_range v slot) ≡ between (counter_least (S slot) v) (counter_greatest (S slot) v)
counter_is S p v slot some =
    filter_agree (is_in S p (counter_range v slot)) (λ n. (has_value (S slot) v && (1 == n)) || (has_other (S slot) v && (0 == n))) (counter_test S p v slot) (universe INFINITY)
    ∙ (counter_set (has_value (S slot) v) (has_other (S slot) v)
    ∙ ap (λ e. between (cond (has_other (S slot) v || e) (pos 0) (pos 1)) (counter_greatest (S slot) v)) (sym some))

-- how a number stands to a set tells what its counter may be
or_true : (b : Bool) → (b || true) ≡ true
or_true true = refl
or_true false = refl

least_zero : (s : List ℕ) (v : ℤ) → has_other s v ≡ true → counter_least s v ≡ pos 0
least_zero s v h = ap (λ b. cond (b || is_none_left s) (pos 0) (pos 1)) h

other_there : (s : List ℕ) (v : ℤ) (m : ℕ) → m ≤ INFINITY → has s m ≡ true → (v ≡ pos m → ⊥) → has_other s v ≡ true
other_there s v m low h ne = some_has INFINITY (λ x. not (int_eq v (pos x)) && has s x) m low
    (and_from (not (int_eq v (pos m))) (has s m) (ap not (false_from_ne_true (int_eq v (pos m)) (λ t. ne (same_int v (pos m) t)))) h)

value_there : (s : List ℕ) (n : ℕ) → n ≤ INFINITY → has s n ≡ true → counter_greatest s (pos n) ≡ pos 1
value_there s n low h = ap (λ b. cond b (pos 1) (pos 0))
    (some_has INFINITY (λ x. int_eq (pos n) (pos x) && has s x) n low (and_from (int_eq (pos n) (pos n)) (has s n) (int_same (pos n) (pos n) refl) h))

pub none_counted : (s : List ℕ) (v : ℤ) → IsRising 0 INFINITY s → has_int s v ≡ false → (counter_least s v ≡ pos 0) × (counter_greatest s v ≡ pos 0)
none_counted s v r h = (low s r h, ap (λ b. cond b (pos 1) (pos 0)) (false_from_ne_true (has_value s v) absent)) where
  absent : has_value s v ≡ true → ⊥
  absent t =
      let a = some_from INFINITY (λ x. int_eq v (pos x) && has s x) t in
      let b = and_parts (int_eq v (pos a.0)) (has s a.0) a.2 in
      true≢false (sym b.1 ∙ (ap (has_int s) (sym (same_int v (pos a.0) b.0)) ∙ h))

  low : (xs : List ℕ) → IsRising 0 INFINITY xs → has_int xs v ≡ false → counter_least xs v ≡ pos 0
  low [] r h = ap (λ b. cond b (pos 0) (pos 1)) (or_true (has_other [] v))
  low (x ∷ xs) r h =
      let there : has (x ∷ xs) x ≡ true = or_left (x == x) (has xs x) (eq-eqb x x refl) in
      least_zero (x ∷ xs) v (other_there (x ∷ xs) v x r.1 there (λ e. true≢false (sym there ∙ (ap (has_int (x ∷ xs)) (sym e) ∙ h))))

single_counted : (n : ℕ) → n ≤ INFINITY → (counter_least (n ∷ []) (pos n) ≡ pos 1) × (counter_greatest (n ∷ []) (pos n) ≡ pos 1)
single_counted n low = (
  ap (λ b. cond (b || false) (pos 0) (pos 1)) (false_from_ne_true (has_other (n ∷ []) (pos n)) absent),
  value_there (n ∷ []) n low (or_left (n == n) false (eq-eqb n n refl)),
) where
  absent : has_other (n ∷ []) (pos n) ≡ true → ⊥
  absent t =
      let a = some_from INFINITY (λ x. not (int_eq (pos n) (pos x)) && has (n ∷ []) x) t in
      let b = and_parts (not (int_eq (pos n) (pos a.0))) (has (n ∷ []) a.0) a.2 in
      let e : n ≡ a.0 = eqb-true n a.0 (sym (or-false (n == a.0)) ∙ b.1) in
      true≢false (sym b.0 ∙ ap not (int_same (pos n) (pos a.0) (ap pos e)))

pub alone_counted : (s : List ℕ) (v : ℤ) → IsRising 0 INFINITY s → (n : ℕ) × (v ≡ pos n) × (s ≡ n ∷ []) → (counter_least s v ≡ pos 1) × (counter_greatest s v ≡ pos 1)
alone_counted s v r m =
    let low : m.0 ≤ INFINITY = has_high 0 INFINITY s m.0 r (ap (λ l. has l m.0) m.2 ∙ or_left (m.0 == m.0) false (eq-eqb m.0 m.0 refl)) in
    let k = single_counted m.0 low in
    (two counter_least m.2 m.1 ∙ k.0, two counter_greatest m.2 m.1 ∙ k.1)

pub some_counted : (s : List ℕ) (v : ℤ) (n : ℕ) → IsRising 0 INFINITY s → v ≡ pos n → has s n ≡ true → least s < greatest s
    → (counter_least s v ≡ pos 0) × (counter_greatest s v ≡ pos 1)
some_counted s v n r e h l = (
  ap (counter_least s) e ∙ least_zero s (pos n) (elim (cases_Bool (least s == n)) [
    | inl i ↦ let k = eqb-true (least s) n i in other_there s (pos n) (greatest s) (high (greatest s) (greatest_in s some)) (greatest_in s some)
        (λ g. let q = pos_same n (greatest s) g in let z : ⊥ = omega (arith, k, q, l) in z)
    | inr i ↦ other_there s (pos n) (least s) (high (least s) (least_in s some)) (least_in s some)
        (λ g. true≢false (sym (eq-eqb (least s) n (sym (pos_same n (least s) g))) ∙ i))
  ]),
  ap (counter_greatest s) e ∙ value_there s n (high n h) h,
) where
  some : is_none_left s ≡ false
  some = not_empty s n h

  high : (m : ℕ) → has s m ≡ true → m ≤ INFINITY
  high m g = has_high 0 INFINITY s m r g

-- the numbers of a counted variable, by the distances that leave U where the counter may not be 0, and where it may not be 1
abbrev passes : ℕ → ℤ → ℤ → ℕ → Bool
passes a t u n = ((int_le (pos a) (pos n) && int_le (pos n) (pos a +ℤ u)) || (int_le ((pos a +ℤ pos 1) +ℤ t) (pos n) && int_le (pos n) (pos INFINITY)))
    || (int_le (pos 0) (pos n) && int_le (pos n) ((pos a -ℤ pos 1) -ℤ t))

all_pass : (a n : ℕ) (u : ℤ) → n ≤ INFINITY → pos 0 ≤ℤ u → passes a (pos 0) u n ≡ true
all_pass a n u h g = grind (arith, ints, h, g)

others_pass : (a n : ℕ) → a ≤ INFINITY → n ≤ INFINITY → passes a (pos 0) (negsuc INFINITY) n ≡ not (int_eq (pos n) (pos a))
others_pass a n l h = grind (arith, ints, l, h)

first_alone : (x s q l w : Bool) → s ≡ false → w ≡ false → ((x || (s && q)) || (l && w)) ≡ x
first_alone true s q l w e f = refl
first_alone false s q true w e f = two (λ y z. (y && q) || z) e f
first_alone false s q false w e f = ap (λ y. (y && q) || false) e

none_above : (a n : ℕ) (t : ℤ) → n ≤ INFINITY → (pos INFINITY +ℤ pos 1) ≤ℤ t → int_le ((pos a +ℤ pos 1) +ℤ t) (pos n) ≡ false
none_above a n t h g = grind (arith, ints, h, g)

none_below : (a n : ℕ) (t : ℤ) → a ≤ INFINITY → (pos INFINITY +ℤ pos 1) ≤ℤ t → int_le (pos n) ((pos a -ℤ pos 1) -ℤ t) ≡ false
none_below a n t l g = grind (arith, ints, l, g)

alone_passes : (a n : ℕ) (t u : ℤ) → a ≤ INFINITY → n ≤ INFINITY → (pos INFINITY +ℤ pos 1) ≤ℤ t → passes a t u n ≡ (int_le (pos a) (pos n) && int_le (pos n) (pos a +ℤ u))
alone_passes a n t u l h g = first_alone (int_le (pos a) (pos n) && int_le (pos n) (pos a +ℤ u)) (int_le ((pos a +ℤ pos 1) +ℤ t) (pos n)) (int_le (pos n) (pos INFINITY))
    (int_le (pos 0) (pos n)) (int_le (pos n) ((pos a -ℤ pos 1) -ℤ t)) (none_above a n t h g) (none_below a n t l g)

keeps_each : (xs : List ℕ) → filter (λ n. true) xs ≡ xs
keeps_each [] = refl
keeps_each (x ∷ xs) = ap (λ l. x ∷ l) (keeps_each xs)

abbrev over : ℤ
over = pos INFINITY +ℤ pos 1

none_over : pos 0 *ℤ over ≡ pos 0
none_over = omega (arith, ints)

some_over : (m : ℕ) → over ≤ℤ (pos (suc m) *ℤ over)
some_over m = grind (arith, ints)

below_over : (pos 0 -ℤ pos 1) *ℤ over ≡ negsuc INFINITY
below_over = omega (arith, ints)

above_over : (g : ℕ) → pos 0 ≤ℤ ((pos (suc g) -ℤ pos 1) *ℤ over)
above_over g = let e : pos (suc g) -ℤ pos 1 ≡ pos g = grind (arith, ints) in subst (λ z. pos 0 ≤ℤ (z *ℤ over)) (sym e) (grind (arith, ints))

no_zero : (n : ℕ) → (suc n == 0) ≡ false
no_zero n = grind arith

abbrev over_ends : ℕ → ℕ → ℕ → List ℕ
over_ends m g a = filter (passes a (pos m *ℤ over) ((pos g -ℤ pos 1) *ℤ over)) (universe INFINITY)

abbrev by_counter : Bool → Bool → ℕ → ℕ → Reach
by_counter least_none greatest_none g a = cond least_none (cond greatest_none (reach.Except (pos a)) reach.All) (reach.Between (pos a) (pos a +ℤ (pos g -ℤ pos 1) *ℤ over))

by_ends : (m g a : ℕ) → a ≤ INFINITY → IsReach (over_ends m g a) (by_counter (m == 0) (g == 0) g a)
by_ends zero zero a l = set_same INFINITY (passes a (pos 0 *ℤ over) ((pos 0 -ℤ pos 1) *ℤ over)) (λ n. not (int_eq (pos n) (pos a)))
    (λ n h. two (λ t u. passes a t u n) none_over below_over ∙ others_pass a n l h)
by_ends zero (suc g) a l = subst (λ b. IsReach (over_ends zero (suc g) a) (by_counter true b (suc g) a)) (sym (no_zero g))
    (set_same INFINITY (passes a (pos 0 *ℤ over) ((pos (suc g) -ℤ pos 1) *ℤ over)) (λ n. true)
    (λ n h. ap (λ t. passes a t ((pos (suc g) -ℤ pos 1) *ℤ over) n) none_over ∙ all_pass a n ((pos (suc g) -ℤ pos 1) *ℤ over) h (above_over g))
    ∙ keeps_each (universe INFINITY))
by_ends (suc m) g a l = subst (λ b. IsReach (over_ends (suc m) g a) (by_counter b (g == 0) g a)) (sym (no_zero m))
    (set_same INFINITY (passes a (pos (suc m) *ℤ over) ((pos g -ℤ pos 1) *ℤ over))
    (λ n. int_le (pos a) (pos n) && int_le (pos n) (pos a +ℤ (pos g -ℤ pos 1) *ℤ over))
    (λ n h. alone_passes a n (pos (suc m) *ℤ over) ((pos g -ℤ pos 1) *ℤ over) l h (some_over m)))

pub counted_is : (S : Family) (p : ℕ → ℤ) (v : ℤ) (slot : ℕ) → IsNumber v → IsReach (filled_set S p (counted_range v slot)) (counted_reach (S slot) v)
counted_is S p (pos a) slot h = by_ends (least (S slot)) (greatest (S slot)) a (omega (arith, ints, h.1))
counted_is S p (negsuc a) slot h = absurd (let k = h.0 in let z : ⊥ = omega (arith, ints, k) in z)
