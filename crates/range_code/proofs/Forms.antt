-- How the nodes of a range are read as a form.
use Rattle.std.proofs.Common.{SFits, drop_of_length-le, ◌≡◌, ℕ, zero, suc, ◌+◌, ◌*◌, ◌-◌, ◌^◌, ◌<◌, ◌≤◌, length, take, drop, get_or, not, ℤ, pos, negsuc, neg_ℤ}
use Rattle.std.proofs.Common.{nat_abs, ◌+ℤ◌, ◌-ℤ◌, ◌*ℤ◌, ◌≤ℤ◌, List, [], ◌∷◌, ◌++◌, Some, refl, sym, ◌∙◌, ap, subst, ◌⊎◌, inl, inr, arith}
use Rattle.std.proofs.Math.Nat.{div-one}
use Rattle.std.proofs.Math.IntN.{+ℤ_assoc, +ℤ_comm, +ℤ_idl, neg_ℤ-neg_ℤ}
use Rattle.std.proofs.lemmas.Int.{ints, fits_signed_from_abs}
use mir.Syntax.{w64, w128}
use Rattle.std.specs.List.{All}
use Rattle.std.specs.Prelude.{IfOk, Result}
use Rattle.std.specs.Ordering.{int_eq}
use Rattle.std.proofs.lemmas.List.Elements.{All-head, All-tail, All-append, filter_agree}
use Rattle.fd_language.specs.declared.TheConstants.{INFINITY}
use Rattle.fd_language.specs.declared.range_node.RangeNode.{RangeNode}
use Rattle.fd_language.specs.declared.range_node.RangeNode.TheVariants as node
use Rattle.fd_language.specs.Family.{Family, has, universe, IsRising}
use Rattle.fd_language.specs.Range.{Range, Expr, least, greatest, down_by, Infinity, Min, Max, Val, Add, Sub, Mul, DivDown, DivUp, Span, One, Outside, in_range}
use Rattle.fd_language.specs.Range.{Number as Literal}
use Rattle.fd_language.specs.Check.{fill_range}
use Rattle.fd_language.specs.PostfixRanges.{nodes_of, built, built_behind, put, shape_of, term_alone, term_of_terms, builds_range, spelled_range}
use Rattle.fd_language.specs.PostfixRanges.{spelled_range-nodes, IsSpelled}
use Rattle.fd_language.proofs.Lemmas.{has_high, two, greatest_in, abs_add, abs_mul, products}
use Rattle.std.proofs.lemmas.List.{at_drop_more, take_all, nil_from_length}
use Rattle.std.proofs.lemmas.Option.{same_Some}
use Rattle.domain_ranges.specs.Narrowing.{between, all_but, IsNarrowed}
use Rattle.domain_ranges.specs.declared.Narrowed.{Narrowed}
use Rattle.range_code.specs.declared.frame.Arg.{Arg}
use Rattle.range_code.specs.declared.form.End.{End}
use Rattle.range_code.specs.declared.form.End.TheVariants.{Least, Greatest}
use Rattle.range_code.specs.declared.form.Product.{Product}
use Rattle.range_code.specs.declared.form.Shift.{Shift}
use Rattle.range_code.specs.declared.form.Division.{Division}
use Rattle.range_code.specs.declared.form.Division.TheVariants.{Whole, Down, Up}
use Rattle.range_code.specs.declared.form.Bound.{Bound}
use Rattle.range_code.specs.declared.form.Evaluation.{Evaluation}
use Rattle.range_code.specs.declared.form.Leaf.{Leaf}
use Rattle.range_code.specs.declared.form.Leaf.TheVariants.{Number, Read}
use Rattle.range_code.specs.declared.form.Addend.{Addend}
use Rattle.range_code.specs.Nodes.{IsReadable, IsSeen}
use Rattle.range_code.specs.Work.{filled_value, filled_set}
use Rattle.range_code.specs.Steps.{outside}
use Rattle.range_code.specs.Forms.{IsEvaluation, end_of, width_of, sum_of, total_of, divided, bound_value, product_value, leaf_amount, amount, AreNarrow, AreSeen}
use Rattle.range_code.specs.Forms.{IsLeafSeen, IsPositive, IsUsable, IsInterval, IsComplement, IsException, IsAbove, IsBelow, IsShiftOf, IsShiftUsable}
use Rattle.range_code.specs.Forms.{all_but_val, IsLeaf, IsSigned, IsDivision, IsPart, IsAdded, IsBound, other_end, IsOpposite, AreOpposite}
use Rattle.range_code.specs.SpelledRanges.{MeansSame}
use Rattle.range_code.proofs.Tables.{outside_is, one_is}

-- leaves
pub leaf_number : (n : RangeNode) (z : ℤ) → n ≡ node.Int z → IsLeaf n (Number z)
leaf_number n z e = record { term = Literal z; shape = ap shape_of e; value = λ S p. refl; seen = λ count args h. tt }

pub leaf_infinity : (n : RangeNode) → n ≡ node.Infinity → IsLeaf n (Number (pos INFINITY))
leaf_infinity n e = record { term = Infinity; shape = ap shape_of e; value = λ S p. refl; seen = λ count args h. tt }

pub leaf_min : (n : RangeNode) (y : ℕ) → n ≡ node.Min y → IsLeaf n (Read y Least)
leaf_min n y e = record { term = Min y; shape = ap shape_of e; value = λ S p. refl; seen = λ count args h. subst (IsReadable count args) e h }

pub leaf_max : (n : RangeNode) (y : ℕ) → n ≡ node.Max y → IsLeaf n (Read y Greatest)
leaf_max n y e = record { term = Max y; shape = ap shape_of e; value = λ S p. refl; seen = λ count args h. subst (IsReadable count args) e h }

pub leaf_val : (n : RangeNode) (y : ℕ) → n ≡ node.Val y → IsLeaf n (Read y Least)
leaf_val n y e = record { term = Val y; shape = ap shape_of e; value = λ S p. refl; seen = λ count args h. subst (IsReadable count args) e h }

-- one more node
step_leaf : (n : RangeNode) (ns : List RangeNode) (rs : List Range) (ts : List Expr) (t : Expr) → shape_of n ≡ term_alone t → built (n ∷ ns) rs ts ≡ built ns rs (t ∷ ts)
step_leaf n ns rs ts t e = ap (λ s. built_behind ns (put s rs ts)) e

step_two : (n : RangeNode) (ns : List RangeNode) (rs : List Range) (ts : List Expr) (a b : Expr) (make : Expr → Expr → Expr) → shape_of n ≡ term_of_terms make
    → built (n ∷ ns) rs (b ∷ a ∷ ts) ≡ built ns rs (make a b ∷ ts)
step_two n ns rs ts a b make e = ap (λ s. built_behind ns (put s rs (b ∷ a ∷ ts))) e

-- what is added
pub sign_kept : (n : RangeNode) (a : Addend) → n ≡ node.Add → IsSigned n a a
sign_kept n a e = record { make = Add; shape = ap shape_of e; value = λ S p e f h. ap (λ z. filled_value S p e +ℤ z) h; seen = λ count args h. h }

neg_times : (w x : ℤ) → neg_ℤ (w *ℤ x) ≡ neg_ℤ w *ℤ x
neg_times (pos zero) (pos x) = let e : 0 * x ≡ 0 = omega arith in rw e refl
neg_times (pos (suc w)) (pos x) = refl
neg_times (negsuc w) (pos x) = neg_ℤ-neg_ℤ (pos (suc w * x))
neg_times (pos zero) (negsuc x) = let e : 0 * suc x ≡ 0 = omega arith in rw e refl
neg_times (pos (suc w)) (negsuc x) = neg_ℤ-neg_ℤ (pos (suc w * suc x))
neg_times (negsuc w) (negsuc x) = refl

pub sign_turned : (n : RangeNode) (a : Addend) (w : ℤ) → n ≡ node.Sub → w ≡ neg_ℤ a.weight → IsSigned n a (record { weight = w; leaf = a.leaf })
sign_turned n a w e g = record {
  make = Sub;
  shape = ap shape_of e;
  value = λ S p e f h. ap (λ z. filled_value S p e -ℤ z) h ∙ ap (λ z. filled_value S p e +ℤ z) (neg_times a.weight (leaf_amount S a.leaf) ∙ ap (λ v. v *ℤ leaf_amount S a.leaf) (sym g));
  seen = λ count args h. h;
}

pub once_is : (z : ℤ) → z ≡ pos 1 *ℤ z
once_is (pos n) = let e : 1 * n ≡ n = omega arith in rw e refl
once_is (negsuc n) = let e : 1 * suc n ≡ suc n = omega arith in rw e refl

-- the first nodes of what follows a term
module _ (first last : RangeNode) (rest : List RangeNode) where
  pub part_alone : (l : Leaf) (a : Addend) → IsLeaf first l → IsSigned last (record { weight = pos 1; leaf = l }) a → IsPart (first ∷ last ∷ rest) a rest
  part_alone l a f s = record {
    make = λ e. s.make e f.term;
    nodes = λ rs ts e. step_leaf first (last ∷ rest) rs (e ∷ ts) f.term f.shape ∙ step_two last rest rs ts e f.term s.make s.shape;
    value = λ S p e. s.value S p e f.term (f.value S p ∙ once_is (leaf_amount S l));
    seen = λ count args h. (
      s.seen count args (f.seen count args (All-head (IsReadable count args) first (last ∷ rest) h)),
      All-tail (IsReadable count args) last rest (All-tail (IsReadable count args) first (last ∷ rest) h),
    );
  }

  leaf_seen : (second : RangeNode) (l k m : Leaf) (count : ℕ) (args : List Arg) → IsLeafSeen count args l → IsLeafSeen count args k → (m ≡ l) ⊎ (m ≡ k) → IsLeafSeen count args m
  leaf_seen second l k m count args f g h = elim h [ inl e ↦ subst (IsLeafSeen count args) (sym e) f | inr e ↦ subst (IsLeafSeen count args) (sym e) g ]

  pub part_times : (second third : RangeNode) (l k : Leaf) (m a : Addend) → third ≡ node.Mul → IsLeaf first l → IsLeaf second k
      → ((S : Family) → leaf_amount S l *ℤ leaf_amount S k ≡ amount S m) → (m.leaf ≡ l) ⊎ (m.leaf ≡ k) → IsSigned last m a →
      IsPart (first ∷ second ∷ third ∷ last ∷ rest) a rest
  part_times second third l k m a e f g h w s = record {
    make = λ t. s.make t (Mul f.term g.term);
    nodes = λ rs ts t. step_leaf first (second ∷ third ∷ last ∷ rest) rs (t ∷ ts) f.term f.shape
        ∙ (step_leaf second (third ∷ last ∷ rest) rs (f.term ∷ t ∷ ts) g.term g.shape
        ∙ (step_two third (last ∷ rest) rs (t ∷ ts) f.term g.term Mul (ap shape_of e)
        ∙ step_two last rest rs ts t (Mul f.term g.term) s.make s.shape));
    value = λ S p t. s.value S p t (Mul f.term g.term) (two (λ x y. x *ℤ y) (f.value S p) (g.value S p) ∙ h S);
    seen = λ count args r.
        let behind = All-tail (IsReadable count args) first (second ∷ third ∷ last ∷ rest) r in (
          s.seen count args (leaf_seen second l k m.leaf count args
              (f.seen count args (All-head (IsReadable count args) first (second ∷ third ∷ last ∷ rest) r))
              (g.seen count args (All-head (IsReadable count args) second (third ∷ last ∷ rest) behind)) w),
          All-tail (IsReadable count args) last rest (All-tail (IsReadable count args) third (last ∷ rest) (All-tail (IsReadable count args) second (third ∷ last ∷ rest) behind)),
        );
  }

-- sums
sum_append : (S : Family) (ms : List Product) (m : Product) → sum_of S (ms ++ m ∷ []) ≡ sum_of S ms +ℤ product_value S m
sum_append S [] m = let z = product_value S m in grind (arith, ints)
sum_append S (k ∷ ms) m = ap (λ z. product_value S k +ℤ z) (sum_append S ms m) ∙ sym (+ℤ_assoc (product_value S k) (sum_of S ms) (product_value S m))

none_seen : (count : ℕ) (args : List Arg) → AreSeen count args []
none_seen count args k d h = absurd (nothing k h) where
  nothing : (k : ℕ) → k < 0 → ⊥
  nothing k h = omega arith

one_seen : (count : ℕ) (args : List Arg) (m : Product) → IsSeen count args m.slot → AreSeen count args (m ∷ [])
one_seen count args m h zero d l = h
one_seen count args m h (suc k) d l = absurd (nothing k l) where
  nothing : (k : ℕ) → suc k < 1 → ⊥
  nothing k l = omega arith

pub added_read : (old new : Bound) (m : Product) → new.constant ≡ old.constant → new.products.items ≡ old.products.items ++ m ∷ [] → new.division ≡ old.division
    → IsAdded old (record { weight = m.weight; leaf = Read m.slot m.end }) new
added_read old new m c p d = record {
  value = λ S. two (λ x ms. x +ℤ sum_of S ms) c p ∙ (ap (λ z. old.constant +ℤ z) (sum_append S old.products.items m) ∙ sym (+ℤ_assoc old.constant (sum_of S old.products.items) (product_value S m)));
  seen = λ count args h g. subst (AreSeen count args) (sym p) (All-append (λ k. IsSeen count args k.slot) old.products.items (m ∷ []) h (one_seen count args m g));
  division = d;
}

-- a moved end
pub shift_small : (c : ℤ) (e : ℕ) → nat_abs c + INFINITY ≤ 2 ^ 63 - 1 → e ≤ INFINITY → nat_abs (c +ℤ pos e) ≤ 2 ^ 63 - 1
shift_small c e h l = let a = abs_add c (pos e) in grind (arith, a, h)

-- one more product of a sum
pub product_small : (w : ℤ) (e : ℕ) → e ≤ INFINITY → nat_abs (w *ℤ pos e) ≤ nat_abs w * INFINITY
product_small w e h = products (nat_abs (w *ℤ pos e)) (nat_abs w) e (nat_abs w) INFINITY (abs_mul w (pos e)) (omega arith) h

pub sum_small : (s w : ℤ) (e : ℕ) → nat_abs s + nat_abs w * INFINITY ≤ 2 ^ 63 - 1 → e ≤ INFINITY → nat_abs (s +ℤ w *ℤ pos e) ≤ 2 ^ 63 - 1
sum_small s w e h l = let a = abs_add s (w *ℤ pos e) in let b = product_small w e l in grind (arith, a, b, h)

pub sum_more : (S : Family) (ms : List Product) (i : ℕ) (d : Product) (s total r : ℤ) (e : ℕ) → i < length ms
    → e ≡ end_of (S (get_or ms i d).slot) (get_or ms i d).end → s +ℤ sum_of S (drop i ms) ≡ total → r ≡ s +ℤ (get_or ms i d).weight *ℤ pos e →
    r +ℤ sum_of S (drop (i + 1) ms) ≡ total
sum_more S ms i d s total r e l h g f =
    let m : Product = get_or ms i d in
    ap (λ z. z +ℤ sum_of S (drop (i + 1) ms)) (f ∙ ap (λ k. s +ℤ m.weight *ℤ pos k) h) ∙ (+ℤ_assoc s (product_value S m) (sum_of S (drop (i + 1) ms))
    ∙ (ap (λ z. s +ℤ z) (sym (at_drop_more (sum_of S) ms i d l)) ∙ g))

pub width_first : (ms : List Product) (i : ℕ) (d : Product) (s : ℤ) → i < length ms → AreNarrow (nat_abs s) (drop i ms) → AreNarrow (nat_abs s) (get_or ms i d ∷ drop (i + 1) ms)
width_first ms i d s l h = subst (λ n. nat_abs s + n ≤ 2 ^ 63 - 1) (at_drop_more width_of ms i d l) h

pub width_there : (ms : List Product) (i : ℕ) (d : Product) (s : ℤ) → i < length ms → AreNarrow (nat_abs s) (drop i ms) → nat_abs s + nat_abs (get_or ms i d).weight * INFINITY ≤ 2 ^ 63 - 1
width_there ms i d s l h = let k = width_first ms i d s l h in grind (arith, k)

pub width_more : (ms : List Product) (i : ℕ) (d : Product) (s r : ℤ) (e : ℕ) → i < length ms → AreNarrow (nat_abs s) (drop i ms) → e ≤ INFINITY
    → r ≡ s +ℤ (get_or ms i d).weight *ℤ pos e → AreNarrow (nat_abs r) (drop (i + 1) ms)
width_more ms i d s r e l h g f =
    let k = width_first ms i d s l h in
    let a = abs_add s ((get_or ms i d).weight *ℤ pos e) in
    let b = product_small (get_or ms i d).weight e g in
    subst (λ z. AreNarrow (nat_abs z) (drop (i + 1) ms)) (sym f)
    (joined (nat_abs (s +ℤ (get_or ms i d).weight *ℤ pos e)) (nat_abs s) (nat_abs ((get_or ms i d).weight *ℤ pos e))
    (nat_abs (get_or ms i d).weight * INFINITY) (width_of (drop (i + 1) ms)) (2 ^ 63 - 1) a b k) where
      joined : (x y z w v m : ℕ) → x ≤ y + z → z ≤ w → y + (w + v) ≤ m → x + v ≤ m
      joined x y z w v m a b c = omega arith

-- the sum of one more product, where the other list has its opposite
pub opposite_end : (S : Family) (m k : Product) (e : ℕ) → IsOpposite m k → e ≡ end_of (S m.slot) (other_end m.end) → e ≡ end_of (S k.slot) k.end
opposite_end S m k e o h = h ∙ sym (two (λ slot end. end_of (S slot) end) o.slot o.end)

pub opposite_sum : (m k : Product) (s r : ℤ) (e : ℕ) → IsOpposite m k → r ≡ s +ℤ m.weight *ℤ pos e → r ≡ s +ℤ k.weight *ℤ pos e
opposite_sum m k s r e o h = h ∙ ap (λ w. s +ℤ w *ℤ pos e) (sym o.weight)

pub opposite_width : (m k : Product) (s : ℤ) → IsOpposite m k → nat_abs s + nat_abs k.weight * INFINITY ≤ 2 ^ 63 - 1 → nat_abs s + nat_abs m.weight * INFINITY ≤ 2 ^ 63 - 1
opposite_width m k s o h = subst (λ w. nat_abs s + nat_abs w * INFINITY ≤ 2 ^ 63 - 1) o.weight h

summed_all : (S : Family) (ms : List Product) (i : ℕ) (a total : ℤ) → length ms ≤ i → a +ℤ sum_of S (drop i ms) ≡ total → a ≡ total
summed_all S ms i a total l e = sym (+ℤ_idl a) ∙ (+ℤ_comm (pos 0) a ∙ (ap (λ ns. a +ℤ sum_of S ns) (sym (drop_of_length-le ms l)) ∙ e))

-- two sums at a place of two lists of opposite products: with what is left they come to the totals, and none leaves 64 bits
pub record Summing (S : Family) (ms ks : List Product) (i : ℕ) (a b low high : ℤ) : Type 0 where
  pub low_sum : a +ℤ sum_of S (drop i ms) ≡ low
  pub high_sum : b +ℤ sum_of S (drop i ks) ≡ high
  pub low_width : AreNarrow (nat_abs a) (drop i ms)
  pub high_width : AreNarrow (nat_abs b) (drop i ks)

pub starts_summing : (S : Family) (ms : List Product) (a b : Bound) → ms ≡ a.products.items → AreNarrow (nat_abs a.constant) a.products.items
    → AreNarrow (nat_abs b.constant) b.products.items → Summing S ms b.products.items 0 a.constant b.constant (total_of S a) (total_of S b)
starts_summing S ms a b e h g = record { low_sum = ap (λ l. a.constant +ℤ sum_of S l) e; high_sum = refl; low_width = subst (AreNarrow (nat_abs a.constant)) (sym e) h; high_width = g }

module _ (S : Family) (ms ks : List Product) (i : ℕ) (a b low high : ℤ) (opposite : AreOpposite ms ks) (h : Summing S ms ks i a b low high) where
  module _ (d : Product) (l : i < length ms) where
    abbrev m : Product
    m = get_or ms i d

    abbrev k : Product
    k = get_or ks i d

    each : IsOpposite m k
    each = opposite.each i d l

    within : i < length ks
    within = omega (arith, l, opposite.count)

    pub low_fits : nat_abs a + nat_abs m.weight * INFINITY ≤ 2 ^ 63 - 1
    low_fits = width_there ms i d a l h.low_width

    pub high_fits : nat_abs b + nat_abs m.weight * INFINITY ≤ 2 ^ 63 - 1
    high_fits = opposite_width m k b each (width_there ks i d b within h.high_width)

    pub summed : (e f : ℕ) (r q : ℤ) → e ≡ end_of (S m.slot) m.end → f ≡ end_of (S m.slot) (other_end m.end) → e ≤ INFINITY → f ≤ INFINITY
        → r ≡ a +ℤ m.weight *ℤ pos e → q ≡ b +ℤ m.weight *ℤ pos f → Summing S ms ks (i + 1) r q low high
    summed e f r q x y u v p o = let g = opposite_sum m k b q f each o in record {
      low_sum = sum_more S ms i d a low r e l x h.low_sum p;
      high_sum = sum_more S ks i d b high q f within (opposite_end S m k f each y) h.high_sum g;
      low_width = width_more ms i d a r e l h.low_width u p;
      high_width = width_more ks i d b q f within h.high_width v g;
    }

  module _ (l : length ms ≤ i) where
    pub low_done : a ≡ low
    low_done = summed_all S ms i a low l h.low_sum

    pub high_done : b ≡ high
    high_done = summed_all S ks i b high (omega (arith, l, opposite.count)) h.high_sum

    pub low_small : nat_abs a ≤ 2 ^ 63 - 1
    low_small = let g = h.low_width in omega (arith, g)

    pub high_small : nat_abs b ≤ 2 ^ 63 - 1
    high_small = let g = h.high_width in omega (arith, g)

-- the end of a set that is the same
pub at_end : (r : ℕ) (s t : List ℕ) (x : End) → r ≡ end_of s x → s ≡ t → r ≡ end_of t x
at_end r s t x e h = e ∙ ap (λ l. end_of l x) h

-- a bound from the first leaf on
pub bound_first : (n : RangeNode) (rest : List RangeNode) (l : Leaf) (empty b : Bound) → IsLeaf n l → ((S : Family) → total_of S empty ≡ pos 0)
    → empty.products.items ≡ [] → empty.division ≡ Whole → IsAdded empty (record { weight = pos 1; leaf = l }) b → IsBound (n ∷ rest) b rest
bound_first n rest l empty b f z p d a = record {
  term = f.term;
  nodes = λ rs ts. step_leaf n rest rs ts f.term f.shape;
  value = λ S v. f.value S v ∙ (once_is (leaf_amount S l)
      ∙ (sym (+ℤ_idl (pos 1 *ℤ leaf_amount S l)) ∙ (ap (λ x. x +ℤ pos 1 *ℤ leaf_amount S l) (sym (z S))
      ∙ (sym (a.value S) ∙ ap (λ x. divided x (total_of S b)) (sym (a.division ∙ d))))));
  seen = λ count args h. (
    a.seen count args (subst (AreSeen count args) (sym p) (none_seen count args))
        (f.seen count args (All-head (IsReadable count args) n rest h)),
    All-tail (IsReadable count args) n rest h,
  );
  division = subst IsPositive (sym (a.division ∙ d)) tt;
}

pub whole_value : (S : Family) (b : Bound) → b.division ≡ Whole → bound_value S b ≡ total_of S b
whole_value S b d = ap (λ x. divided x (total_of S b)) d

pub bound_more : (ns rest behind : List RangeNode) (b c : Bound) (a : Addend) → IsBound ns b rest → b.division ≡ Whole → IsPart rest a behind → IsAdded b a c → IsBound ns c behind
bound_more ns rest behind b c a f d g h = record {
  term = g.make f.term;
  nodes = λ rs ts. f.nodes rs ts ∙ g.nodes rs ts f.term;
  value = λ S p. g.value S p f.term ∙ (ap (λ z. z +ℤ amount S a) (f.value S p ∙ whole_value S b d) ∙ (sym (h.value S) ∙ sym (whole_value S c (h.division ∙ d))));
  seen = λ count args r. let s = f.seen count args r in let t = g.seen count args s.1 in (h.seen count args s.0 t.0, t.1);
  division = subst IsPositive (sym (h.division ∙ d)) tt;
}

-- a divided one
pub division_down : (n m : RangeNode) (d : ℤ) → n ≡ node.Int d → m ≡ node.DivDown → pos 1 ≤ℤ d → IsDivision n m (Down d)
division_down n m d e f h = record { term = Literal d; make = DivDown; divisor = ap shape_of e; shape = ap shape_of f; value = λ S p t. refl; positive = h }

pub division_up : (n m : RangeNode) (d : ℤ) → n ≡ node.Int d → m ≡ node.DivUp → pos 1 ≤ℤ d → IsDivision n m (Up d)
division_up n m d e f h = record { term = Literal d; make = DivUp; divisor = ap shape_of e; shape = ap shape_of f; value = λ S p t. refl; positive = h }

pub bound_divided : (ns rest : List RangeNode) (b c : Bound) (n m : RangeNode) (d : Division) → IsBound ns b (n ∷ m ∷ rest) → b.division ≡ Whole
    → IsDivision n m d → c.constant ≡ b.constant → c.products ≡ b.products → c.division ≡ d → IsBound ns c rest
bound_divided ns rest b c n m d f w g k p q = record {
  term = g.make f.term g.term;
  nodes = λ rs ts. f.nodes rs ts ∙ (step_leaf n (m ∷ rest) rs (f.term ∷ ts) g.term g.divisor ∙ step_two m rest rs ts f.term g.term g.make g.shape);
  value = λ S z. g.value S z f.term ∙ (ap (divided d) (f.value S z ∙ (whole_value S b w ∙ two (λ x ms. x +ℤ sum_of S ms) (sym k) (ap (λ l. l.items) (sym p))))
      ∙ ap (λ x. divided x (total_of S c)) (sym q));
  seen = λ count args r. let s = f.seen count args r in
      (subst (λ l. AreSeen count args l.items) (sym p) s.0, All-tail (IsReadable count args) m rest (All-tail (IsReadable count args) n (m ∷ rest) s.1));
  division = subst IsPositive (sym q) g.positive;
}

-- the first elements of a list
pub front_two : (ns : List RangeNode) (d : RangeNode) → 2 ≤ length ns → ns ≡ get_or ns 0 d ∷ get_or ns 1 d ∷ take (length ns - 2) (drop 2 ns)
front_two [] d h = absurd (let k : ⊥ = omega (arith, h) in k)
front_two (a ∷ []) d h = absurd (let k : ⊥ = omega (arith, h) in k)
front_two (a ∷ b ∷ ns) d h = ap (λ l. a ∷ b ∷ l) (sym (take_all (length (a ∷ b ∷ ns) - 2) ns (omega arith)))

pub front_one : (ns : List RangeNode) (d : RangeNode) → 1 ≤ length ns → ns ≡ get_or ns 0 d ∷ take (length ns - 1) (drop 1 ns)
front_one [] d h = absurd (let k : ⊥ = omega (arith, h) in k)
front_one (a ∷ ns) d h = ap (λ l. a ∷ l) (sym (take_all (length (a ∷ ns) - 1) ns (omega arith)))

pub only_one : (ns : List RangeNode) (d : RangeNode) → length ns ≡ 1 → ns ≡ get_or ns 0 d ∷ []
only_one [] d h = absurd (let k : ⊥ = omega (arith, h) in k)
only_one (a ∷ []) d h = refl
only_one (a ∷ b ∷ ns) d h = absurd (let k : ⊥ = omega (arith, h) in k)

pub only_two : (ns : List RangeNode) (d : RangeNode) → length ns ≡ 2 → ns ≡ get_or ns 0 d ∷ get_or ns 1 d ∷ []
only_two [] d h = absurd (let k : ⊥ = omega (arith, h) in k)
only_two (a ∷ []) d h = absurd (let k : ⊥ = omega (arith, h) in k)
only_two (a ∷ b ∷ []) d h = refl
only_two (a ∷ b ∷ c ∷ ns) d h = absurd (let k : ⊥ = omega (arith, h) in k)

module _ (ns : List RangeNode) (r : Range) (are : ns ≡ nodes_of r) where
  whole_built : Some r ≡ built ns [] []
  whole_built = sym (ap (λ l. built l [] []) are ∙ builds_range r [] [])

  usable : (b : Bound) → AreNarrow (nat_abs b.constant) b.products.items → IsPositive b.division
      → ((count : ℕ) (args : List Arg) → All (IsReadable count args) ns → AreSeen count args b.products.items) → IsUsable r b
  usable b w p s = record { width = w; division = p; seen = λ count args h. s count args (subst (All (IsReadable count args)) (sym are) h) }

  low_usable : (rest : List RangeNode) (a : Bound) → IsBound ns a rest → AreNarrow (nat_abs a.constant) a.products.items → IsUsable r a
  low_usable rest a f w = usable a w f.division (λ count args h. (f.seen count args h).0)

  high_usable : (middle rest : List RangeNode) (a b : Bound) → IsBound ns a middle → IsBound middle b rest → AreNarrow (nat_abs b.constant) b.products.items → IsUsable r b
  high_usable middle rest a b f g w = usable b w g.division (λ count args h. (g.seen count args (f.seen count args h).1).0)

  -- the range, where the nodes end with the bounds
  two_ends : (middle rest : List RangeNode) (a b : Bound) (f : IsBound ns a middle) (g : IsBound middle b rest) → Some r ≡ built rest [] (g.term ∷ f.term ∷ [])
  two_ends middle rest a b f g = whole_built ∙ (f.nodes [] [] ∙ g.nodes [] (f.term ∷ []))

  pub interval_form : (middle : List RangeNode) (m : RangeNode) (a b : Bound) → IsBound ns a middle → IsBound middle b (m ∷ []) → m ≡ node.Span
      → AreNarrow (nat_abs a.constant) a.products.items → AreNarrow (nat_abs b.constant) b.products.items → IsInterval r a b
  interval_form middle m a b f g e v w =
      let is : r ≡ Span f.term g.term = same_Some r (Span f.term g.term) (two_ends middle (m ∷ []) a b f g ∙ ap (λ k. built (k ∷ []) [] (g.term ∷ f.term ∷ [])) e) in
      record {
        set = λ S p. ap (filled_set S p) is ∙ two between (f.value S p) (g.value S p);
        low = low_usable middle a f v;
        high = high_usable middle (m ∷ []) a b f g w;
      }

  pub complement_form : (middle : List RangeNode) (m n : RangeNode) (a b : Bound) → IsBound ns a middle → IsBound middle b (m ∷ n ∷ []) → m ≡ node.Span
      → n ≡ node.Outside → AreNarrow (nat_abs a.constant) a.products.items → AreNarrow (nat_abs b.constant) b.products.items → IsComplement r a b
  complement_form middle m n a b f g e i v w =
      let is : r ≡ Outside (Span f.term g.term) = same_Some r (Outside (Span f.term g.term)) (two_ends middle (m ∷ n ∷ []) a b f g ∙ two (λ k j. built (k ∷ j ∷ []) [] (g.term ∷ f.term ∷ [])) e i) in
      record {
        set = λ S p. ap (filled_set S p) is ∙ (sym (outside_is INFINITY (in_range INFINITY S (fill_range p (Span f.term g.term)))) ∙ ap outside (two between (f.value S p) (g.value S p)));
        low = low_usable middle a f v;
        high = high_usable middle (m ∷ n ∷ []) a b f g w;
      }

  pub exception_form : (m n : RangeNode) (a : Bound) → IsBound ns a (m ∷ n ∷ []) → m ≡ node.One → n ≡ node.Outside → AreNarrow (nat_abs a.constant) a.products.items → IsException r a
  exception_form m n a f e i v =
      let is : r ≡ Outside (One f.term) = same_Some r (Outside (One f.term)) (whole_built ∙ (f.nodes [] [] ∙ two (λ k j. built (k ∷ j ∷ []) [] (f.term ∷ [])) e i)) in
      record {
        set = λ S p. ap (filled_set S p) is ∙ (sym (outside_is INFINITY (in_range INFINITY S (fill_range p (One f.term))))
            ∙ ap outside (sym (one_is INFINITY (filled_value S p f.term)) ∙ ap (λ z. between z z) (f.value S p)));
        value = low_usable (m ∷ n ∷ []) a f v;
      }

-- the greatest member is in U
pub greatest_limit : (M : ℕ) (xs : List ℕ) (n : ℕ) → IsRising 0 M xs → n ≡ greatest xs → n ≤ M
greatest_limit M [] n r e = omega (arith, e)
greatest_limit M (x ∷ xs) n r e = has_high 0 M (x ∷ xs) n r (ap (has (x ∷ xs)) e ∙ greatest_in (x ∷ xs) refl)

-- the nodes of a range spell it
pub form_spells : (nodes : List RangeNode) (r : Range) (form : Evaluation) → nodes ≡ nodes_of r → IsEvaluation r form → IsEvaluation (spelled_range nodes) form
form_spells nodes r form e = subst (λ x. IsEvaluation x form) (sym (ap spelled_range e ∙ spelled_range-nodes r))

pub spells_itself : (nodes : List RangeNode) → IsSpelled nodes → nodes ≡ nodes_of (spelled_range nodes)
spells_itself nodes (r, e) = sym e ∙ ap nodes_of (sym (spelled_range-nodes r) ∙ ap spelled_range e)

pub fits_small : (z : ℤ) → nat_abs z ≤ 2 ^ 63 - 1 → SFits w64 z
fits_small z h = fits_signed_from_abs w64 z (omega arith)

-- an integer of 64 bits in 128 bits
pub wider : (z : ℤ) → SFits w64 z → SFits w128 z
wider z h = record { sfits = omega (arith, h.sfits) }

-- what is left of a set, by the set that it is intersected with
pub narrows_same : {E : Type 0} (res : Result Narrowed E) (old s t : List ℕ) → s ≡ t → IfOk res (IsNarrowed old s) → IfOk res (IsNarrowed old t)
narrows_same res old s t e h = subst (λ l. IfOk res (IsNarrowed old l)) e h

other_way : (z : ℤ) (n : ℕ) → not (int_eq (pos n) z) ≡ not (int_eq z (pos n))
other_way z n = grind (arith, ints)

-- all numbers but one are the complement of that one
pub except_one : (z : ℤ) → all_but z ≡ outside (between z z)
except_one z = filter_agree (λ n. not (int_eq (pos n) z)) (λ n. not (int_eq z (pos n))) (other_way z) (universe INFINITY)
    ∙ sym (ap outside (one_is INFINITY z) ∙ outside_is INFINITY (λ n. int_eq z (pos n)))

-- a term divided by 1
down_one : (z : ℤ) → down_by z 0 ≡ z
down_one (pos a) = ap pos (div-one a)
down_one (negsuc a) = ap negsuc (div-one a)

up_one : (z : ℤ) → neg_ℤ (down_by (neg_ℤ z) 0) ≡ z
up_one z = ap neg_ℤ (down_one (neg_ℤ z)) ∙ neg_ℤ-neg_ℤ z

pub undivided_down : (n m : RangeNode) → n ≡ node.Int (pos 1) → m ≡ node.DivDown → IsDivision n m Whole
undivided_down n m e f = record { term = Literal (pos 1); make = DivDown; divisor = ap shape_of e; shape = ap shape_of f; value = λ S p t. down_one (filled_value S p t); positive = tt }

pub undivided_up : (n m : RangeNode) → n ≡ node.Int (pos 1) → m ≡ node.DivUp → IsDivision n m Whole
undivided_up n m e f = record { term = Literal (pos 1); make = DivUp; divisor = ap shape_of e; shape = ap shape_of f; value = λ S p t. up_one (filled_value S p t); positive = tt }

pub one_outside : (r : Range) (a b : Bound) → IsComplement r a b → ((S : Family) → bound_value S a ≡ bound_value S b) → IsException r a
one_outside r a b h e = record { set = λ S p. h.set S p ∙ ap (λ z. outside (between (bound_value S a) z)) (sym (e S)); value = h.low }

-- bounds that are a number, and a moved end
pub plus_none : (z : ℤ) → z +ℤ pos 0 ≡ z
plus_none z = +ℤ_comm z (pos 0) ∙ +ℤ_idl z

pub number_is : (b : Bound) → b.division ≡ Whole → length b.products.items ≡ 0 → (S : Family) → bound_value S b ≡ b.constant
number_is b d e S = whole_value S b d ∙ (ap (λ ms. b.constant +ℤ sum_of S ms) (nil_from_length b.products.items e) ∙ plus_none b.constant)

only_product : (ms : List Product) (d : Product) → length ms ≡ 1 → ms ≡ get_or ms 0 d ∷ []
only_product [] d e = absurd (let k : ⊥ = omega (arith, e) in k)
only_product (m ∷ []) d e = refl
only_product (m ∷ k ∷ ms) d e = absurd (let z : ⊥ = omega (arith, e) in z)

shift_at : (b : Bound) (m : Product) → b.division ≡ Whole → b.products.items ≡ m ∷ [] → m.weight ≡ pos 1 → IsShiftOf b m.end (record { constant = b.constant; slot = m.slot })
shift_at b m d e w = record {
  value = λ S. whole_value S b d ∙ (ap (λ ms. b.constant +ℤ sum_of S ms) e
      ∙ ap (λ z. b.constant +ℤ z) (plus_none (product_value S m)
      ∙ (ap (λ x. x *ℤ pos (end_of (S m.slot) m.end)) w ∙ sym (once_is (pos (end_of (S m.slot) m.end))))));
  width = λ h. narrow (subst (AreNarrow (nat_abs b.constant)) e h);
  seen = λ count args h. subst (AreSeen count args) e h 0 m (omega arith);
} where
  narrow : AreNarrow (nat_abs b.constant) (m ∷ []) → nat_abs b.constant + INFINITY ≤ 2 ^ 63 - 1
  narrow h = let k = ap nat_abs w in one (nat_abs b.constant) (nat_abs m.weight) k h where
    one : (n k : ℕ) → k ≡ 1 → n + (k * INFINITY + 0) ≤ 2 ^ 63 - 1 → n + INFINITY ≤ 2 ^ 63 - 1
    one n k e h = omega (arith, e, h)

pub shift_is : (b : Bound) (ms : List Product) (k : Product) (end : End) → b.division ≡ Whole → ms ≡ b.products.items → length ms ≡ 1
    → (get_or ms 0 k).weight ≡ pos 1 → (get_or ms 0 k).end ≡ end → IsShiftOf b end (record { constant = b.constant; slot = (get_or ms 0 k).slot })
shift_is b ms k end d e l w o = subst (λ x. IsShiftOf b x (record { constant = b.constant; slot = (get_or ms 0 k).slot })) o (shift_at b (get_or ms 0 k) d (sym e ∙ only_product ms k l) w)

shift_usable : (r : Range) (b : Bound) (end : End) (s : Shift) → IsUsable r b → IsShiftOf b end s → IsShiftUsable r s
shift_usable r b end s u h = record { width = h.width u.width; seen = λ count args g. h.seen count args (u.seen count args g) }

pub above_form : (r : Range) (a b : Bound) (s : Shift) (z : ℤ) → IsInterval r a b → IsShiftOf a Least s → ((S : Family) → bound_value S b ≡ z) → IsAbove r s z
above_form r a b s z h e f = record { set = λ S p. h.set S p ∙ two between (e.value S) (f S); usable = shift_usable r a Least s h.low e }

pub below_form : (r : Range) (a b : Bound) (s : Shift) (z : ℤ) → IsInterval r a b → ((S : Family) → bound_value S a ≡ z) → IsShiftOf b Greatest s → IsBelow r z s
below_form r a b s z h f e = record { set = λ S p. h.set S p ∙ two between (f S) (e.value S); usable = shift_usable r b Greatest s h.high e }

-- a range that all its nodes tell
pub spelled_same : (ns : List RangeNode) (q : Range) → ns ≡ nodes_of q → (r : Range) → ns ≡ nodes_of r → MeansSame r q
spelled_same ns q e r f =
    let is : r ≡ q = sym (spelled_range-nodes r) ∙ (ap spelled_range (sym f ∙ e) ∙ spelled_range-nodes q) in record {
      set = λ S p. ap (filled_set S p) is;
      readable = λ count args h. subst (λ x. All (IsReadable count args) (nodes_of x)) is h;
    }

-- all numbers but the value of a variable
pub differs_form : (ns : List RangeNode) (slot : ℕ) → ns ≡ nodes_of (all_but_val slot) → (r : Range) → ns ≡ nodes_of r → r ≡ all_but_val slot
differs_form ns slot e r f = sym (spelled_range-nodes r) ∙ (ap spelled_range (sym f ∙ e) ∙ spelled_range-nodes (all_but_val slot))

pub but_val_set : (S : Family) (p : ℕ → ℤ) (slot : ℕ) → filled_set S p (all_but_val slot) ≡ all_but (pos (least (S slot)))
but_val_set S p slot = let z = pos (least (S slot)) in sym (filter_agree (λ n. not (int_eq (pos n) z)) (λ n. not (int_eq z (pos n))) (other_way z) (universe INFINITY))
