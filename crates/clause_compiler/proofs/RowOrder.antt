-- Rows in the order of their keys.
use Rattle.std.proofs.Common.{Ordering, Less, Equal, Greater, ◌≡◌, ◌⊎◌, ℕ, ℤ, suc, pos, ◌+◌, ◌<◌, ◌<ℤ◌, Bool, true, false, ◌&&◌, IsTrue, List, Some, length}
use Rattle.std.proofs.Common.{slice_get, refl, ap, ap₂, sym, ◌∙◌, inl, inr, arith}
use Rattle.std.specs.List.{IsDistinct}
use Rattle.std.specs.List.Sorted.{IsPermutation, IsSortedByKey}
use Rattle.std.specs.Ordering.{MatchOrdering, nat_cmp, int_cmp, is_lt, ordering_then}
use Rattle.std.proofs.lemmas.Bool.{eq-eqb}
use Rattle.std.proofs.lemmas.Bool.Decides.{Decides-int_eq}
use Rattle.std.proofs.lemmas.Cmp.{ranked, int_ranked}
use Rattle.std.proofs.lemmas.Map.Keys.{IsDistinct-from_apart, IsDistinct-IsPermutation, apart_from_distinct}
use Rattle.std.proofs.lemmas.Option.{slice_get_within, get_or_from_slice_get}
use Rattle.term_pool.specs.declared.AtomId.{AtomId}
use Rattle.clause_check.specs.Programs.{FlatProgram}
use Rattle.wam_code.specs.declared.instruction.Code.{Code}
use Rattle.wam_code.specs.declared.instruction.Key.{Key}
use Rattle.wam_code.specs.declared.instruction.Key.TheVariants as key
use Rattle.wam_code.specs.Area.{Table}
use Rattle.wam_code.specs.Keys.{IsBelow, Rises}
use Rattle.clause_compiler.specs.declared.keys.Kind.{Kind}
use Rattle.clause_compiler.specs.declared.keys.Kind.TheVariants as kind
use Rattle.clause_compiler.specs.declared.tables.Label.{Label}
use Rattle.clause_compiler.specs.declared.tables.Label.TheVariants as labels
use Rattle.clause_compiler.specs.Keys.{key_of, of_kind, may_be, kind_numbers}
use Rattle.clause_compiler.specs.ClauseKeys.{label, same_key, AreKeyedBy}
use Rattle.clause_compiler.specs.Sections.{ArePut, IsListIn, its_row}
use Rattle.clause_compiler.proofs.Lists.{get_there, moved_get, never, no, same_some}
use Rattle.clause_compiler.proofs.ClauseKeys.{same_means, same_itself}
use Rattle.clause_compiler.proofs.ClauseFilters.{sifted_one}

-- ---- numbers
next_number : (x y : ℕ) → is_lt (nat_cmp y x) ≡ false → (x ≡ y → ⊥) → x < y
next_number x y e differ = by (nat_cmp y x) (ranked y x (nat_cmp y x) refl) e
  where
    by : (o : Ordering) → MatchOrdering o (y < x) (y ≡ x) (x < y) → is_lt o ≡ false → x < y
    by Less h f = no f
    by Equal h f = absurd (differ (sym h))
    by Greater h f = h

next_integer : (x y : ℤ) → is_lt (int_cmp y x) ≡ false → (x ≡ y → ⊥) → x <ℤ y
next_integer x y e differ = by (int_cmp y x) (int_ranked y x (int_cmp y x) refl) e
  where
    by : (o : Ordering) → MatchOrdering o (y <ℤ x) (y ≡ x) (x <ℤ y) → is_lt o ≡ false → x <ℤ y
    by Less h f = no f
    by Equal h f = absurd (differ (sym h))
    by Greater h f = h

next_pair : (f n g m : ℕ) → is_lt (ordering_then (nat_cmp g f) (nat_cmp m n)) ≡ false → ((f ≡ g) × (n ≡ m) → ⊥) → (f < g) ⊎ ((f ≡ g) × (n < m))
next_pair f n g m e differ = by (nat_cmp g f) (ranked g f (nat_cmp g f) refl) e
  where
    by : (o : Ordering) → MatchOrdering o (g < f) (g ≡ f) (f < g) → is_lt (ordering_then o (nat_cmp m n)) ≡ false → (f < g) ⊎ ((f ≡ g) × (n < m))
    by Less h d = no d
    by Equal h d = inr (sym h, next_number n m d (λ s. differ (sym h, s)))
    by Greater h d = inl h

-- ---- keys
flips : (x y : Key) → same_key x y ≡ same_key y x
flips x y = by (same_key x y) (same_key y x) refl refl
  where
    by : (b d : Bool) → same_key x y ≡ b → same_key y x ≡ d → b ≡ d
    by true true e f = refl
    by false false e f = refl
    by true false e f = no (sym (ap (same_key y) (same_means x y e) ∙ same_itself y) ∙ f)
    by false true e f = no (sym (ap (same_key x) (same_means y x f) ∙ same_itself x) ∙ e)

-- an order of labels, by numbers and by value
pub record Orders (R : Label → Label → Ordering) : Type 0 where
  pub atoms : (a b : AtomId) → is_lt (R (labels.Atom a) (labels.Atom b)) ≡ is_lt (nat_cmp a.number b.number)
  pub integers : (y z : ℤ) → is_lt (R (labels.Integer y) (labels.Integer z)) ≡ is_lt (int_cmp y z)
  pub structures : (f : AtomId) (n : ℕ) (g : AtomId) (m : ℕ) → is_lt (R (labels.Structure f n) (labels.Structure g m)) ≡ is_lt (ordering_then (nat_cmp f.number g.number) (nat_cmp n m))

module _ (R : Label → Label → Ordering) (o : Orders R) where
  -- Of two keys of a kind that differ, the one that isn't after the other is below it.
  next_key : (k : Kind) (x y : Key) → IsTrue (of_kind k x) → IsTrue (of_kind k y) → is_lt (R (label y) (label x)) ≡ false → same_key x y ≡ false → IsBelow x y
  next_key kind.Atom (key.Atom a) (key.Atom b) h g e d = next_number a.number b.number (sym (o.atoms b a) ∙ e) (λ s. no (sym (eq-eqb a.number b.number s) ∙ d))
  next_key kind.Integer (key.Int y) (key.Int z) h g e d = next_integer y z (sym (o.integers z y) ∙ e) (λ s. no (sym ((Decides-int_eq y z).1 s) ∙ d))
  next_key kind.Structure (key.Struct f n) (key.Struct g m) h i e d = next_pair f.number n g.number m (sym (o.structures g m f n) ∙ e)
      (λ s. no (sym (ap₂ (λ (a b : Bool). a && b) (eq-eqb f.number g.number s.0) (eq-eqb n m s.1)) ∙ d))
  next_key kind.Atom (key.Int z) y h g e d = never h
  next_key kind.Atom (key.Struct f n) y h g e d = never h
  next_key kind.Atom (key.Atom a) (key.Int z) h g e d = never g
  next_key kind.Atom (key.Atom a) (key.Struct f n) h g e d = never g
  next_key kind.Integer (key.Atom a) y h g e d = never h
  next_key kind.Integer (key.Struct f n) y h g e d = never h
  next_key kind.Integer (key.Int z) (key.Atom a) h g e d = never g
  next_key kind.Integer (key.Int z) (key.Struct f n) h g e d = never g
  next_key kind.Structure (key.Atom a) y h g e d = never h
  next_key kind.Structure (key.Int z) y h g e d = never h
  next_key kind.Structure (key.Struct f n) (key.Atom a) h g e d = never g
  next_key kind.Structure (key.Struct f n) (key.Int z) h g e d = never g

  -- ---- rows
  module _ (p : FlatProgram) (k : Kind) (ns : List ℕ) (looked : List Label) (keys : List Key) (groups : List (List ℕ))
      (w : AreKeyedBy p (kind_numbers p k ns) looked keys groups) (mid new : List Code) (rows sorted : Table)
      (put : ArePut (its_row keys) (IsListIn groups) (length keys) mid new rows) (moved : IsPermutation rows sorted) where
    row_key : (r : ℕ) (x : Key × ℕ) → slice_get rows r ≡ Some x → slice_get keys r ≡ Some x.0
    row_key r x e =
        let b = slice_get_within rows r x e in
        let m = put.many in
        let z = put.size in
        let piece = get_there put.pieces r (omega (arith, b, m, z)) in
        let y = get_there keys r (omega (arith, b, z)) in
        let own = same_some rows r x _ e (put.each r piece.0 piece.1) in
        y.1 ∙ ap (λ a. Some a) (sym (get_or_from_slice_get keys r y.0 (key.Int (pos 0)) y.1) ∙ sym (ap (λ (z : Key × ℕ). z.0) own))

    abbrev same_row : Key × ℕ → Key × ℕ → Bool
    same_row x y = same_key x.0 y.0

    apart : IsDistinct same_row rows
    apart = IsDistinct-from_apart same_row rows (λ i j d before within.
        let x = get_there rows i (omega (arith, before, within)) in
        let y = get_there rows j within in
        ap₂ (λ a b. same_row a b) (get_or_from_slice_get rows i x.0 d x.1) (get_or_from_slice_get rows j y.0 d y.1) ∙ by i j before x.0 y.0 x.1 y.1 (same_row x.0 y.0) refl)
      where
        by : (i j : ℕ) → i < j → (x y : Key × ℕ) → slice_get rows i ≡ Some x → slice_get rows j ≡ Some y → (b : Bool) → same_row x y ≡ b → b ≡ false
        by i j before x y e f false h = refl
        by i j before x y e f true h = let same = w.apart i j y.0 (row_key i x e ∙ ap (λ a. Some a) (same_means x.0 y.0 h)) (row_key j y f) in absurd (omega (arith, before, same))

    kind_is : (r : ℕ) (x : Key × ℕ) → slice_get sorted r ≡ Some x → IsTrue (of_kind k x.0)
    kind_is r x e =
        let m = moved_get rows sorted moved r x e in
        let own = w.from m.0 x.0 (row_key m.0 x m.1) in
        ap (may_be k) (sym own.3) ∙ (sifted_one (λ n. may_be k (key_of p n)) ns own.0 own.1 own.2).2

    -- Rows that are sorted by their labels rise.
    pub rows_rise : IsSortedByKey (λ (x : Key × ℕ). label x.0) R sorted → Rises sorted
    rows_rise s r x y e f =
        let b = slice_get_within sorted (suc r) y f in
        let within : r + 1 < length sorted = omega (arith, b) in
        let later : slice_get sorted (r + 1) ≡ Some y = ap (slice_get sorted) (let z : r + 1 ≡ suc r = omega arith in z) ∙ f in
        let order = ap₂ (λ (a c : Key × ℕ). is_lt (R (label a.0) (label c.0))) (sym (get_or_from_slice_get sorted (r + 1) y x later))
        (sym (get_or_from_slice_get sorted r x x e)) ∙ s r x (omega arith) within in
        let differ = apart_from_distinct same_row sorted r (r + 1) x (IsDistinct-IsPermutation same_row (λ a c. flips a.0 c.0) rows sorted moved apart) (omega arith) within in
        next_key k x.0 y.0 (kind_is r x e) (kind_is (suc r) y f) order
        (ap₂ (λ a c. same_row a c) (sym (get_or_from_slice_get sorted r x x e)) (sym (get_or_from_slice_get sorted (r + 1) y x later)) ∙ differ)
