-- The set of a range under other variables: it depends only on the sets of the variables that the range reads.
use Rattle.std.proofs.Common.{◌≡◌, ℕ, Bool, true, false, cond, ◌==◌, ◌||◌, ◌&&◌, not, pos, ◌+ℤ◌, ◌-ℤ◌, ◌*ℤ◌, int_le, List, [], ◌∷◌, ◌++◌, map, refl, ap, sym}
use Rattle.std.proofs.Common.{◌∙◌, subst, eq-eqb}
use Rattle.std.specs.List.{list_any}
use Rattle.std.specs.Ordering.{int_eq}
use Rattle.std.proofs.lemmas.Bool.{or_left, or_right}
use Rattle.std.proofs.lemmas.List.Elements.{filter_agree}
use Rattle.std.specs.Prelude.{flat_map}
use Rattle.std.proofs.lemmas.List.{map-append}
use mathlib.Core.Path.{fun_ext}
use Rattle.fd_language.specs.Family.{Family, has, universe, IsSubset}
use Rattle.fd_language.specs.Monotonicity.{IsMonotone}
use Rattle.fd_language.specs.Range.{Range, Span, One, Dom, Union, Inter, Outside, Plus, Minus, Times, Over, Expr, Min, Max, Val, Add, Sub, Mul, DivDown, DivUp}
use Rattle.fd_language.specs.Range.{Leaf, Role, leaf, a_parameter, a_val, from_range, leaves, read_by, read_at, val_by, val_at, value, in_range, in_set, set_of}
use Rattle.fd_language.specs.Range.{reads, expr_reads, vals, some_number, is_none_left, is_several, least, greatest, div_down, div_up}
use Rattle.fd_language.proofs.Sets.{in_left, in_right, alone_in}
use Rattle.fd_language.proofs.Leaves.{range_leaves, renamed_leaves, renamed_as_is, vals_read}
pub use Rattle.fd_language.proofs.Leaves.{two}
use Rattle.fd_language.specs.RangeRenaming.{rename_expr, rename_range}

module _ (M : ℕ) (f : ℕ → ℕ) (T S : Family) where
  abbrev Same : List ℕ → Type 0
  Same vs = (v : ℕ) → has vs v ≡ true → T (f v) ≡ S v

  in_front : (xs ys : List ℕ) → Same (xs ++ ys) → Same xs
  in_front xs ys h v c = h v (in_left xs ys v c)

  in_back : (xs ys : List ℕ) → Same (xs ++ ys) → Same ys
  in_back xs ys h v c = h v (in_right xs ys v c)

  at_one : (y : ℕ) → Same (y ∷ []) → T (f y) ≡ S y
  at_one y h = h y (alone_in y)

  pub value_same : (e : Expr) → Same (expr_reads e) → value M T (rename_expr f e) ≡ value M S e
  value_same (Min y) h = ap (λ l. pos (least l)) (at_one y h)
  value_same (Max y) h = ap (λ l. pos (greatest l)) (at_one y h)
  value_same (Val y) h = ap (λ l. pos (least l)) (at_one y h)
  value_same (Add a b) h = two (λ x y. x +ℤ y) (value_same a (in_front (expr_reads a) (expr_reads b) h)) (value_same b (in_back (expr_reads a) (expr_reads b) h))
  value_same (Sub a b) h = two (λ x y. x -ℤ y) (value_same a (in_front (expr_reads a) (expr_reads b) h)) (value_same b (in_back (expr_reads a) (expr_reads b) h))
  value_same (Mul a b) h = two (λ x y. x *ℤ y) (value_same a (in_front (expr_reads a) (expr_reads b) h)) (value_same b (in_back (expr_reads a) (expr_reads b) h))
  value_same (DivDown a b) h = two (div_down M) (value_same a (in_front (expr_reads a) (expr_reads b) h)) (value_same b (in_back (expr_reads a) (expr_reads b) h))
  value_same (DivUp a b) h = two (div_up M) (value_same a (in_front (expr_reads a) (expr_reads b) h)) (value_same b (in_back (expr_reads a) (expr_reads b) h))
  value_same e h = refl

  some_same : (p q : ℕ → Bool) → ((e : ℕ) → p e ≡ q e) → some_number M p ≡ some_number M q
  some_same p q h = ap (some_number M) (fun_ext h)

  range_same : (r : Range) → Same (reads r) → (n : ℕ) → in_range M T (rename_range f r) n ≡ in_range M S r n
  range_same (Span a b) h n = two (λ x y. int_le x (pos n) && int_le (pos n) y) (value_same a (in_front (expr_reads a) (expr_reads b) h)) (value_same b (in_back (expr_reads a) (expr_reads b) h))
  range_same (One t) h n = ap (λ x. int_eq x (pos n)) (value_same t h)
  range_same (Dom y) h n = ap (λ l. has l n) (at_one y h)
  range_same (Union r q) h n = two (λ x y. x || y) (range_same r (in_front (reads r) (reads q) h) n) (range_same q (in_back (reads r) (reads q) h) n)
  range_same (Inter r q) h n = two (λ x y. x && y) (range_same r (in_front (reads r) (reads q) h) n) (range_same q (in_back (reads r) (reads q) h) n)
  range_same (Outside r) h n = ap not (range_same r h n)
  range_same (Plus r c) h n = some_same _ _ (λ e. two (λ x y. x && int_eq (pos e +ℤ y) (pos n)) (range_same r (in_front (reads r) (expr_reads c) h) e)
      (value_same c (in_back (reads r) (expr_reads c) h)))
  range_same (Minus r c) h n = some_same _ _ (λ e. two (λ x y. x && int_eq (pos e -ℤ y) (pos n)) (range_same r (in_front (reads r) (expr_reads c) h) e)
      (value_same c (in_back (reads r) (expr_reads c) h)))
  range_same (Times r c) h n = some_same _ _ (λ e. two (λ x y. x && int_eq (pos e *ℤ y) (pos n)) (range_same r (in_front (reads r) (expr_reads c) h) e)
      (value_same c (in_back (reads r) (expr_reads c) h)))
  range_same (Over r c) h n = some_same _ _ (λ e. two (λ x y. x && int_eq (pos n *ℤ y) (pos e)) (range_same r (in_front (reads r) (expr_reads c) h) e)
      (value_same c (in_back (reads r) (expr_reads c) h)))

  any_same : (test : List ℕ → Bool) (vs : List ℕ) → Same vs → list_any (λ y. test (T y)) (map f vs) ≡ list_any (λ y. test (S y)) vs
  any_same test [] h = refl
  any_same test (v ∷ vs) h = two (λ x y. x || y) (ap test (h v (or_left (v == v) (has vs v) (eq-eqb v v refl)))) (any_same test vs (λ w c. h w (or_right (v == w) (has vs w) c)))

  set_by : (rs vs : List ℕ) (n : ℕ) (r : Range) → Same rs → Same vs → Same (reads r)
      → (cond (list_any (λ y. is_none_left (T y)) (map f rs)) false
      (cond (list_any (λ y. is_several (T y)) (map f vs)) true (in_range M T (rename_range f r) n)))
      ≡ (cond (list_any (λ y. is_none_left (S y)) rs) false (cond (list_any (λ y. is_several (S y)) vs) true (in_range M S r n)))
  set_by rs vs n r h g k = rw (any_same is_none_left rs h, any_same is_several vs g, range_same r k n) refl

-- What a renamed range reads, and reads by val, is renamed.
map_flat : {X : Type 0} (f : ℕ → ℕ) (g h : X → List ℕ) → ((x : X) → g x ≡ map f (h x)) → (xs : List X) → flat_map g xs ≡ map f (flat_map h xs)
map_flat f g h e [] = refl
map_flat f g h e (x ∷ xs) = two (λ a b. a ++ b) (e x) (map_flat f g h e xs) ∙ sym (map-append f (h x) (flat_map h xs))

renamed_by : (f : ℕ → ℕ) (g : Leaf → List ℕ) → ((k : Role) (y : ℕ) → g (leaf k (f y)) ≡ map f (g (leaf k y))) → (r : Range) → from_range g (rename_range f r) ≡ map f (from_range g r)
renamed_by f g e r =
    renamed_leaves g f r ∙ (range_leaves (λ l. g (leaf l.role (f l.variable))) r
    ∙ (map_flat f (λ l. g (leaf l.role (f l.variable))) g (λ l. e l.role l.variable) (leaves r) ∙ ap (map f) (sym (range_leaves g r))))

pub reads_map : (f : ℕ → ℕ) (r : Range) → reads (rename_range f r) ≡ map f (reads r)
reads_map f r = renamed_by f read_at by_role r where
  by_role : (k : Role) (y : ℕ) → read_by k (f y) ≡ map f (read_by k y)
  by_role a_parameter y = refl
  by_role k y = refl

vals_map : (f : ℕ → ℕ) (r : Range) → vals (rename_range f r) ≡ map f (vals r)
vals_map f r = renamed_by f val_at by_role r where
  by_role : (k : Role) (y : ℕ) → val_by k (f y) ≡ map f (val_by k y)
  by_role a_val y = refl
  by_role k y = refl

-- The set of a renamed range is the set of the range, where the sets that it reads are the same.
pub set_same : (M : ℕ) (f : ℕ → ℕ) (T S : Family) (r : Range) → ((v : ℕ) → has (reads r) v ≡ true → T (f v) ≡ S v) → set_of M T (rename_range f r) ≡ set_of M S r
set_same M f T S r h = filter_agree (in_set M T (rename_range f r)) (in_set M S r)
    (λ n. rw (reads_map f r, vals_map f r) (set_by M f T S (reads r) (vals r) n r h (λ v c. h v (vals_read r v c)) h)) (universe M)

-- The set depends on what the range reads.
pub set_agree : (M : ℕ) (T S : Family) (r : Range) → ((v : ℕ) → has (reads r) v ≡ true → T v ≡ S v) → set_of M T r ≡ set_of M S r
set_agree M T S r h = ap (set_of M T) (sym (renamed_as_is r)) ∙ set_same M (λ x. x) T S r h

-- a monotone range is so under other variables
pub monotone_renamed : (M : ℕ) (f : ℕ → ℕ) (r : Range) → IsMonotone M r → IsMonotone M (rename_range f r)
monotone_renamed M f r m = record {
  grows = λ S S' a b i.
      let one = set_same M f S (λ v. S (f v)) r (λ v c. refl) in
      let two' = set_same M f S' (λ v. S' (f v)) r (λ v c. refl) in
      subst (λ l. IsSubset l (set_of M S' (rename_range f r))) (sym one)
      (subst (IsSubset (set_of M (λ v. S (f v)) r)) (sym two')
      (m.grows (λ v. S (f v)) (λ v. S' (f v)) (record { rising = λ v. a.rising (f v) }) (record { rising = λ v. b.rising (f v) }) (record { at = λ v. i.at (f v) })));
}
