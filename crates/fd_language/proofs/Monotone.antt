-- An accepted range is monotone.
use Rattle.std.proofs.Common.{◌≡◌, ℕ, suc, ◌≤◌, Bool, true, false, cond, not, ◌||◌, ◌&&◌, ◌==◌, ℤ, pos, ◌+ℤ◌, ◌-ℤ◌, ◌*ℤ◌, ◌≤ℤ◌, int_le, List, [], ◌∷◌, refl}
use Rattle.std.proofs.Common.{sym, ◌∙◌, subst, inl, inr, arith, eqb-true, eq-eqb}
use Rattle.std.proofs.lemmas.Int.{ints}
use Rattle.std.proofs.lemmas.Bool.{true≢false, or_left, or_right, or_cases, or_from, and_parts}
use Rattle.std.specs.List.{list_any}
use Rattle.std.specs.Ordering.{int_eq}
use Rattle.fd_language.specs.Family.{Family, has, IsSubset, IsRising, IsFamily, IsInside, universe}
use Rattle.fd_language.specs.Range.{Expr, Number, Infinity, Param, Add, Sub, Mul, value, least, greatest, Range, Span, One, Dom, Union, Inter, Outside, Plus}
use Rattle.fd_language.specs.Range.{Minus, Times, Over, in_range, in_set, some_number, Leaf, Role, a_parameter, a_min, a_max, a_val, a_dom, expr_leaves, leaves}
use Rattle.fd_language.specs.Range.{read_by, read_at, val_by, val_at, reads, vals, is_none_left, is_several}
use Rattle.fd_language.specs.Needs.{is_literal}
use Rattle.fd_language.specs.Check.{Rising, Falling, Constant, literal_value, is_parameter, expr_fits, range_fits, fill, fill_range}
use Rattle.fd_language.proofs.PartNeeds.{expr_meets, range_meets, over_meets, needs_met}
use Rattle.fd_language.specs.Monotonicity.{AcceptedIsMonotone}
use Rattle.fd_language.proofs.Sets.{has-filter, has-filter_back, has_low, alone_in}
pub use Rattle.fd_language.proofs.Sets.{in_left, in_right}
use Rattle.fd_language.proofs.Leaves.{range_leaves, filled_leaves, vals_read}
use Rattle.std.specs.Prelude.{flat_map}
use Rattle.fd_language.proofs.Directions.{LeafKeeps, AllKeep, Keeps, keeps_left, keeps_right, expr_moves, literal_is}

-- from a test to a test that holds wherever the first does
any_more : (f g : ℕ → Bool) → ((n : ℕ) → f n ≡ true → g n ≡ true) → (xs : List ℕ) → list_any f xs ≡ true → list_any g xs ≡ true
any_more f g h [] e = e
any_more f g h (x ∷ xs) e = elim (or_cases (f x) (list_any f xs) e) [ inl a ↦ or_left (g x) (list_any g xs) (h x a) | inr a ↦ or_right (g x) (list_any g xs) (any_more f g h xs a) ]

or_more : (a b c d : Bool) → (a ≡ true → c ≡ true) → (b ≡ true → d ≡ true) → (a || b) ≡ true → (c || d) ≡ true
or_more a b c d f g h = grind (arith, f, g)

and_more : (a b c d : Bool) → (a ≡ true → c ≡ true) → (b ≡ true → d ≡ true) → (a && b) ≡ true → (c && d) ≡ true
and_more a b c d f g h = grind (arith, f, g)

not_more : (a b : Bool) → (b ≡ true → a ≡ true) → not a ≡ true → not b ≡ true
not_more a b f h = grind (arith, f)

span_more : (a b c d n : ℤ) → c ≤ℤ a → b ≤ℤ d → (int_le a n && int_le n b) ≡ true → (int_le c n && int_le n d) ≡ true
span_more a b c d n h g e = grind (arith, ints)

-- at true from S to S', at false back
abbrev Goes : Bool → Bool → Bool → Type 0
Goes true inner outer = inner ≡ true → outer ≡ true
Goes false inner outer = outer ≡ true → inner ≡ true

or_goes : (w a b c d : Bool) → Goes w a c → Goes w b d → Goes w (a || b) (c || d)
or_goes true a b c d f g = or_more a b c d f g
or_goes false a b c d f g = or_more c d a b f g

and_goes : (w a b c d : Bool) → Goes w a c → Goes w b d → Goes w (a && b) (c && d)
and_goes true a b c d f g = and_more a b c d f g
and_goes false a b c d f g = and_more c d a b f g

not_goes : (w a b : Bool) → Goes (not w) a b → Goes w (not a) (not b)
not_goes true a b f = not_more a b f
not_goes false a b f = not_more b a f

module _ (M : ℕ) (p : ℕ → ℤ) (S' S : Family) where
  constant : (c : Expr) → Keeps S' S c → expr_fits M c Constant ≡ true → expr_meets p c false ≡ true → value M S' (fill p c) ≡ value M S (fill p c)
  constant c k f m = expr_moves M p S' S c Constant false k f m

  over_constant : (c : Expr) → (is_parameter c || (is_literal c && int_le (pos 1) (literal_value M c))) ≡ true → value M S' (fill p c) ≡ value M S (fill p c)
  over_constant (Param x) h = refl
  over_constant (Number z) h = refl
  over_constant Infinity h = refl
  over_constant (Add a b) h = let l = (and_parts (is_literal (Add a b)) (int_le (pos 1) (literal_value M (Add a b))) h).0 in literal_is M p S' (Add a b) l ∙ sym (literal_is M p S (Add a b) l)
  over_constant (Sub a b) h = let l = (and_parts (is_literal (Sub a b)) (int_le (pos 1) (literal_value M (Sub a b))) h).0 in literal_is M p S' (Sub a b) l ∙ sym (literal_is M p S (Sub a b) l)
  over_constant (Mul a b) h = let l = (and_parts (is_literal (Mul a b)) (int_le (pos 1) (literal_value M (Mul a b))) h).0 in literal_is M p S' (Mul a b) l ∙ sym (literal_is M p S (Mul a b) l)
  over_constant e h = absurd (true≢false (sym h))

  -- a pointwise form: f is the operator with the number that is looked for
  moved_by : (w : Bool) (f : ℤ → ℕ → Bool) (x y : ℤ) (a b : ℕ → Bool) → x ≡ y → ((e : ℕ) → Goes w (b e) (a e)) → Goes w (some_number M (λ e. b e && f y e)) (some_number M (λ e. a e && f x e))
  moved_by true f x y a b e g = any_more (λ k. b k && f y k) (λ k. a k && f x k) (λ k. and_more (b k) (f y k) (a k) (f x k) (g k) (λ t. subst (λ z. f z k ≡ true) (sym e) t)) (universe M)
  moved_by false f x y a b e g = any_more (λ k. a k && f x k) (λ k. b k && f y k) (λ k. and_more (a k) (f x k) (b k) (f y k) (g k) (λ t. subst (λ z. f z k ≡ true) e t)) (universe M)

  range_moves : (r : Range) (w : Bool) → AllKeep S' S (leaves r) → range_fits M r w ≡ true → range_meets p r ≡ true → (n : ℕ)
      → Goes w (in_range M S (fill_range p r) n) (in_range M S' (fill_range p r) n)
  range_moves (Span a b) true k f m n = span_more (value M S (fill p a)) (value M S (fill p b)) (value M S' (fill p a)) (value M S' (fill p b)) (pos n)
      (expr_moves M p S' S a Rising false (keeps_left S' S (expr_leaves a) (expr_leaves b) k) ((and_parts (expr_fits M a Rising) (expr_fits M b Falling) f).0)
      ((and_parts (expr_meets p a false) (expr_meets p b false) m).0))
      (expr_moves M p S' S b Falling false (keeps_right S' S (expr_leaves a) (expr_leaves b) k) ((and_parts (expr_fits M a Rising) (expr_fits M b Falling) f).1)
      ((and_parts (expr_meets p a false) (expr_meets p b false) m).1))
  range_moves (Span a b) false k f m n = span_more (value M S' (fill p a)) (value M S' (fill p b)) (value M S (fill p a)) (value M S (fill p b)) (pos n)
      (expr_moves M p S' S a Falling false (keeps_left S' S (expr_leaves a) (expr_leaves b) k) ((and_parts (expr_fits M a Falling) (expr_fits M b Rising) f).0)
      ((and_parts (expr_meets p a false) (expr_meets p b false) m).0))
      (expr_moves M p S' S b Rising false (keeps_right S' S (expr_leaves a) (expr_leaves b) k) ((and_parts (expr_fits M a Falling) (expr_fits M b Rising) f).1)
      ((and_parts (expr_meets p a false) (expr_meets p b false) m).1))
  range_moves (One t) true k f m n = λ h. subst (λ z. int_eq z (pos n) ≡ true) (sym (constant t k f m)) h
  range_moves (One t) false k f m n = λ h. subst (λ z. int_eq z (pos n) ≡ true) (constant t k f m) h
  range_moves (Dom y) true k f m n = λ h. k.0.each n h
  range_moves (Dom y) false k f m n = λ h. absurd (true≢false (sym f))
  range_moves (Union r q) w k f m n = or_goes w (in_range M S (fill_range p r) n) (in_range M S (fill_range p q) n) (in_range M S' (fill_range p r) n) (in_range M S' (fill_range p q) n)
      (range_moves r w (keeps_left S' S (leaves r) (leaves q) k) ((and_parts (range_fits M r w) (range_fits M q w) f).0) ((and_parts (range_meets p r) (range_meets p q) m).0) n)
      (range_moves q w (keeps_right S' S (leaves r) (leaves q) k) ((and_parts (range_fits M r w) (range_fits M q w) f).1) ((and_parts (range_meets p r) (range_meets p q) m).1) n)
  range_moves (Inter r q) w k f m n = and_goes w (in_range M S (fill_range p r) n) (in_range M S (fill_range p q) n) (in_range M S' (fill_range p r) n) (in_range M S' (fill_range p q) n)
      (range_moves r w (keeps_left S' S (leaves r) (leaves q) k) ((and_parts (range_fits M r w) (range_fits M q w) f).0) ((and_parts (range_meets p r) (range_meets p q) m).0) n)
      (range_moves q w (keeps_right S' S (leaves r) (leaves q) k) ((and_parts (range_fits M r w) (range_fits M q w) f).1) ((and_parts (range_meets p r) (range_meets p q) m).1) n)
  range_moves (Outside r) w k f m n = not_goes w (in_range M S (fill_range p r) n) (in_range M S' (fill_range p r) n) (range_moves r (not w) k f m n)
  range_moves (Plus r c) w k f m n =
      moved_by w (λ z e. int_eq (pos e +ℤ z) (pos n)) (value M S' (fill p c)) (value M S (fill p c)) (in_range M S' (fill_range p r)) (in_range M S (fill_range p r))
      (constant c (keeps_right S' S (leaves r) (expr_leaves c) k) ((and_parts (range_fits M r w) (expr_fits M c Constant) f).1) ((and_parts (range_meets p r) (expr_meets p c false) m).1))
      (range_moves r w (keeps_left S' S (leaves r) (expr_leaves c) k) ((and_parts (range_fits M r w) (expr_fits M c Constant) f).0) ((and_parts (range_meets p r) (expr_meets p c false) m).0))
  range_moves (Minus r c) w k f m n =
      moved_by w (λ z e. int_eq (pos e -ℤ z) (pos n)) (value M S' (fill p c)) (value M S (fill p c)) (in_range M S' (fill_range p r)) (in_range M S (fill_range p r))
      (constant c (keeps_right S' S (leaves r) (expr_leaves c) k) ((and_parts (range_fits M r w) (expr_fits M c Constant) f).1) ((and_parts (range_meets p r) (expr_meets p c false) m).1))
      (range_moves r w (keeps_left S' S (leaves r) (expr_leaves c) k) ((and_parts (range_fits M r w) (expr_fits M c Constant) f).0) ((and_parts (range_meets p r) (expr_meets p c false) m).0))
  range_moves (Times r c) w k f m n =
      moved_by w (λ z e. int_eq (pos e *ℤ z) (pos n)) (value M S' (fill p c)) (value M S (fill p c)) (in_range M S' (fill_range p r)) (in_range M S (fill_range p r))
      (constant c (keeps_right S' S (leaves r) (expr_leaves c) k) ((and_parts (range_fits M r w) (expr_fits M c Constant) f).1) ((and_parts (range_meets p r) (expr_meets p c false) m).1))
      (range_moves r w (keeps_left S' S (leaves r) (expr_leaves c) k) ((and_parts (range_fits M r w) (expr_fits M c Constant) f).0) ((and_parts (range_meets p r) (expr_meets p c false) m).0))
  range_moves (Over r c) w k f m n =
      moved_by w (λ z e. int_eq (pos n *ℤ z) (pos e)) (value M S' (fill p c)) (value M S (fill p c)) (in_range M S' (fill_range p r)) (in_range M S (fill_range p r))
      (over_constant c ((and_parts (range_fits M r w) (is_parameter c || (is_literal c && int_le (pos 1) (literal_value M c))) f).1))
      (range_moves r w (keeps_left S' S (leaves r) (expr_leaves c) k)
      ((and_parts (range_fits M r w) (is_parameter c || (is_literal c && int_le (pos 1) (literal_value M c))) f).0)
      ((and_parts (range_meets p r) (over_meets p c) m).0))

-- the least and the greatest number of a rising list
pub least_low : (low high n : ℕ) (xs : List ℕ) → IsRising low high xs → has xs n ≡ true → least xs ≤ n
least_low low high n [] r h = absurd (true≢false (sym h))
least_low low high n (x ∷ xs) r h = has_low x high (x ∷ xs) n (omega arith, r.1, r.2) h

pub least_in : (xs : List ℕ) → is_none_left xs ≡ false → has xs (least xs) ≡ true
least_in [] h = absurd (true≢false h)
least_in (x ∷ xs) h = or_left (x == x) (has xs x) (eq-eqb x x refl)

pub greatest_in : (xs : List ℕ) → is_none_left xs ≡ false → has xs (greatest xs) ≡ true
greatest_in [] h = absurd (true≢false h)
greatest_in (x ∷ []) h = or_left (x == x) false (eq-eqb x x refl)
greatest_in (x ∷ y ∷ ys) h = or_right (x == greatest (y ∷ ys)) (has (y ∷ ys) (greatest (y ∷ ys))) (greatest_in (y ∷ ys) refl)

pub greatest_high : (low high n : ℕ) (xs : List ℕ) → IsRising low high xs → has xs n ≡ true → n ≤ greatest xs
greatest_high low high n [] r h = absurd (true≢false (sym h))
greatest_high low high n (x ∷ []) r h = elim (or_cases (x == n) false h) [ inl e ↦ omega (arith, eqb-true x n e) | inr e ↦ absurd (true≢false (sym e)) ]
greatest_high low high n (x ∷ y ∷ ys) r h = elim (or_cases (x == n) (has (y ∷ ys) n) h) [
  | inl e ↦ let g : has (y ∷ ys) y ≡ true = or_left (y == y) (has ys y) (eq-eqb y y refl) in omega (arith, eqb-true x n e, r.2.0, greatest_high (suc x) high y (y ∷ ys) r.2 g)
  | inr e ↦ greatest_high (suc x) high n (y ∷ ys) r.2 e
]

pub not_empty : (xs : List ℕ) (n : ℕ) → has xs n ≡ true → is_none_left xs ≡ false
not_empty [] n h = absurd (true≢false (sym h))
not_empty (x ∷ xs) n h = refl

one_value : (xs : List ℕ) (n : ℕ) → is_several xs ≡ false → has xs n ≡ true → least xs ≡ n
one_value [] n h g = absurd (true≢false (sym g))
one_value (x ∷ []) n h g = elim (or_cases (x == n) false g) [ inl e ↦ eqb-true x n e | inr e ↦ absurd (true≢false (sym e)) ]
one_value (x ∷ y ∷ ys) n h g = absurd (true≢false h)

-- two members of a set of one value
several_subset : (low high : ℕ) (xs ys : List ℕ) → IsRising low high xs → IsSubset xs ys → is_several ys ≡ false → is_several xs ≡ false
several_subset low high [] ys r i h = refl
several_subset low high (x ∷ []) ys r i h = refl
several_subset low high (x ∷ z ∷ zs) ys r i h =
    let a : least ys ≡ x = one_value ys x h (i.each x (or_left (x == x) (has (z ∷ zs) x) (eq-eqb x x refl))) in
    let b : least ys ≡ z = one_value ys z h (i.each z (or_right (x == z) (has (z ∷ zs) z) (or_left (z == z) (has zs z) (eq-eqb z z refl)))) in
    absurd (omega (arith, r.2.0))

-- tests over lists
none_step : (f : ℕ → Bool) (x n : ℕ) (xs : List ℕ) → (list_any f xs ≡ false → has xs n ≡ true → f n ≡ false) → list_any f (x ∷ xs) ≡ false → has (x ∷ xs) n ≡ true → f n ≡ false
none_step f x n xs later h g = grind (arith, later, eqb-true)

none_at : (f : ℕ → Bool) (xs : List ℕ) (n : ℕ) → list_any f xs ≡ false → has xs n ≡ true → f n ≡ false
none_at f [] n h g = absurd (true≢false (sym g))
none_at f (x ∷ xs) n h g = none_step f x n xs (none_at f xs n) h g

none_all : (f : ℕ → Bool) (xs : List ℕ) → ((n : ℕ) → has xs n ≡ true → f n ≡ false) → list_any f xs ≡ false
none_all f [] h = refl
none_all f (x ∷ xs) h = or_from (f x) (list_any f xs) (h x (or_left (x == x) (has xs x) (eq-eqb x x refl))) (none_all f xs (λ n g. h n (or_right (x == n) (has xs n) g)))

-- what a variable keeps, and what one that is read by val keeps
record Bound (S' S : Family) (y : ℕ) : Type 0 where
  low : least (S' y) ≤ least (S y)
  high : greatest (S y) ≤ greatest (S' y)

all_keep : (S' S : Family) → IsInside S S' → (ls : List Leaf) → ((y : ℕ) → has (flat_map read_at ls) y ≡ true → Bound S' S y)
    → ((y : ℕ) → has (flat_map val_at ls) y ≡ true → least (S' y) ≡ least (S y)) → AllKeep S' S ls
all_keep S' S inside [] h g = tt
all_keep S' S inside (l ∷ ls) h g = (
  by_role l.role l.variable (λ y i. h y (in_left (read_at l) (flat_map read_at ls) y i)) (λ y i. g y (in_left (val_at l) (flat_map val_at ls) y i)),
  all_keep S' S inside ls (λ y i. h y (in_right (read_at l) (flat_map read_at ls) y i)) (λ y i. g y (in_right (val_at l) (flat_map val_at ls) y i)),
) where
  by_role : (k : Role) (y : ℕ) → ((z : ℕ) → has (read_by k y) z ≡ true → Bound S' S z) → ((z : ℕ) → has (val_by k y) z ≡ true → least (S' z) ≡ least (S z)) → LeafKeeps S' S k y
  by_role a_parameter y h g = tt
  by_role a_min y h g = (h y (alone_in y)).low
  by_role a_max y h g = (h y (alone_in y)).high
  by_role a_val y h g = g y (alone_in y)
  by_role a_dom y h g = inside.at y

-- Set's order of cases
set_parts : (a b c : Bool) → cond a false (cond b true c) ≡ true → (a ≡ false) × (b ≡ false → c ≡ true)
set_parts true b c h = absurd (true≢false (sym h))
set_parts false true c h = (refl, λ e. absurd (true≢false e))
set_parts false false c h = (refl, λ e. h)

set_made : (a b c : Bool) → a ≡ false → (b ≡ false → c ≡ true) → cond a false (cond b true c) ≡ true
set_made true b c h g = absurd (true≢false h)
set_made false true c h g = refl
set_made false false c h g = g refl

module _ (M : ℕ) (p : ℕ → ℤ) (r : Range) (f : range_fits M r true ≡ true) (m : range_meets p r ≡ true) (S S' : Family) (s : IsFamily M S) (t : IsFamily M S') (inside : IsInside S S') where
  stays_some : (y : ℕ) → is_none_left (S y) ≡ false → is_none_left (S' y) ≡ false
  stays_some y h = not_empty (S' y) (least (S y)) ((inside.at y).each (least (S y)) (least_in (S y) h))

  bound_of : (y : ℕ) → is_none_left (S y) ≡ false → Bound S' S y
  bound_of y h = record {
    low = least_low 0 M (least (S y)) (S' y) (t.rising y) ((inside.at y).each (least (S y)) (least_in (S y) h));
    high = greatest_high 0 M (greatest (S y)) (S' y) (t.rising y) ((inside.at y).each (greatest (S y)) (greatest_in (S y) h));
  }

  one_of : (y : ℕ) → is_none_left (S y) ≡ false → is_several (S' y) ≡ false → least (S' y) ≡ least (S y)
  one_of y h g = one_value (S' y) (least (S y)) g ((inside.at y).each (least (S y)) (least_in (S y) h))

  set_moves : (n : ℕ) → in_set M S (fill_range p r) n ≡ true → in_set M S' (fill_range p r) n ≡ true
  set_moves n h =
      let q : Range = fill_range p r in
      let parts = set_parts (list_any (λ y. is_none_left (S y)) (reads q)) (list_any (λ y. is_several (S y)) (vals q)) (in_range M S q n) h in
      let some : (y : ℕ) → has (reads q) y ≡ true → is_none_left (S y) ≡ false = λ y i. none_at (λ k. is_none_left (S k)) (reads q) y parts.0 i in
      set_made (list_any (λ y. is_none_left (S' y)) (reads q)) (list_any (λ y. is_several (S' y)) (vals q)) (in_range M S' q n)
      (none_all (λ y. is_none_left (S' y)) (reads q) (λ y i. stays_some y (some y i)))
      (λ e.
      let one : (y : ℕ) → has (vals q) y ≡ true → is_several (S' y) ≡ false = λ y i. none_at (λ k. is_several (S' k)) (vals q) y e i in
      let inner : in_range M S q n ≡ true = parts.1 (none_all (λ y. is_several (S y)) (vals q) (λ y i. several_subset 0 M (S y) (S' y) (s.rising y) (inside.at y) (one y i))) in
      let reads_are : reads q ≡ flat_map read_at (leaves r) = filled_leaves read_at (λ x. refl) p r ∙ range_leaves read_at r in
      let vals_are : vals q ≡ flat_map val_at (leaves r) = filled_leaves val_at (λ x. refl) p r ∙ range_leaves val_at r in
      let in_reads : (y : ℕ) → has (flat_map read_at (leaves r)) y ≡ true → has (reads q) y ≡ true = λ y i. subst (λ l. has l y ≡ true) (sym reads_are) i in
      let in_vals : (y : ℕ) → has (flat_map val_at (leaves r)) y ≡ true → has (vals q) y ≡ true = λ y i. subst (λ l. has l y ≡ true) (sym vals_are) i in
      let keeps = all_keep S' S inside (leaves r) (λ y i. bound_of y (some y (in_reads y i))) (λ y i. one_of y (some y (vals_read q y (in_vals y i))) (one y (in_vals y i))) in
      range_moves M p S' S r true keeps f m n inner)

pub accepted_is_monotone : AcceptedIsMonotone
accepted_is_monotone M r p f m = record {
  grows = λ S S' s t inside. record {
    each = λ n h.
        let back = has-filter_back (in_set M S (fill_range p r)) (universe M) n h in
        has-filter (in_set M S' (fill_range p r)) (universe M) n back.0 (set_moves M p r f (needs_met p r m) S S' s t inside n back.1);
  };
}
