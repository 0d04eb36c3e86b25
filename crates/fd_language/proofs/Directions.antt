-- An accepted term moves the way that is wanted of it.
use Rattle.std.proofs.Common.{◌≡◌, ℕ, ◌≤◌, Bool, true, false, cond, ◌||◌, ◌&&◌, ℤ, pos, negsuc, ◌+ℤ◌, ◌-ℤ◌, ◌*ℤ◌, ◌≤ℤ◌, int_le, List, ◌++◌, refl, sym, ap}
use Rattle.std.proofs.Common.{subst, inl, inr, arith}
use Rattle.std.proofs.lemmas.Int.{ints}
use Rattle.std.proofs.lemmas.Bool.{cases_Bool, true≢false, or_left, or_right, and_from, and_parts, or_from}
use Rattle.std.specs.Int.Signed.{≤ℤ_refl}
use Rattle.std.proofs.Math.IntN.{*ℤ_comm}
use Rattle.fd_language.specs.Family.{Family, IsSubset}
use Rattle.fd_language.specs.Lists.{Each}
use Rattle.fd_language.specs.Range.{Expr, Number, Infinity, Param, Min, Max, Val, Add, Sub, Mul, DivDown, DivUp, Leaf, Role, a_parameter, a_min, a_max, a_val}
use Rattle.fd_language.specs.Range.{a_dom, expr_leaves, value, least, greatest, div_down, div_up}
use Rattle.fd_language.specs.Needs.{is_literal}
use Rattle.fd_language.specs.Check.{Wish, Rising, Falling, Constant, turn, is_rising, is_falling, literal_value, by_sign, is_natural, quotient_fits, expr_fits}
use Rattle.fd_language.specs.Check.{fill}
use Rattle.fd_language.proofs.Lists.{each_before, each_after}
use Rattle.fd_language.proofs.PartNeeds.{divisor_meets, expr_meets, above_zero}
use Rattle.fd_language.proofs.Arithmetic.{add_keeps, sub_keeps, mul_keeps, mul_turns, natural_product, product_natural, down_keeps, up_keeps, down_natural}
use Rattle.fd_language.proofs.Arithmetic.{up_natural, down_positive, up_positive}

-- from the value in a family to that in a family inside it
abbrev pub Moves : Wish → ℤ → ℤ → Type 0
Moves Rising x y = x ≤ℤ y
Moves Falling x y = y ≤ℤ x
Moves Constant x y = x ≡ y

add_moves : (w : Wish) (x y u v : ℤ) → Moves w x y → Moves w u v → Moves w (x +ℤ u) (y +ℤ v)
add_moves Rising x y u v h g = add_keeps x y u v h g
add_moves Falling x y u v h g = add_keeps y x v u h g
add_moves Constant x y u v h g = cc

sub_moves : (w : Wish) (x y u v : ℤ) → Moves w x y → Moves (turn w) u v → Moves w (x -ℤ u) (y -ℤ v)
sub_moves Rising x y u v h g = sub_keeps x y u v h g
sub_moves Falling x y u v h g = sub_keeps y x v u h g
sub_moves Constant x y u v h g = cc

mul_moves : (w : Wish) (k : ℕ) (x y : ℤ) → Moves w x y → Moves w (pos k *ℤ x) (pos k *ℤ y)
mul_moves Rising k x y h = mul_keeps k x y h
mul_moves Falling k x y h = mul_keeps k y x h
mul_moves Constant k x y h = ap (λ z. pos k *ℤ z) h

neg_moves : (w : Wish) (k : ℕ) (x y : ℤ) → Moves (turn w) x y → Moves w (negsuc k *ℤ x) (negsuc k *ℤ y)
neg_moves Rising k x y h = mul_turns k y x h
neg_moves Falling k x y h = mul_turns k x y h
neg_moves Constant k x y h = ap (λ z. negsuc k *ℤ z) h

sign_moves : (w : Wish) (l x y : ℤ) (a b : Bool) → (a ≡ true → Moves w x y) → (b ≡ true → Moves (turn w) x y) → by_sign l a b ≡ true → Moves w (l *ℤ x) (l *ℤ y)
sign_moves w (pos k) x y a b f g h = mul_moves w k x y (f h)
sign_moves w (negsuc k) x y a b f g h = neg_moves w k x y (g h)

product_moves : (w : Wish) (x y u v : ℤ) → pos 0 ≤ℤ x → pos 0 ≤ℤ y → pos 0 ≤ℤ u → pos 0 ≤ℤ v → Moves w x y → Moves w u v → Moves w (x *ℤ u) (y *ℤ v)
product_moves Rising x y u v a b c d h g = natural_product x y u v a c h g
product_moves Falling x y u v a b c d h g = natural_product y x v u b d h g
product_moves Constant x y u v a b c d h g = cc

down_moves : (w : Wish) (M : ℕ) (d x y : ℤ) → pos 1 ≤ℤ d → Moves w x y → Moves w (div_down M x d) (div_down M y d)
down_moves Rising M d x y k h = down_keeps M d x y k h
down_moves Falling M d x y k h = down_keeps M d y x k h
down_moves Constant M d x y k h = ap (λ z. div_down M z d) h

up_moves : (w : Wish) (M : ℕ) (d x y : ℤ) → pos 1 ≤ℤ d → Moves w x y → Moves w (div_up M x d) (div_up M y d)
up_moves Rising M d x y k h = up_keeps M d x y k h
up_moves Falling M d x y k h = up_keeps M d y x k h
up_moves Constant M d x y k h = ap (λ z. div_up M z d) h

down_both : (w : Wish) (M : ℕ) (x y u v : ℤ) → pos 0 ≤ℤ x → pos 0 ≤ℤ y → pos 0 ≤ℤ u → pos 0 ≤ℤ v → Moves w x y → Moves (turn w) u v → Moves w (div_down M x u) (div_down M y v)
down_both Rising M x y u v a b c d h g = down_natural M x y u v a d h g
down_both Falling M x y u v a b c d h g = down_natural M y x v u b c h g
down_both Constant M x y u v a b c d h g = cc

up_both : (w : Wish) (M : ℕ) (x y u v : ℤ) → pos 0 ≤ℤ x → pos 0 ≤ℤ y → pos 0 ≤ℤ u → pos 0 ≤ℤ v → Moves w x y → Moves (turn w) u v → Moves w (div_up M x u) (div_up M y v)
up_both Rising M x y u v a b c d h g = up_natural M x y u v a d h g
up_both Falling M x y u v a b c d h g = up_natural M y x v u b c h g
up_both Constant M x y u v a b c d h g = cc

-- the parts of tests
if_yes : (c x y : Bool) → cond c x y ≡ true → c ≡ true → x ≡ true
if_yes c x y h e = grind arith

if_no : (c x y : Bool) → cond c x y ≡ true → c ≡ false → y ≡ true
if_no c x y h e = grind arith

pub int_le_true : (a b : ℤ) → int_le a b ≡ true → a ≤ℤ b
int_le_true a b h = grind (arith, ints)

natural_number : (n : ℕ) → pos 0 ≤ℤ pos n
natural_number n = omega (arith, ints)

natural_sum : (a b : ℤ) → pos 0 ≤ℤ a → pos 0 ≤ℤ b → pos 0 ≤ℤ (a +ℤ b)
natural_sum a b h g = omega (arith, ints)

module _ (M : ℕ) (p : ℕ → ℤ) where
  pub literal_is : (S : Family) (e : Expr) → is_literal e ≡ true → value M S (fill p e) ≡ literal_value M e
  literal_is S (Number z) h = refl
  literal_is S Infinity h = refl
  literal_is S (Add a b) h = let f = literal_is S a ((and_parts (is_literal a) (is_literal b) h).0) in let g = literal_is S b ((and_parts (is_literal a) (is_literal b) h).1) in cc
  literal_is S (Sub a b) h = let f = literal_is S a ((and_parts (is_literal a) (is_literal b) h).0) in let g = literal_is S b ((and_parts (is_literal a) (is_literal b) h).1) in cc
  literal_is S (Mul a b) h = let f = literal_is S a ((and_parts (is_literal a) (is_literal b) h).0) in let g = literal_is S b ((and_parts (is_literal a) (is_literal b) h).1) in cc
  literal_is S e h = absurd (true≢false (sym h))

  either_meet : (c x y u v : Bool) → (x && y) ≡ true → (u && v) ≡ true → cond c (x && y) (u && v) ≡ true
  either_meet c x y u v h g = grind arith

  literal_meets : (e : Expr) (n : Bool) → is_literal e ≡ true → expr_meets p e n ≡ true
  literal_meets (Param x) n h = absurd (true≢false (sym h))
  literal_meets (Add a b) n h = and_from (expr_meets p a n) (expr_meets p b n) (literal_meets a n ((and_parts (is_literal a) (is_literal b) h).0))
      (literal_meets b n ((and_parts (is_literal a) (is_literal b) h).1))
  literal_meets (Sub a b) n h = and_from (expr_meets p a n) (expr_meets p b n) (literal_meets a n ((and_parts (is_literal a) (is_literal b) h).0))
      (literal_meets b n ((and_parts (is_literal a) (is_literal b) h).1))
  literal_meets (Mul a b) n h =
      either_meet (is_literal a || is_literal b) (expr_meets p a n) (expr_meets p b n) (expr_meets p a true) (expr_meets p b true)
      (and_from (expr_meets p a n) (expr_meets p b n) (literal_meets a n ((and_parts (is_literal a) (is_literal b) h).0)) (literal_meets b n ((and_parts (is_literal a) (is_literal b) h).1)))
      (and_from (expr_meets p a true) (expr_meets p b true) (literal_meets a true ((and_parts (is_literal a) (is_literal b) h).0))
      (literal_meets b true ((and_parts (is_literal a) (is_literal b) h).1)))
  literal_meets (DivDown a b) n h = absurd (true≢false (sym h))
  literal_meets (DivUp a b) n h = absurd (true≢false (sym h))
  literal_meets e n h = refl

  -- a quotient that fits and meets the needs: by a constant of at least 1, or of two natural terms
  pub data Quotient (a b : Expr) (w : Wish) : Type 0 where
    by_constant : (m : Bool) (d : ℤ) → expr_fits M a w ≡ true → expr_meets p a m ≡ true → ((S : Family) → value M S (fill p b) ≡ d) → pos 1 ≤ℤ d → Quotient a b w
    by_term : is_natural M a ≡ true → is_natural M b ≡ true → expr_fits M a w ≡ true → expr_fits M b (turn w) ≡ true → expr_meets p a true ≡ true → expr_meets p b true ≡ true → Quotient a b w

  plain_quotient : (a b : Expr) (w : Wish) (n : Bool) →
      cond (is_literal b) (int_le (pos 1) (literal_value M b) && expr_fits M a w) ((is_natural M a && is_natural M b) && (expr_fits M a w && expr_fits M b (turn w))) ≡ true →
      cond (is_literal b) (expr_meets p a n) (expr_meets p a true && expr_meets p b true) ≡ true → Quotient a b w
  plain_quotient a b w n h g = elim (cases_Bool (is_literal b)) [
    | inl l ↦
        let f : (int_le (pos 1) (literal_value M b) && expr_fits M a w) ≡ true = if_yes (is_literal b) (int_le (pos 1) (literal_value M b) && expr_fits M a w)
        ((is_natural M a && is_natural M b) && (expr_fits M a w && expr_fits M b (turn w))) h l in
        by_constant n (literal_value M b) ((and_parts (int_le (pos 1) (literal_value M b)) (expr_fits M a w) f).1)
        (if_yes (is_literal b) (expr_meets p a n) (expr_meets p a true && expr_meets p b true) g l)
        (λ S. literal_is S b l) (int_le_true (pos 1) (literal_value M b) ((and_parts (int_le (pos 1) (literal_value M b)) (expr_fits M a w) f).0))
    | inr l ↦
        let f : ((is_natural M a && is_natural M b) && (expr_fits M a w && expr_fits M b (turn w))) ≡ true = if_no (is_literal b)
        (int_le (pos 1) (literal_value M b) && expr_fits M a w) ((is_natural M a && is_natural M b) && (expr_fits M a w && expr_fits M b (turn w))) h l in
        let k : (expr_meets p a true && expr_meets p b true) ≡ true = if_no (is_literal b) (expr_meets p a n) (expr_meets p a true && expr_meets p b true) g l in
        let nat : (is_natural M a && is_natural M b) ≡ true = (and_parts (is_natural M a && is_natural M b) (expr_fits M a w && expr_fits M b (turn w)) f).0 in
        let fit : (expr_fits M a w && expr_fits M b (turn w)) ≡ true = (and_parts (is_natural M a && is_natural M b) (expr_fits M a w && expr_fits M b (turn w)) f).1 in
        by_term ((and_parts (is_natural M a) (is_natural M b) nat).0) ((and_parts (is_natural M a) (is_natural M b) nat).1)
        ((and_parts (expr_fits M a w) (expr_fits M b (turn w)) fit).0) ((and_parts (expr_fits M a w) (expr_fits M b (turn w)) fit).1)
        ((and_parts (expr_meets p a true) (expr_meets p b true) k).0) ((and_parts (expr_meets p a true) (expr_meets p b true) k).1)
  ]

  pub quotient : (a b : Expr) (w : Wish) (n : Bool) → quotient_fits M b (expr_fits M a w) (expr_fits M b (turn w)) (is_natural M a && is_natural M b) ≡ true →
      divisor_meets p b (expr_meets p a n) (expr_meets p a true && expr_meets p b true) ≡ true → Quotient a b w
  quotient a (Param x) w n h g = by_constant n (p x) h ((and_parts (int_le (pos 1) (p x)) (expr_meets p a n) g).1) (λ S. refl)
      (int_le_true (pos 1) (p x) ((and_parts (int_le (pos 1) (p x)) (expr_meets p a n) g).0))
  quotient a e w n h g = plain_quotient a e w n h g

  -- the values of natural terms
  two_meet : (c u v : Bool) → cond c (u && v) (u && v) ≡ true → (u ≡ true) × (v ≡ true)
  two_meet true u v h = ((and_parts u v h).0, (and_parts u v h).1)
  two_meet false u v h = ((and_parts u v h).0, (and_parts u v h).1)

  plain_divided : (b : Expr) (A : Bool) → cond (is_literal b) A (A && expr_meets p b true) ≡ true → (A ≡ true) × (expr_meets p b true ≡ true)
  plain_divided b A h = elim (cases_Bool (is_literal b)) [
    | inl l ↦ (if_yes (is_literal b) A (A && expr_meets p b true) h l, literal_meets b true l)
    | inr l ↦ let k = if_no (is_literal b) A (A && expr_meets p b true) h l in ((and_parts A (expr_meets p b true) k).0, (and_parts A (expr_meets p b true) k).1)
  ]

  divided_meets : (b : Expr) (A : Bool) → divisor_meets p b A (A && expr_meets p b true) ≡ true → (A ≡ true) × (expr_meets p b true ≡ true)
  divided_meets (Param x) A h = ((and_parts (int_le (pos 1) (p x)) A h).1, above_zero (p x) ((and_parts (int_le (pos 1) (p x)) A h).0))
  divided_meets e A h = plain_divided e A h

  as_literal : (S : Family) (e : Expr) → is_literal e ≡ true → int_le (pos 0) (literal_value M e) ≡ true → pos 0 ≤ℤ value M S (fill p e)
  as_literal S e l h = subst (λ z. pos 0 ≤ℤ z) (sym (literal_is S e l)) (int_le_true (pos 0) (literal_value M e) h)

  pub natural_is : (S : Family) (e : Expr) → is_natural M e ≡ true → expr_meets p e true ≡ true → pos 0 ≤ℤ value M S (fill p e)
  natural_is S (Number z) h g = int_le_true (pos 0) z h
  natural_is S Infinity h g = natural_number M
  natural_is S (Param x) h g = int_le_true (pos 0) (p x) g
  natural_is S (Min y) h g = natural_number (least (S y))
  natural_is S (Max y) h g = natural_number (greatest (S y))
  natural_is S (Val y) h g = natural_number (least (S y))
  natural_is S (Add a b) h g = elim (cases_Bool (is_literal a && is_literal b)) [
    | inl l ↦ as_literal S (Add a b) l (if_yes (is_literal a && is_literal b) (int_le (pos 0) (literal_value M (Add a b))) (is_natural M a && is_natural M b) h l)
    | inr l ↦
        let k = if_no (is_literal a && is_literal b) (int_le (pos 0) (literal_value M (Add a b))) (is_natural M a && is_natural M b) h l in
        natural_sum (value M S (fill p a)) (value M S (fill p b))
        (natural_is S a ((and_parts (is_natural M a) (is_natural M b) k).0) ((and_parts (expr_meets p a true) (expr_meets p b true) g).0))
        (natural_is S b ((and_parts (is_natural M a) (is_natural M b) k).1) ((and_parts (expr_meets p a true) (expr_meets p b true) g).1))
  ]
  natural_is S (Sub a b) h g = elim (cases_Bool (is_literal a && is_literal b)) [
    | inl l ↦ as_literal S (Sub a b) l (if_yes (is_literal a && is_literal b) (int_le (pos 0) (literal_value M (Sub a b))) false h l)
    | inr l ↦ absurd (true≢false (sym (if_no (is_literal a && is_literal b) (int_le (pos 0) (literal_value M (Sub a b))) false h l)))
  ]
  natural_is S (Mul a b) h g = elim (cases_Bool (is_literal a && is_literal b)) [
    | inl l ↦ as_literal S (Mul a b) l (if_yes (is_literal a && is_literal b) (int_le (pos 0) (literal_value M (Mul a b))) (is_natural M a && is_natural M b) h l)
    | inr l ↦
        let k = if_no (is_literal a && is_literal b) (int_le (pos 0) (literal_value M (Mul a b))) (is_natural M a && is_natural M b) h l in
        let m = two_meet (is_literal a || is_literal b) (expr_meets p a true) (expr_meets p b true) g in
        product_natural (value M S (fill p a)) (value M S (fill p b))
        (natural_is S a ((and_parts (is_natural M a) (is_natural M b) k).0) m.0)
        (natural_is S b ((and_parts (is_natural M a) (is_natural M b) k).1) m.1)
  ]
  natural_is S (DivDown a b) h g =
      let m = divided_meets b (expr_meets p a true) g in
      down_positive M (value M S (fill p a)) (value M S (fill p b)) (natural_is S a ((and_parts (is_natural M a) (is_natural M b) h).0) m.0)
      (natural_is S b ((and_parts (is_natural M a) (is_natural M b) h).1) m.1)
  natural_is S (DivUp a b) h g =
      let m = divided_meets b (expr_meets p a true) g in
      up_positive M (value M S (fill p a)) (value M S (fill p b)) (natural_is S a ((and_parts (is_natural M a) (is_natural M b) h).0) m.0)
      (natural_is S b ((and_parts (is_natural M a) (is_natural M b) h).1) m.1)

-- what the variable of a leaf keeps, from a family to one inside it
abbrev pub LeafKeeps : Family → Family → Role → ℕ → Type 0
LeafKeeps S' S a_parameter x = Unit {0}
LeafKeeps S' S a_min y = least (S' y) ≤ least (S y)
LeafKeeps S' S a_max y = greatest (S y) ≤ greatest (S' y)
LeafKeeps S' S a_val y = least (S' y) ≡ least (S y)
LeafKeeps S' S a_dom y = IsSubset (S y) (S' y)

-- what those of leaves keep, of a term and of a range
abbrev pub AllKeep : Family → Family → List Leaf → Type 0
AllKeep S' S ls = Each (λ l. LeafKeeps S' S l.role l.variable) ls

abbrev pub Keeps : Family → Family → Expr → Type 0
Keeps S' S e = AllKeep S' S (expr_leaves e)

pub keeps_left : (S' S : Family) (xs ys : List Leaf) → AllKeep S' S (xs ++ ys) → AllKeep S' S xs
keeps_left S' S xs ys k = each_before (λ l. LeafKeeps S' S l.role l.variable) xs ys k

pub keeps_right : (S' S : Family) (xs ys : List Leaf) → AllKeep S' S (xs ++ ys) → AllKeep S' S ys
keeps_right S' S xs ys k = each_after (λ l. LeafKeeps S' S l.role l.variable) xs ys k

moves_same : (w : Wish) (x y : ℤ) → x ≡ y → Moves w x y
moves_same Rising x y e = subst (λ z. x ≤ℤ z) e (≤ℤ_refl x)
moves_same Falling x y e = subst (λ z. z ≤ℤ x) e (≤ℤ_refl x)
moves_same Constant x y e = e

moves_min : (w : Wish) (m n : ℕ) → is_rising w ≡ true → m ≤ n → Moves w (pos m) (pos n)
moves_min Rising m n h g = omega (arith, ints)
moves_min Falling m n h g = absurd (true≢false (sym h))
moves_min Constant m n h g = absurd (true≢false (sym h))

moves_max : (w : Wish) (m n : ℕ) → is_falling w ≡ true → n ≤ m → Moves w (pos m) (pos n)
moves_max Rising m n h g = absurd (true≢false (sym h))
moves_max Falling m n h g = omega (arith, ints)
moves_max Constant m n h g = absurd (true≢false (sym h))

literal_left : (w : Wish) (l x' y' x y : ℤ) (A B : Bool) → x' ≡ l → x ≡ l → (A ≡ true → Moves w y' y) → (B ≡ true → Moves (turn w) y' y) → by_sign l A B ≡ true → Moves w (x' *ℤ y') (x *ℤ y)
literal_left w l x' y' x y A B e g i j h = subst (λ t. Moves w (t *ℤ y') (x *ℤ y)) (sym e) (subst (λ t. Moves w (l *ℤ y') (t *ℤ y)) (sym g) (sign_moves w l y' y A B i j h))

literal_right : (w : Wish) (l x' y' x y : ℤ) (A B : Bool) → x' ≡ l → x ≡ l → (A ≡ true → Moves w y' y) → (B ≡ true → Moves (turn w) y' y) → by_sign l A B ≡ true → Moves w (y' *ℤ x') (y *ℤ x)
literal_right w l x' y' x y A B e g i j h = subst (λ t. Moves w t (y *ℤ x)) (*ℤ_comm x' y') (subst (λ t. Moves w (x' *ℤ y') t) (*ℤ_comm x y) (literal_left w l x' y' x y A B e g i j h))

module _ (M : ℕ) (p : ℕ → ℤ) (S' S : Family) where
  left_operand : (a b : Expr) → AllKeep S' S (expr_leaves a ++ expr_leaves b) → Keeps S' S a
  left_operand a b k = keeps_left S' S (expr_leaves a) (expr_leaves b) k

  right_operand : (a b : Expr) → AllKeep S' S (expr_leaves a ++ expr_leaves b) → Keeps S' S b
  right_operand a b k = keeps_right S' S (expr_leaves a) (expr_leaves b) k

  pub expr_moves : (e : Expr) (w : Wish) (n : Bool) → Keeps S' S e → expr_fits M e w ≡ true → expr_meets p e n ≡ true → Moves w (value M S' (fill p e)) (value M S (fill p e))
  expr_moves (Number z) w n k f m = moves_same w z z refl
  expr_moves Infinity w n k f m = moves_same w (pos M) (pos M) refl
  expr_moves (Param x) w n k f m = moves_same w (p x) (p x) refl
  expr_moves (Min y) w n k f m = moves_min w (least (S' y)) (least (S y)) f k.0
  expr_moves (Max y) w n k f m = moves_max w (greatest (S' y)) (greatest (S y)) f k.0
  expr_moves (Val y) w n k f m = moves_same w (pos (least (S' y))) (pos (least (S y))) (ap pos k.0)
  expr_moves (Add a b) w n k f m = add_moves w _ _ _ _
      (expr_moves a w n (left_operand a b k) ((and_parts (expr_fits M a w) (expr_fits M b w) f).0) ((and_parts (expr_meets p a n) (expr_meets p b n) m).0))
      (expr_moves b w n (right_operand a b k) ((and_parts (expr_fits M a w) (expr_fits M b w) f).1) ((and_parts (expr_meets p a n) (expr_meets p b n) m).1))
  expr_moves (Sub a b) w n k f m = sub_moves w _ _ _ _
      (expr_moves a w n (left_operand a b k) ((and_parts (expr_fits M a w) (expr_fits M b (turn w)) f).0) ((and_parts (expr_meets p a n) (expr_meets p b n) m).0))
      (expr_moves b (turn w) n (right_operand a b k) ((and_parts (expr_fits M a w) (expr_fits M b (turn w)) f).1) ((and_parts (expr_meets p a n) (expr_meets p b n) m).1))
  expr_moves (Mul a b) w n k f m =
      let right : Bool = cond (is_literal b) (by_sign (literal_value M b) (expr_fits M a w) (expr_fits M a (turn w))) ((is_natural M a && is_natural M b) && (expr_fits M a w && expr_fits M b w)) in
      elim (cases_Bool (is_literal a)) [
        | inl l ↦
            let s = if_yes (is_literal a) (by_sign (literal_value M a) (expr_fits M b w) (expr_fits M b (turn w))) right f l in
            let g = if_yes (is_literal a || is_literal b) (expr_meets p a n && expr_meets p b n) (expr_meets p a true && expr_meets p b true) m (or_left (is_literal a) (is_literal b) l) in
            let h : expr_meets p b n ≡ true = (and_parts (expr_meets p a n) (expr_meets p b n) g).1 in
            literal_left w (literal_value M a) _ _ _ _ (expr_fits M b w) (expr_fits M b (turn w)) (literal_is M p S' a l) (literal_is M p S a l)
            (λ t. expr_moves b w n (right_operand a b k) t h) (λ t. expr_moves b (turn w) n (right_operand a b k) t h) s
        | inr o ↦
            let q = if_no (is_literal a) (by_sign (literal_value M a) (expr_fits M b w) (expr_fits M b (turn w))) right f o in
            elim (cases_Bool (is_literal b)) [
              | inl l ↦
                  let s = if_yes (is_literal b) (by_sign (literal_value M b) (expr_fits M a w) (expr_fits M a (turn w)))
                  ((is_natural M a && is_natural M b) && (expr_fits M a w && expr_fits M b w)) q l in
                  let g = if_yes (is_literal a || is_literal b) (expr_meets p a n && expr_meets p b n) (expr_meets p a true && expr_meets p b true) m (or_right (is_literal a) (is_literal b) l) in
                  let h : expr_meets p a n ≡ true = (and_parts (expr_meets p a n) (expr_meets p b n) g).0 in
                  literal_right w (literal_value M b) _ _ _ _ (expr_fits M a w) (expr_fits M a (turn w)) (literal_is M p S' b l) (literal_is M p S b l)
                  (λ t. expr_moves a w n (left_operand a b k) t h) (λ t. expr_moves a (turn w) n (left_operand a b k) t h) s
              | inr l ↦
                  let s = if_no (is_literal b) (by_sign (literal_value M b) (expr_fits M a w) (expr_fits M a (turn w)))
                  ((is_natural M a && is_natural M b) && (expr_fits M a w && expr_fits M b w)) q l in
                  let g = if_no (is_literal a || is_literal b) (expr_meets p a n && expr_meets p b n) (expr_meets p a true && expr_meets p b true) m (or_from (is_literal a) (is_literal b) o l) in
                  let i = (and_parts (is_natural M a && is_natural M b) (expr_fits M a w && expr_fits M b w) s).0 in
                  let j = (and_parts (is_natural M a && is_natural M b) (expr_fits M a w && expr_fits M b w) s).1 in
                  let ma = (and_parts (expr_meets p a true) (expr_meets p b true) g).0 in
                  let mb = (and_parts (expr_meets p a true) (expr_meets p b true) g).1 in
                  let na = (and_parts (is_natural M a) (is_natural M b) i).0 in
                  let nb = (and_parts (is_natural M a) (is_natural M b) i).1 in
                  product_moves w _ _ _ _ (natural_is M p S' a na ma) (natural_is M p S a na ma) (natural_is M p S' b nb mb) (natural_is M p S b nb mb)
                  (expr_moves a w true (left_operand a b k) ((and_parts (expr_fits M a w) (expr_fits M b w) j).0) ma)
                  (expr_moves b w true (right_operand a b k) ((and_parts (expr_fits M a w) (expr_fits M b w) j).1) mb)
            ]
      ]
  expr_moves (DivDown a b) w n k f m = elim (quotient M p a b w n f m) [
    | by_constant c d g h e o ↦ subst (λ t. Moves w (div_down M (value M S' (fill p a)) t) (div_down M (value M S (fill p a)) (value M S (fill p b)))) (sym (e S'))
        (subst (λ t. Moves w (div_down M (value M S' (fill p a)) d) (div_down M (value M S (fill p a)) t)) (sym (e S)) (down_moves w M d _ _ o (expr_moves a w c (left_operand a b k) g h)))
    | by_term i j g h c d ↦ down_both w M _ _ _ _ (natural_is M p S' a i c) (natural_is M p S a i c) (natural_is M p S' b j d) (natural_is M p S b j d)
        (expr_moves a w true (left_operand a b k) g c) (expr_moves b (turn w) true (right_operand a b k) h d)
  ]
  expr_moves (DivUp a b) w n k f m = elim (quotient M p a b w n f m) [
    | by_constant c d g h e o ↦ subst (λ t. Moves w (div_up M (value M S' (fill p a)) t) (div_up M (value M S (fill p a)) (value M S (fill p b)))) (sym (e S'))
        (subst (λ t. Moves w (div_up M (value M S' (fill p a)) d) (div_up M (value M S (fill p a)) t)) (sym (e S)) (up_moves w M d _ _ o (expr_moves a w c (left_operand a b k) g h)))
    | by_term i j g h c d ↦ up_both w M _ _ _ _ (natural_is M p S' a i c) (natural_is M p S a i c) (natural_is M p S' b j d) (natural_is M p S b j d)
        (expr_moves a w true (left_operand a b k) g c) (expr_moves b (turn w) true (right_operand a b k) h d)
  ]
