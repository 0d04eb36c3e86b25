-- The direction table asks the same of a range under other variables.
use Rattle.std.proofs.Common.{◌≡◌, ℕ, Bool, true, false, cond, ◌||◌, ◌&&◌, not, ℤ, pos, int_le, [], refl, ap, ◌∙◌}
use Rattle.fd_language.specs.Range.{Range, Span, One, Dom, Union, Inter, Outside, Plus, Minus, Times, Over, Expr, Param, Add, Sub, Mul, DivDown, DivUp}
use Rattle.fd_language.specs.Needs.{is_literal}
use Rattle.fd_language.specs.Check.{Wish, Rising, Falling, Constant, turn, literal_value, by_sign, is_parameter, is_natural, quotient_fits, expr_fits}
use Rattle.fd_language.specs.Check.{range_fits}
use Rattle.fd_language.specs.RangeRenaming.{rename_expr, rename_range}
use Rattle.fd_language.proofs.RangeRenaming.{two, value_same}

module _ (M : ℕ) (f : ℕ → ℕ) where
  literal_same : (e : Expr) → is_literal (rename_expr f e) ≡ is_literal e
  literal_same (Add a b) = two (λ x y. x && y) (literal_same a) (literal_same b)
  literal_same (Sub a b) = two (λ x y. x && y) (literal_same a) (literal_same b)
  literal_same (Mul a b) = two (λ x y. x && y) (literal_same a) (literal_same b)
  literal_same e = refl

  literal_value_same : (e : Expr) → literal_value M (rename_expr f e) ≡ literal_value M e
  literal_value_same e = value_same M f (λ y. []) (λ y. []) e (λ v h. refl)

  parameter_same : (e : Expr) → is_parameter (rename_expr f e) ≡ is_parameter e
  parameter_same (Param x) = refl
  parameter_same e = refl

  by_literal : (p p' q q' : Bool) (z z' : ℤ) (n n' : Bool) → p ≡ p' → q ≡ q' → z ≡ z' → n ≡ n' → cond (p && q) (int_le (pos 0) z) n ≡ cond (p' && q') (int_le (pos 0) z') n'
  by_literal p p' q q' z z' n n' a b c d = ap (λ x. cond (x && q) (int_le (pos 0) z) n) a ∙ ap (λ x. cond (p' && x) (int_le (pos 0) z) n) b
      ∙ ap (λ x. cond (p' && q') (int_le (pos 0) x) n) c ∙ ap (λ x. cond (p' && q') (int_le (pos 0) z') x) d

  natural_same : (e : Expr) → is_natural M (rename_expr f e) ≡ is_natural M e
  natural_same (Add a b) = by_literal _ _ _ _ _ _ _ _ (literal_same a) (literal_same b) (literal_value_same (Add a b)) (two (λ x y. x && y) (natural_same a) (natural_same b))
  natural_same (Sub a b) = by_literal _ _ _ _ _ _ _ _ (literal_same a) (literal_same b) (literal_value_same (Sub a b)) refl
  natural_same (Mul a b) = by_literal _ _ _ _ _ _ _ _ (literal_same a) (literal_same b) (literal_value_same (Mul a b)) (two (λ x y. x && y) (natural_same a) (natural_same b))
  natural_same (DivDown a b) = two (λ x y. x && y) (natural_same a) (natural_same b)
  natural_same (DivUp a b) = two (λ x y. x && y) (natural_same a) (natural_same b)
  natural_same e = refl

  by_divisor : (l l' : Bool) (z z' : ℤ) (p p' u u' v v' n n' : Bool) → l ≡ l' → z ≡ z' → p ≡ p' → u ≡ u' → v ≡ v' → n ≡ n'
      → cond l (int_le (pos 1) z && u) (cond p u (n && (u && v))) ≡ cond l' (int_le (pos 1) z' && u') (cond p' u' (n' && (u' && v')))
  by_divisor l l' z z' p p' u u' v v' n n' a b c d e g =
      ap (λ x. cond x (int_le (pos 1) z && u) (cond p u (n && (u && v)))) a
      ∙ ap (λ x. cond l' (int_le (pos 1) x && u) (cond p u (n && (u && v)))) b
      ∙ ap (λ x. cond l' (int_le (pos 1) z' && u) (cond x u (n && (u && v)))) c
      ∙ ap (λ x. cond l' (int_le (pos 1) z' && x) (cond p' x (n && (x && v)))) d
      ∙ ap (λ x. cond l' (int_le (pos 1) z' && u') (cond p' u' (n && (u' && x)))) e
      ∙ ap (λ x. cond l' (int_le (pos 1) z' && u') (cond p' u' (x && (u' && v')))) g

  quotient_same : (b : Expr) (u u' v v' n n' : Bool) → u ≡ u' → v ≡ v' → n ≡ n' → quotient_fits M (rename_expr f b) u v n ≡ quotient_fits M b u' v' n'
  quotient_same b u u' v v' n n' a c d = by_divisor _ _ _ _ _ _ u u' v v' n n' (literal_same b) (literal_value_same b) (parameter_same b) a c d

  by_factor : (l l' : Bool) (z z' : ℤ) (x x' y y' w w' : Bool) → l ≡ l' → z ≡ z' → x ≡ x' → y ≡ y' → w ≡ w' → cond l (by_sign z x y) w ≡ cond l' (by_sign z' x' y') w'
  by_factor l l' z z' x x' y y' w w' a b c d e =
      ap (λ t. cond t (by_sign z x y) w) a ∙ ap (λ t. cond l' (by_sign t x y) w) b ∙ ap (λ t. cond l' (by_sign z' t y) w) c
      ∙ ap (λ t. cond l' (by_sign z' x' t) w) d ∙ ap (λ t. cond l' (by_sign z' x' y') t) e

  expr_fits_same : (e : Expr) (w : Wish) → expr_fits M (rename_expr f e) w ≡ expr_fits M e w
  expr_fits_same (Add a b) w = two (λ x y. x && y) (expr_fits_same a w) (expr_fits_same b w)
  expr_fits_same (Sub a b) w = two (λ x y. x && y) (expr_fits_same a w) (expr_fits_same b (turn w))
  expr_fits_same (Mul a b) w =
      by_factor _ _ _ _ _ _ _ _ _ _ (literal_same a) (literal_value_same a) (expr_fits_same b w) (expr_fits_same b (turn w))
      (by_factor _ _ _ _ _ _ _ _ _ _ (literal_same b) (literal_value_same b) (expr_fits_same a w) (expr_fits_same a (turn w))
      (two (λ x y. x && y) (two (λ x y. x && y) (natural_same a) (natural_same b)) (two (λ x y. x && y) (expr_fits_same a w) (expr_fits_same b w))))
  expr_fits_same (DivDown a b) w = quotient_same b _ _ _ _ _ _ (expr_fits_same a w) (expr_fits_same b (turn w)) (two (λ x y. x && y) (natural_same a) (natural_same b))
  expr_fits_same (DivUp a b) w = quotient_same b _ _ _ _ _ _ (expr_fits_same a w) (expr_fits_same b (turn w)) (two (λ x y. x && y) (natural_same a) (natural_same b))
  expr_fits_same e w = refl

  divisor_same : (c : Expr) → (is_parameter (rename_expr f c) || (is_literal (rename_expr f c) && int_le (pos 1) (literal_value M (rename_expr f c))))
      ≡ (is_parameter c || (is_literal c && int_le (pos 1) (literal_value M c)))
  divisor_same c = two (λ x y. x || y) (parameter_same c) (two (λ x y. x && y) (literal_same c) (ap (int_le (pos 1)) (literal_value_same c)))

  pub range_fits_same : (r : Range) (w : Bool) → range_fits M (rename_range f r) w ≡ range_fits M r w
  range_fits_same (Span a b) true = two (λ x y. x && y) (expr_fits_same a Rising) (expr_fits_same b Falling)
  range_fits_same (Span a b) false = two (λ x y. x && y) (expr_fits_same a Falling) (expr_fits_same b Rising)
  range_fits_same (One t) w = expr_fits_same t Constant
  range_fits_same (Dom y) w = refl
  range_fits_same (Union r q) w = two (λ x y. x && y) (range_fits_same r w) (range_fits_same q w)
  range_fits_same (Inter r q) w = two (λ x y. x && y) (range_fits_same r w) (range_fits_same q w)
  range_fits_same (Outside r) w = range_fits_same r (not w)
  range_fits_same (Plus r c) w = two (λ x y. x && y) (range_fits_same r w) (expr_fits_same c Constant)
  range_fits_same (Minus r c) w = two (λ x y. x && y) (range_fits_same r w) (expr_fits_same c Constant)
  range_fits_same (Times r c) w = two (λ x y. x && y) (range_fits_same r w) (expr_fits_same c Constant)
  range_fits_same (Over r c) w = two (λ x y. x && y) (range_fits_same r w) (divisor_same c)
