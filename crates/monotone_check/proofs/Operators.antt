-- What is kept of an operator's term follows from what is kept of its operands.
use Rattle.std.proofs.Common.{◌≡◌, ℕ, ◌-◌, ◌^◌, ◌≤◌, ◌<◌, Bool, true, false, cond, not, ◌&&◌, ℤ, pos, ◌+ℤ◌, ◌-ℤ◌, ◌*ℤ◌, int_le, nat_abs, List, ◌++◌, Option}
use Rattle.std.proofs.Common.{Some, None, IfSome, FitsSigned, refl, sym, ◌∙◌, ap, subst, arith}
use Rattle.std.specs.Int.{w128}
use Rattle.std.proofs.lemmas.Int.{fits_signed_from_abs}
use Rattle.std.proofs.lemmas.Bool.{true≢false, and_parts}
use Rattle.fd_language.specs.declared.range_node.RangeNode.{RangeNode}
use Rattle.fd_language.specs.declared.range_node.RangeNode.TheVariants as node
use Rattle.fd_language.specs.declared.range_node.Offence.{Offence}
use Rattle.fd_language.specs.Range.{Expr, Number, Infinity, Add, Sub, Mul, DivDown, DivUp}
use Rattle.fd_language.specs.Needs.{is_literal}
use Rattle.fd_language.specs.Check.{Wish, turn, literal_value, is_parameter}
use Rattle.fd_language.specs.RangeVerdict.{expr_size, bound, wide_in_expr, where_too_wide, over_limit, where_below_zero, where_natural, unless_divides, scaled}
use Rattle.fd_language.specs.RangeVerdict.{expr_offences, quotient_offences, expr_within, earlier, first}
use Rattle.monotone_check.specs.declared.summary.TermCheck.{TermCheck}
use Rattle.monotone_check.specs.Summary.{capped, literal_of, IsTerm, operator_bound, both_literal, operator_literal, kept, product_first, quotient_first}
use Rattle.monotone_check.specs.Summary.{operands_first, operator_first, IsOperated}
use Rattle.fd_language.proofs.Lemmas.{abs_add, abs_mul, abs_sub, not_over, products, sums, first_two, first_three, within_left, within_right, within_here}

pub literal_bound : (M : ℕ) (e : Expr) → is_literal e ≡ true → nat_abs (literal_value M e) ≤ bound M e
literal_bound M (Number z) h = omega arith
literal_bound M Infinity h = omega arith
literal_bound M (Add a b) h = sums _ _ _ _ _ (abs_add (literal_value M a) (literal_value M b))
    (literal_bound M a ((and_parts (is_literal a) (is_literal b) h).0)) (literal_bound M b ((and_parts (is_literal a) (is_literal b) h).1))
literal_bound M (Sub a b) h = sums _ _ _ _ _ (abs_sub (literal_value M a) (literal_value M b))
    (literal_bound M a ((and_parts (is_literal a) (is_literal b) h).0)) (literal_bound M b ((and_parts (is_literal a) (is_literal b) h).1))
literal_bound M (Mul a b) h = products _ _ _ _ _ (abs_mul (literal_value M a) (literal_value M b))
    (literal_bound M a ((and_parts (is_literal a) (is_literal b) h).0)) (literal_bound M b ((and_parts (is_literal a) (is_literal b) h).1))
literal_bound M e h = absurd (true≢false (sym h))

small : (m n : ℕ) → m ≤ n → n ≤ 2 ^ 126 - 1 → m < 2 ^ 127
small m n h g = omega arith

pub fits : (z : ℤ) (n : ℕ) → nat_abs z ≤ n → not (over_limit n) ≡ true → FitsSigned w128 z
fits z n h g = fits_signed_from_abs w128 z (small (nat_abs z) n h (not_over n g))

-- the literal of an operator's term
both_literals : (f : ℤ → ℤ → ℤ) (la lb : Bool) (va vb : ℤ) (x y : Option ℤ) → x ≡ cond la (Some va) None → y ≡ cond lb (Some vb) None → both_literal f x y ≡ cond (la && lb) (Some (f va vb)) None
both_literals f true true va vb x y e g = ap (λ o. both_literal f o y) e ∙ ap (λ o. both_literal f (Some va) o) g
both_literals f true false va vb x y e g = ap (λ o. both_literal f o y) e ∙ ap (λ o. both_literal f (Some va) o) g
both_literals f false lb va vb x y e g = ap (λ o. both_literal f o y) e

literal_is : (c : Bool) (v : ℤ) (o l : Option ℤ) → o ≡ cond c (Some v) None → IfSome o (λ z. FitsSigned w128 z → l ≡ Some z) → (o ≡ None → l ≡ None)
    → (c ≡ true → FitsSigned w128 v) → l ≡ cond c (Some v) None
literal_is true v o l e f g h = (subst (λ p. IfSome p (λ z. FitsSigned w128 z → l ≡ Some z)) e f) (h refl)
literal_is false v o l e f g h = g e

-- an operator's term offends as a literal, or as its operands do
by_literal : (c : Bool) (v : ℤ) (l : Option ℤ) (n : RangeNode) (a b : TermCheck) (p : ℕ) (w : Wish) (natural : Bool) (xs : List Offence) →
    l ≡ cond c (Some v) None → operands_first n a b p w natural ≡ first xs → operator_first l n a b p w natural ≡ first (cond c (where_below_zero natural v p) xs)
by_literal true v l n a b p w natural xs e f = ap (λ o. operator_first o n a b p w natural) e
by_literal false v l n a b p w natural xs e f = ap (λ o. operator_first o n a b p w natural) e ∙ f

by_factor : (la lb : Bool) (va vb : ℤ) (x y : Option ℤ) (a b : TermCheck) (w : Wish) (natural : Bool) (A B : Wish → Bool → List Offence) →
    x ≡ cond la (Some va) None → y ≡ cond lb (Some vb) None →
    ((v : Wish) (n : Bool) → kept n a v ≡ first (A v n)) → ((v : Wish) (n : Bool) → kept n b v ≡ first (B v n)) →
    product_first x y a b w natural ≡ first (cond la (A w natural ++ B (scaled va w) natural) (cond lb (A (scaled vb w) natural ++ B w natural) (A w true ++ B w true)))
by_factor true lb va vb x y a b w natural A B e f g h = ap (λ o. product_first o y a b w natural) e ∙ first_two (A w natural) (B (scaled va w) natural) _ _ (g w natural) (h (scaled va w) natural)
by_factor false true va vb x y a b w natural A B e f g h = ap (λ o. product_first o y a b w natural) e
    ∙ (ap (λ o. product_first None o a b w natural) f ∙ first_two (A (scaled vb w) natural) (B w natural) _ _ (g (scaled vb w) natural) (h w natural))
by_factor false false va vb x y a b w natural A B e f g h = ap (λ o. product_first o y a b w natural) e
    ∙ (ap (λ o. product_first None o a b w natural) f ∙ first_two (A w true) (B w true) _ _ (g w true) (h w true))

by_divisor : (lb par : Bool) (vb : ℤ) (y : Option ℤ) (a b : TermCheck) (place : ℕ) (w : Wish) (natural : Bool) (A B : Wish → Bool → List Offence) →
    y ≡ cond lb (Some vb) None → b.parameter ≡ par → b.place ≡ place →
    ((v : Wish) (n : Bool) → kept n a v ≡ first (A v n)) → ((v : Wish) (n : Bool) → kept n b v ≡ first (B v n)) →
    quotient_first y a b w natural ≡ first (cond lb (A w natural ++ unless_divides (int_le (pos 1) vb) place) (cond par (A w natural) (A w true ++ B (turn w) true)))
by_divisor true par vb y a b place w natural A B e f i g h = ap (λ o. quotient_first o a b w natural) e
    ∙ first_two (A w natural) (unless_divides (int_le (pos 1) vb) place) _ _ (g w natural) (ap (λ q. first (unless_divides (int_le (pos 1) vb) q)) i)
by_divisor false true vb y a b place w natural A B e f i g h = ap (λ o. quotient_first o a b w natural) e
    ∙ (ap (λ c. cond c (kept natural a w) (earlier (kept true a w) (kept true b (turn w)))) f ∙ g w natural)
by_divisor false false vb y a b place w natural A B e f i g h = ap (λ o. quotient_first o a b w natural) e
    ∙ (ap (λ c. cond c (kept natural a w) (earlier (kept true a w) (kept true b (turn w)))) f
    ∙ first_two (A w true) (B (turn w) true) _ _ (g w true) (h (turn w) true))

either : (M : ℕ) (n : RangeNode) (a b : TermCheck) (p : ℕ) (r : TermCheck) → IsOperated M n a b p r → (w : Wish) (natural : Bool) → kept natural r w ≡ operator_first r.literal n a b p w natural
either M n a b p r o w true = o.natural w
either M n a b p r o w false = o.plain w

module _ (M : ℕ) (at : ℕ → ℕ) (n : ℕ) (a b : Expr) (s t r : TermCheck) (i : IsTerm M at (n - 1 - expr_size b) a s) (j : IsTerm M at (n - 1) b t) where
  -- The term e of the operator m: it is a literal of the value v where c says so, and else it offends as xs, which its operands give.
  operated_is : (m : RangeNode) (e : Expr) (c : Bool) (v : ℤ) (xs : Wish → Bool → List Offence) → operator_bound M m (bound M a) (bound M b) ≡ bound M e
      → wide_in_expr M at (n - 1 - expr_size b) a ++ wide_in_expr M at (n - 1) b ++ where_too_wide (over_limit (bound M e)) (at n) ≡ wide_in_expr M at n e
      → expr_within M e ≡ ((expr_within M a && expr_within M b) && not (over_limit (bound M e))) → false ≡ is_parameter e → cond c (Some v) None ≡ literal_of M e
      → ((w : Wish) (k : Bool) → cond c (where_below_zero k v (at n)) (xs w k) ≡ expr_offences M at n e w k)
      → (expr_within M a ≡ true → expr_within M b ≡ true → operator_literal m s.literal t.literal ≡ cond c (Some v) None) → (c ≡ true → nat_abs v ≤ bound M e)
      → (expr_within M a ≡ true → expr_within M b ≡ true → (w : Wish) (k : Bool) → operands_first m s t (at n) w k ≡ first (xs w k))
      → IsOperated M m s t (at n) r → IsTerm M at n e r
  operated_is m e c v xs bounds wide within other literal offends known small operands o =
      let all : expr_within M e ≡ true → ((expr_within M a && expr_within M b) && not (over_limit (bound M e))) ≡ true = λ h. sym within ∙ h in
      let wa : expr_within M e ≡ true → expr_within M a ≡ true = λ h. within_left (expr_within M a) (expr_within M b) (not (over_limit (bound M e))) (all h) in
      let wb : expr_within M e ≡ true → expr_within M b ≡ true = λ h. within_right (expr_within M a) (expr_within M b) (not (over_limit (bound M e))) (all h) in
      let lit : expr_within M e ≡ true → r.literal ≡ cond c (Some v) None = λ h.
      literal_is c v (operator_literal m s.literal t.literal) r.literal (known (wa h) (wb h)) o.some o.none
      (λ l. fits v (bound M e) (small l) (within_here (expr_within M a) (expr_within M b) (not (over_limit (bound M e))) (all h))) in
      record {
        place = o.place;
        size = o.size (bound M a) (bound M b) i.size j.size ∙ ap capped bounds;
        wide = o.wide (bound M a) (bound M b) i.size j.size ∙ (ap (λ k. earlier (earlier s.wide t.wide) (first (where_too_wide (over_limit k) (at n)))) bounds
            ∙ (first_three (wide_in_expr M at (n - 1 - expr_size b) a) (wide_in_expr M at (n - 1) b) (where_too_wide (over_limit (bound M e)) (at n)) _ _ _ i.wide j.wide refl ∙ ap first wide));
        parameter = o.parameter ∙ other;
        literal = λ h. lit h ∙ literal;
        offences = λ h w k. either M m s t (at n) r o w k ∙ (by_literal c v r.literal m s t (at n) w k (xs w k) (lit h) (operands (wa h) (wb h) w k) ∙ ap first (offends w k));
      }

  abbrev A : Wish → Bool → List Offence
  A w k = expr_offences M at (n - 1 - expr_size b) a w k

  abbrev B : Wish → Bool → List Offence
  B w k = expr_offences M at (n - 1) b w k

  pub add_is : IsOperated M node.Add s t (at n) r → IsTerm M at n (Add a b) r
  add_is o = operated_is node.Add (Add a b) (is_literal a && is_literal b) (literal_value M (Add a b)) (λ w k. A w k ++ B w k) refl refl refl refl refl (λ w k. refl)
      (λ wa wb. both_literals (λ x y. x +ℤ y) (is_literal a) (is_literal b) (literal_value M a) (literal_value M b) s.literal t.literal (i.literal wa) (j.literal wb)) (literal_bound M (Add a b))
      (λ wa wb w k. first_two (A w k) (B w k) _ _ (i.offences wa w k) (j.offences wb w k)) o

  pub sub_is : IsOperated M node.Sub s t (at n) r → IsTerm M at n (Sub a b) r
  sub_is o = operated_is node.Sub (Sub a b) (is_literal a && is_literal b) (literal_value M (Sub a b)) (λ w k. A w k ++ B (turn w) k ++ where_natural k (at n)) refl refl refl refl refl (λ w k. refl)
      (λ wa wb. both_literals (λ x y. x -ℤ y) (is_literal a) (is_literal b) (literal_value M a) (literal_value M b) s.literal t.literal (i.literal wa) (j.literal wb)) (literal_bound M (Sub a b))
      (λ wa wb w k. first_three (A w k) (B (turn w) k) (where_natural k (at n)) _ _ _ (i.offences wa w k) (j.offences wb (turn w) k) refl) o

  pub mul_is : IsOperated M node.Mul s t (at n) r → IsTerm M at n (Mul a b) r
  mul_is o = operated_is node.Mul (Mul a b) (is_literal a && is_literal b) (literal_value M (Mul a b))
      (λ w k. cond (is_literal a) (A w k ++ B (scaled (literal_value M a) w) k)
      (cond (is_literal b) (A (scaled (literal_value M b) w) k ++ B w k) (A w true ++ B w true))) refl refl refl refl refl (λ w k. refl)
      (λ wa wb. both_literals (λ x y. x *ℤ y) (is_literal a) (is_literal b) (literal_value M a) (literal_value M b) s.literal t.literal (i.literal wa) (j.literal wb)) (literal_bound M (Mul a b))
      (λ wa wb w k. by_factor (is_literal a) (is_literal b) (literal_value M a) (literal_value M b) s.literal t.literal s t w k A B (i.literal wa)
      (j.literal wb) (λ v m. i.offences wa v m) (λ v m. j.offences wb v m)) o

  quotient_operands : expr_within M a ≡ true → expr_within M b ≡ true → (w : Wish) (k : Bool)
      → quotient_first t.literal s t w k ≡ first (quotient_offences M (at (n - 1)) b (A w k) (A w true) (B (turn w) true))
  quotient_operands wa wb w k = by_divisor (is_literal b) (is_parameter b) (literal_value M b) t.literal s t (at (n - 1)) w k A B (j.literal wb) j.parameter
      j.place (λ v m. i.offences wa v m) (λ v m. j.offences wb v m)

  pub div_down_is : IsOperated M node.DivDown s t (at n) r → IsTerm M at n (DivDown a b) r
  div_down_is o = operated_is node.DivDown (DivDown a b) false (pos 0) (λ w k. quotient_offences M (at (n - 1)) b (A w k) (A w true) (B (turn w) true)) refl
      refl refl refl refl (λ w k. refl) (λ wa wb. refl) (λ l. absurd (true≢false (sym l))) quotient_operands o

  pub div_up_is : IsOperated M node.DivUp s t (at n) r → IsTerm M at n (DivUp a b) r
  div_up_is o = operated_is node.DivUp (DivUp a b) false (pos 0) (λ w k. quotient_offences M (at (n - 1)) b (A w k) (A w true) (B (turn w) true)) refl refl refl
      refl refl (λ w k. refl) (λ wa wb. refl) (λ l. absurd (true≢false (sym l))) quotient_operands o
