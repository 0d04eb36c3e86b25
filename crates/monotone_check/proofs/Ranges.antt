-- What is kept of a range follows from what is kept of its operands.
use Rattle.std.proofs.Common.{◌≡◌, ℕ, ◌-◌, Bool, true, false, cond, not, ◌||◌, ◌&&◌, ℤ, pos, int_le, List, ◌++◌, Option, Some, None, refl, sym, ◌∙◌, ap}
use Rattle.fd_language.proofs.Lemmas.{first_two, first_three, within_left, within_right}
use Rattle.std.proofs.lemmas.Bool.{true≢false, and_parts}
use Rattle.fd_language.specs.declared.range_node.RangeNode.{RangeNode}
use Rattle.fd_language.specs.declared.range_node.RangeNode.TheVariants as node
use Rattle.fd_language.specs.declared.range_node.Offence.{Offence}
use Rattle.fd_language.specs.Range.{Range, Span, One, Union, Inter, Outside, Plus, Minus, Times, Over, Expr, Param}
use Rattle.fd_language.specs.Needs.{is_literal}
use Rattle.fd_language.specs.Check.{Rising, Falling, Constant, literal_value, is_parameter}
use Rattle.fd_language.specs.RangeVerdict.{expr_size, range_size, bound, earlier, wide_in_expr, wide_in_range, where_too_wide, unless_divides, expr_offences}
use Rattle.fd_language.specs.RangeVerdict.{range_offences, expr_within, range_within, first}
use Rattle.monotone_check.specs.declared.summary.TermCheck.{TermCheck}
use Rattle.monotone_check.specs.declared.summary.RangeCheck.{RangeCheck}
use Rattle.monotone_check.specs.Summary.{IsTerm, IsRange, by_growth, pointwise_over, pointwise_first, divisor_first, IsSpan, IsSingle, IsCombined, IsComplement}
use Rattle.monotone_check.specs.Summary.{IsPointwise}

no_parameter : (c : Expr) → is_literal c ≡ true → is_parameter c ≡ false
no_parameter (Param x) h = absurd (true≢false (sym h))
no_parameter e h = refl

divisor : (lc par : Bool) (v : ℤ) (place : ℕ) (o : Option ℤ) (t : TermCheck) → o ≡ cond lc (Some v) None → t.parameter ≡ par → t.place ≡ place → (lc ≡ true → par ≡ false) →
    divisor_first o t ≡ first (unless_divides (par || (lc && int_le (pos 1) v)) place)
divisor true true v place o t e f g h = absurd (true≢false (h refl))
divisor true false v place o t e f g h = ap (λ l. divisor_first l t) e ∙ ap (λ q. first (unless_divides (int_le (pos 1) v) q)) g
divisor false true v place o t e f g h = ap (λ l. divisor_first l t) e ∙ (ap (λ b. first (unless_divides b t.place)) f ∙ ap (λ q. first (unless_divides true q)) g)
divisor false false v place o t e f g h = ap (λ l. divisor_first l t) e ∙ (ap (λ b. first (unless_divides b t.place)) f ∙ ap (λ q. first (unless_divides false q)) g)

growth : (u : RangeCheck) (f g : Option Offence) (F : Bool → List Offence) → u.shrinking ≡ f → u.growing ≡ g → f ≡ first (F true) → g ≡ first (F false) → (w : Bool) → by_growth u w ≡ first (F w)
growth u f g F h k a b true = h ∙ a
growth u f g F h k a b false = k ∙ b

module _ (M : ℕ) (at : ℕ → ℕ) (n : ℕ) where
  pub span_is : (a b : Expr) (s t : TermCheck) (u : RangeCheck) → IsTerm M at (n - 1 - expr_size b) a s → IsTerm M at (n - 1) b t → IsSpan s t u → IsRange M at n (Span a b) u
  span_is a b s t u i j o = record {
    wide = o.wide ∙ first_two (wide_in_expr M at (n - 1 - expr_size b) a) (wide_in_expr M at (n - 1) b) _ _ i.wide j.wide;
    offences = λ h.
        let wa : expr_within M a ≡ true = (and_parts (expr_within M a) (expr_within M b) h).0 in
        let wb : expr_within M b ≡ true = (and_parts (expr_within M a) (expr_within M b) h).1 in
        growth u _ _ (λ w. range_offences M at n (Span a b) w) o.shrinking o.growing
        (first_two (expr_offences M at (n - 1 - expr_size b) a Rising false) (expr_offences M at (n - 1) b Falling false) _ _ (i.offences wa Rising false) (j.offences wb Falling false))
        (first_two (expr_offences M at (n - 1 - expr_size b) a Falling false) (expr_offences M at (n - 1) b Rising false) _ _ (i.offences wa Falling false) (j.offences wb Rising false));
  }

  pub one_is : (a : Expr) (s : TermCheck) (u : RangeCheck) → IsTerm M at (n - 1) a s → IsSingle s u → IsRange M at n (One a) u
  one_is a s u i o = record {
    wide = o.wide ∙ i.wide;
    offences = λ h. growth u _ _ (λ w. range_offences M at n (One a) w) o.shrinking o.growing (i.offences h Constant false) (i.offences h Constant false);
  }

  -- the range g of an operator of two ranges
  combined_is : (g r q : Range) (s t u : RangeCheck) → wide_in_range M at (n - 1 - range_size q) r ++ wide_in_range M at (n - 1) q ≡ wide_in_range M at n g
      → range_within M g ≡ (range_within M r && range_within M q)
      → ((w : Bool) → range_offences M at (n - 1 - range_size q) r w ++ range_offences M at (n - 1) q w ≡ range_offences M at n g w)
      → IsRange M at (n - 1 - range_size q) r s → IsRange M at (n - 1) q t → IsCombined s t u → IsRange M at n g u
  combined_is g r q s t u wide within offends i j o = record {
    wide = o.wide ∙ (first_two (wide_in_range M at (n - 1 - range_size q) r) (wide_in_range M at (n - 1) q) _ _ i.wide j.wide ∙ ap first wide);
    offences = λ h.
        let both = and_parts (range_within M r) (range_within M q) (sym within ∙ h) in
        let at_growth : (w : Bool) → earlier (by_growth s w) (by_growth t w) ≡ first (range_offences M at n g w) = λ w.
        first_two (range_offences M at (n - 1 - range_size q) r w) (range_offences M at (n - 1) q w) _ _ (i.offences both.0 w) (j.offences both.1 w) ∙ ap first (offends w) in
        growth u _ _ (λ w. range_offences M at n g w) o.shrinking o.growing (at_growth true) (at_growth false);
  }

  pub union_is : (r q : Range) (s t u : RangeCheck) → IsRange M at (n - 1 - range_size q) r s → IsRange M at (n - 1) q t → IsCombined s t u → IsRange M at n (Union r q) u
  union_is r q s t u i j o = combined_is (Union r q) r q s t u refl refl (λ w. refl) i j o

  pub inter_is : (r q : Range) (s t u : RangeCheck) → IsRange M at (n - 1 - range_size q) r s → IsRange M at (n - 1) q t → IsCombined s t u → IsRange M at n (Inter r q) u
  inter_is r q s t u i j o = combined_is (Inter r q) r q s t u refl refl (λ w. refl) i j o

  pub outside_is : (r : Range) (s u : RangeCheck) → IsRange M at (n - 1) r s → IsComplement s u → IsRange M at n (Outside r) u
  outside_is r s u i o = record {
    wide = o.wide ∙ i.wide;
    offences = λ h. growth u _ _ (λ w. range_offences M at n (Outside r) w) o.shrinking o.growing (i.offences h false) (i.offences h true);
  }

  -- the range g of the pointwise operator m, of which c gives the offences xs
  spread_is : (m : RangeNode) (g r : Range) (c : Expr) (xs : List Offence) (s : RangeCheck) (t : TermCheck) (u : RangeCheck)
      → wide_in_range M at (n - 1 - expr_size c) r ++ wide_in_expr M at (n - 1) c ++ where_too_wide (pointwise_over M m (bound M c)) (at n) ≡ wide_in_range M at n g
      → range_within M g ≡ ((range_within M r && expr_within M c) && not (pointwise_over M m (bound M c)))
      → ((w : Bool) → range_offences M at (n - 1 - expr_size c) r w ++ xs ≡ range_offences M at n g w) → (expr_within M c ≡ true → pointwise_first m t ≡ first xs)
      → IsRange M at (n - 1 - expr_size c) r s → IsTerm M at (n - 1) c t → IsPointwise M m s t (at n) u → IsRange M at n g u
  spread_is m g r c xs s t u wide within offends own i j o = record {
    wide = o.wide (bound M c) j.size ∙ (first_three (wide_in_range M at (n - 1 - expr_size c) r) (wide_in_expr M at (n - 1) c)
        (where_too_wide (pointwise_over M m (bound M c)) (at n)) _ _ _ i.wide j.wide refl ∙ ap first wide);
    offences = λ h.
        let all : ((range_within M r && expr_within M c) && not (pointwise_over M m (bound M c))) ≡ true = sym within ∙ h in
        let wr : range_within M r ≡ true = within_left (range_within M r) (expr_within M c) (not (pointwise_over M m (bound M c))) all in
        let wc : expr_within M c ≡ true = within_right (range_within M r) (expr_within M c) (not (pointwise_over M m (bound M c))) all in
        let at_growth : (w : Bool) → earlier (by_growth s w) (pointwise_first m t) ≡ first (range_offences M at n g w) = λ w.
        first_two (range_offences M at (n - 1 - expr_size c) r w) xs _ _ (i.offences wr w) (own wc) ∙ ap first (offends w) in
        growth u _ _ (λ w. range_offences M at n g w) o.shrinking o.growing (at_growth true) (at_growth false);
  }

  pub plus_is : (r : Range) (c : Expr) (s : RangeCheck) (t : TermCheck) (u : RangeCheck) → IsRange M at (n - 1 - expr_size c) r s → IsTerm M at (n - 1) c t
      → IsPointwise M node.Plus s t (at n) u → IsRange M at n (Plus r c) u
  plus_is r c s t u i j o = spread_is node.Plus (Plus r c) r c (expr_offences M at (n - 1) c Constant false) s t u refl refl (λ w. refl) (λ h. j.offences h Constant false) i j o

  pub minus_is : (r : Range) (c : Expr) (s : RangeCheck) (t : TermCheck) (u : RangeCheck) → IsRange M at (n - 1 - expr_size c) r s → IsTerm M at (n - 1) c t
      → IsPointwise M node.Minus s t (at n) u → IsRange M at n (Minus r c) u
  minus_is r c s t u i j o = spread_is node.Minus (Minus r c) r c (expr_offences M at (n - 1) c Constant false) s t u refl refl (λ w. refl) (λ h. j.offences h Constant false) i j o

  pub times_is : (r : Range) (c : Expr) (s : RangeCheck) (t : TermCheck) (u : RangeCheck) → IsRange M at (n - 1 - expr_size c) r s → IsTerm M at (n - 1) c t
      → IsPointwise M node.Times s t (at n) u → IsRange M at n (Times r c) u
  times_is r c s t u i j o = spread_is node.Times (Times r c) r c (expr_offences M at (n - 1) c Constant false) s t u refl refl (λ w. refl) (λ h. j.offences h Constant false) i j o

  pub over_is : (r : Range) (c : Expr) (s : RangeCheck) (t : TermCheck) (u : RangeCheck) → IsRange M at (n - 1 - expr_size c) r s → IsTerm M at (n - 1) c t
      → IsPointwise M node.Over s t (at n) u → IsRange M at n (Over r c) u
  over_is r c s t u i j o = spread_is node.Over (Over r c) r c (unless_divides (is_parameter c || (is_literal c && int_le (pos 1) (literal_value M c))) (at (n - 1))) s t u refl refl (λ w. refl)
      (λ h. divisor (is_literal c) (is_parameter c) (literal_value M c) (at (n - 1)) t.literal t (j.literal h) j.parameter j.place (no_parameter c)) i j o
