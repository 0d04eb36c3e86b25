-- Rows of goals `T in r` under other names of their variables.
use Rattle.std.proofs.Common.{◌≡◌, ℕ, Bool, true, false, cond, ◌||◌, ◌&&◌, ◌==◌, List, [], ◌∷◌, ◌++◌, map, refl, ap, sym, ◌∙◌, inl, inr, eqb-true, eq-eqb}
use Rattle.std.proofs.lemmas.Bool.{cases_Bool, true≢false}
use Rattle.std.proofs.lemmas.List.{map-append}
use Rattle.fd_language.specs.declared.range_node.Need.{Need}
use Rattle.fd_language.specs.declared.range_node.Need.TheVariants.{Divisor}
use Rattle.fd_language.specs.Range.{Range, Span, One, Dom, Union, Inter, Outside, Plus, Minus, Times, Over, Expr, Number, Infinity, Param, Min, Max, Val, Add}
use Rattle.fd_language.specs.Range.{Sub, Mul, DivDown, DivUp}
use Rattle.fd_language.specs.RangeRenaming.{rename_expr, rename_range}
use Rattle.fd_language.specs.Needs.{is_literal, quotient_asks, expr_asks, over_asks, asks, stronger, strongest, need_of}
use Rattle.fd_language.specs.Occurrences.{Occurrence, occurrence_at, range_occurrences}
use Rattle.fd_language.proofs.Lemmas.{two, collected_by, renamed_leaves}

-- functions that agree everywhere are one
pub functions : {A B : Type 0} {f g : A → B} → ((x : A) → f x ≡ g x) → f ≡ g
functions h = λ i x. h x i

abbrev rename_ask : (ℕ → ℕ) → ℕ × Need → ℕ × Need
rename_ask g d = (g d.0, d.1)

abbrev rename_occurrence : (ℕ → ℕ) → Occurrence → Occurrence
rename_occurrence g p = record { variable = g p.variable; parameter = p.parameter }

-- g gives different variables different names
module _ (g : ℕ → ℕ) (apart : (v w : ℕ) → g v ≡ g w → v ≡ w) where
  same_test : (v w : ℕ) → (g v == g w) ≡ (v == w)
  same_test v w = elim (cases_Bool (v == w)) [
    | inl e ↦ eq-eqb (g v) (g w) (ap g (eqb-true v w e)) ∙ sym e
    | inr e ↦ elim (cases_Bool (g v == g w)) [ inl k ↦ absurd (true≢false (sym (eq-eqb v w (apart v w (eqb-true (g v) (g w) k))) ∙ e)) | inr k ↦ k ∙ sym e ]
  ]

  -- occurrences
  pub occurrences_renamed : (r : Range) → range_occurrences (rename_range g r) ≡ map (rename_occurrence g) (range_occurrences r)
  occurrences_renamed r = renamed_leaves occurrence_at g r ∙ sym (collected_by (map (rename_occurrence g)) refl (map-append (rename_occurrence g)) occurrence_at r)

  -- needs
  literal_renamed : (e : Expr) → is_literal (rename_expr g e) ≡ is_literal e
  literal_renamed (Number z) = refl
  literal_renamed Infinity = refl
  literal_renamed (Param x) = refl
  literal_renamed (Min y) = refl
  literal_renamed (Max y) = refl
  literal_renamed (Val y) = refl
  literal_renamed (Add a b) = two (λ x y. x && y) (literal_renamed a) (literal_renamed b)
  literal_renamed (Sub a b) = two (λ x y. x && y) (literal_renamed a) (literal_renamed b)
  literal_renamed (Mul a b) = two (λ x y. x && y) (literal_renamed a) (literal_renamed b)
  literal_renamed (DivDown a b) = refl
  literal_renamed (DivUp a b) = refl

  abbrev RenamedAsks : List (ℕ × Need) → List (ℕ × Need) → Type 0
  RenamedAsks xs' xs = xs' ≡ map (rename_ask g) xs

  both_asks : (xs ys : List (ℕ × Need)) {xs' ys' : List (ℕ × Need)} → RenamedAsks xs' xs → RenamedAsks ys' ys → RenamedAsks (xs' ++ ys') (xs ++ ys)
  both_asks xs ys e k = two (λ a b. a ++ b) e k ∙ sym (map-append (rename_ask g) xs ys)

  either_asks : (b c : Bool) (xs ys : List (ℕ × Need)) {xs' ys' : List (ℕ × Need)} → b ≡ c → RenamedAsks xs' xs → RenamedAsks ys' ys → RenamedAsks (cond b xs' ys') (cond c xs ys)
  either_asks true true xs ys e h k = h
  either_asks true false xs ys e h k = absurd (true≢false e)
  either_asks false true xs ys e h k = absurd (true≢false (sym e))
  either_asks false false xs ys e h k = k

  quotient_renamed : (b : Expr) (xs ys zs : List (ℕ × Need)) {xs' ys' zs' : List (ℕ × Need)} → RenamedAsks xs' xs → RenamedAsks ys' ys → RenamedAsks zs' zs
      → RenamedAsks (quotient_asks (rename_expr g b) xs' ys' zs') (quotient_asks b xs ys zs)
  quotient_renamed (Number z) xs ys zs h k l = h
  quotient_renamed Infinity xs ys zs h k l = h
  quotient_renamed (Param x) xs ys zs h k l = both_asks xs ((x, Divisor) ∷ []) h refl
  quotient_renamed (Min y) xs ys zs h k l = both_asks ys zs k l
  quotient_renamed (Max y) xs ys zs h k l = both_asks ys zs k l
  quotient_renamed (Val y) xs ys zs h k l = both_asks ys zs k l
  quotient_renamed (Add a b) xs ys zs h k l = either_asks (is_literal (rename_expr g (Add a b))) (is_literal (Add a b)) xs (ys ++ zs) (literal_renamed (Add a b)) h (both_asks ys zs k l)
  quotient_renamed (Sub a b) xs ys zs h k l = either_asks (is_literal (rename_expr g (Sub a b))) (is_literal (Sub a b)) xs (ys ++ zs) (literal_renamed (Sub a b)) h (both_asks ys zs k l)
  quotient_renamed (Mul a b) xs ys zs h k l = either_asks (is_literal (rename_expr g (Mul a b))) (is_literal (Mul a b)) xs (ys ++ zs) (literal_renamed (Mul a b)) h (both_asks ys zs k l)
  quotient_renamed (DivDown a b) xs ys zs h k l = both_asks ys zs k l
  quotient_renamed (DivUp a b) xs ys zs h k l = both_asks ys zs k l

  either_literal : (a b : Expr) → (is_literal (rename_expr g a) || is_literal (rename_expr g b)) ≡ (is_literal a || is_literal b)
  either_literal a b = two (λ x y. x || y) (literal_renamed a) (literal_renamed b)

  expr_asks_renamed : (e : Expr) (natural : Bool) → RenamedAsks (expr_asks (rename_expr g e) natural) (expr_asks e natural)
  expr_asks_renamed (Number z) n = refl
  expr_asks_renamed Infinity n = refl
  expr_asks_renamed (Param x) n = refl
  expr_asks_renamed (Min y) n = refl
  expr_asks_renamed (Max y) n = refl
  expr_asks_renamed (Val y) n = refl
  expr_asks_renamed (Add a b) n = both_asks (expr_asks a n) (expr_asks b n) (expr_asks_renamed a n) (expr_asks_renamed b n)
  expr_asks_renamed (Sub a b) n = both_asks (expr_asks a n) (expr_asks b n) (expr_asks_renamed a n) (expr_asks_renamed b n)
  expr_asks_renamed (Mul a b) n =
      either_asks (is_literal (rename_expr g a) || is_literal (rename_expr g b)) (is_literal a || is_literal b) (expr_asks a n ++ expr_asks b n)
      (expr_asks a true ++ expr_asks b true) (either_literal a b)
      (both_asks (expr_asks a n) (expr_asks b n) (expr_asks_renamed a n) (expr_asks_renamed b n))
      (both_asks (expr_asks a true) (expr_asks b true) (expr_asks_renamed a true) (expr_asks_renamed b true))
  expr_asks_renamed (DivDown a b) n = quotient_renamed b (expr_asks a n) (expr_asks a true) (expr_asks b true) (expr_asks_renamed a n) (expr_asks_renamed a true) (expr_asks_renamed b true)
  expr_asks_renamed (DivUp a b) n = quotient_renamed b (expr_asks a n) (expr_asks a true) (expr_asks b true) (expr_asks_renamed a n) (expr_asks_renamed a true) (expr_asks_renamed b true)

  over_asks_renamed : (e : Expr) → RenamedAsks (over_asks (rename_expr g e)) (over_asks e)
  over_asks_renamed (Number z) = expr_asks_renamed (Number z) false
  over_asks_renamed Infinity = expr_asks_renamed Infinity false
  over_asks_renamed (Min y) = expr_asks_renamed (Min y) false
  over_asks_renamed (Max y) = expr_asks_renamed (Max y) false
  over_asks_renamed (Val y) = expr_asks_renamed (Val y) false
  over_asks_renamed (Add a b) = expr_asks_renamed (Add a b) false
  over_asks_renamed (Sub a b) = expr_asks_renamed (Sub a b) false
  over_asks_renamed (Mul a b) = expr_asks_renamed (Mul a b) false
  over_asks_renamed (DivDown a b) = expr_asks_renamed (DivDown a b) false
  over_asks_renamed (DivUp a b) = expr_asks_renamed (DivUp a b) false
  over_asks_renamed (Param x) = refl

  asks_renamed : (r : Range) → RenamedAsks (asks (rename_range g r)) (asks r)
  asks_renamed (Span a b) = both_asks (expr_asks a false) (expr_asks b false) (expr_asks_renamed a false) (expr_asks_renamed b false)
  asks_renamed (One t) = expr_asks_renamed t false
  asks_renamed (Dom y) = refl
  asks_renamed (Union r q) = both_asks (asks r) (asks q) (asks_renamed r) (asks_renamed q)
  asks_renamed (Inter r q) = both_asks (asks r) (asks q) (asks_renamed r) (asks_renamed q)
  asks_renamed (Outside r) = asks_renamed r
  asks_renamed (Plus r c) = both_asks (asks r) (expr_asks c false) (asks_renamed r) (expr_asks_renamed c false)
  asks_renamed (Minus r c) = both_asks (asks r) (expr_asks c false) (asks_renamed r) (expr_asks_renamed c false)
  asks_renamed (Times r c) = both_asks (asks r) (expr_asks c false) (asks_renamed r) (expr_asks_renamed c false)
  asks_renamed (Over r c) = both_asks (asks r) (over_asks c) (asks_renamed r) (over_asks_renamed c)

  strongest_renamed : (ds : List (ℕ × Need)) (x : ℕ) → strongest (map (rename_ask g) ds) (g x) ≡ strongest ds x
  strongest_renamed [] x = refl
  strongest_renamed (d ∷ ds) x = two (λ b n. cond b (stronger d.1 n) n) (same_test d.0 x) (strongest_renamed ds x)

  pub need_renamed : (r : Range) (x : ℕ) → need_of (rename_range g r) (g x) ≡ need_of r x
  need_renamed r x = ap (λ l. strongest l (g x)) (asks_renamed r) ∙ strongest_renamed (asks r) x
