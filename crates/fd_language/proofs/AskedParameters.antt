-- Public lemmas: needs are asked of the parameters of the range, in their order.
use Rattle.std.proofs.Common.{◌≡◌, ℕ, Bool, true, false, cond, ◌||◌, List, [], ◌∷◌, ◌++◌, map, refl, sym, ◌∙◌, ap, subst, inl, inr}
use Rattle.std.proofs.lemmas.Bool.{cases_Bool, true≢false, and_parts}
use Rattle.std.proofs.lemmas.List.{map-append, append-nil}
use Rattle.fd_language.specs.declared.range_node.Need.{Need}
use Rattle.fd_language.specs.declared.range_node.Need.TheVariants.{Divisor}
use Rattle.fd_language.specs.Lists.{Each}
use Rattle.fd_language.specs.Range.{Range, Span, One, Dom, Union, Inter, Outside, Plus, Minus, Times, Over, Expr, Number, Infinity, Param, Add, Sub, Mul}
use Rattle.fd_language.specs.Range.{DivDown, DivUp, expr_params, params}
use Rattle.fd_language.specs.Needs.{is_literal, quotient_asks, expr_asks, over_asks, asks}
use Rattle.fd_language.proofs.Lists.{each_of_map}
use Rattle.fd_language.proofs.Leaves.{two}

-- of whom something is asked
abbrev pub of_asks : List (ℕ × Need) → List ℕ
of_asks ds = map (λ d. d.0) ds

both : (xs ys : List (ℕ × Need)) (us vs : List ℕ) → of_asks xs ≡ us → of_asks ys ≡ vs → of_asks (xs ++ ys) ≡ us ++ vs
both xs ys us vs h g = map-append (λ d. d.0) xs ys ∙ two (λ x y. x ++ y) h g

no_params : (e : Expr) → is_literal e ≡ true → expr_params e ≡ []
no_params (Number z) h = refl
no_params Infinity h = refl
no_params (Add a b) h = let l = and_parts (is_literal a) (is_literal b) h in two (λ x y. x ++ y) (no_params a l.0) (no_params b l.1)
no_params (Sub a b) h = let l = and_parts (is_literal a) (is_literal b) h in two (λ x y. x ++ y) (no_params a l.0) (no_params b l.1)
no_params (Mul a b) h = let l = and_parts (is_literal a) (is_literal b) h in two (λ x y. x ++ y) (no_params a l.0) (no_params b l.1)
no_params e h = absurd (true≢false (sym h))

either : (c : Bool) (xs ys : List (ℕ × Need)) (us : List ℕ) → of_asks xs ≡ us → of_asks ys ≡ us → of_asks (cond c xs ys) ≡ us
either true xs ys us h g = h
either false xs ys us h g = g

plain_or_both : (b : Expr) (plain left right : List (ℕ × Need)) (us : List ℕ) → of_asks plain ≡ us → of_asks left ≡ us → of_asks right ≡ expr_params b
    → of_asks (cond (is_literal b) plain (left ++ right)) ≡ us ++ expr_params b
plain_or_both b plain left right us h g k = elim (cases_Bool (is_literal b)) [
  | inl i ↦ ap (λ c. of_asks (cond c plain (left ++ right))) i ∙ (h ∙ sym (ap (λ l. us ++ l) (no_params b i) ∙ append-nil us))
  | inr i ↦ ap (λ c. of_asks (cond c plain (left ++ right))) i ∙ both left right us (expr_params b) g k
]

quotient_asked : (b : Expr) (plain left right : List (ℕ × Need)) (us : List ℕ) → of_asks plain ≡ us → of_asks left ≡ us → of_asks right ≡ expr_params b
    → of_asks (quotient_asks b plain left right) ≡ us ++ expr_params b
quotient_asked (Param x) plain left right us h g k = both plain ((x, Divisor) ∷ []) us (x ∷ []) h refl
quotient_asked b plain left right us h g k = plain_or_both b plain left right us h g k

expr_asked : (e : Expr) (n : Bool) → of_asks (expr_asks e n) ≡ expr_params e
expr_asked (Add a b) n = both (expr_asks a n) (expr_asks b n) (expr_params a) (expr_params b) (expr_asked a n) (expr_asked b n)
expr_asked (Sub a b) n = both (expr_asks a n) (expr_asks b n) (expr_params a) (expr_params b) (expr_asked a n) (expr_asked b n)
expr_asked (Mul a b) n =
    either (is_literal a || is_literal b) (expr_asks a n ++ expr_asks b n) (expr_asks a true ++ expr_asks b true) (expr_params a ++ expr_params b)
    (both (expr_asks a n) (expr_asks b n) (expr_params a) (expr_params b) (expr_asked a n) (expr_asked b n))
    (both (expr_asks a true) (expr_asks b true) (expr_params a) (expr_params b) (expr_asked a true) (expr_asked b true))
expr_asked (DivDown a b) n = quotient_asked b (expr_asks a n) (expr_asks a true) (expr_asks b true) (expr_params a) (expr_asked a n) (expr_asked a true) (expr_asked b true)
expr_asked (DivUp a b) n = quotient_asked b (expr_asks a n) (expr_asks a true) (expr_asks b true) (expr_params a) (expr_asked a n) (expr_asked a true) (expr_asked b true)
expr_asked e n = refl

over_asked : (c : Expr) → of_asks (over_asks c) ≡ expr_params c
over_asked (Param x) = refl
over_asked c = expr_asked c false

-- Something is asked of the parameters, in their order.
pub range_asked : (r : Range) → of_asks (asks r) ≡ params r
range_asked (Span a b) = both (expr_asks a false) (expr_asks b false) (expr_params a) (expr_params b) (expr_asked a false) (expr_asked b false)
range_asked (One t) = expr_asked t false
range_asked (Dom y) = refl
range_asked (Union r q) = both (asks r) (asks q) (params r) (params q) (range_asked r) (range_asked q)
range_asked (Inter r q) = both (asks r) (asks q) (params r) (params q) (range_asked r) (range_asked q)
range_asked (Outside r) = range_asked r
range_asked (Plus r c) = both (asks r) (expr_asks c false) (params r) (expr_params c) (range_asked r) (expr_asked c false)
range_asked (Minus r c) = both (asks r) (expr_asks c false) (params r) (expr_params c) (range_asked r) (expr_asked c false)
range_asked (Times r c) = both (asks r) (expr_asks c false) (params r) (expr_params c) (range_asked r) (expr_asked c false)
range_asked (Over r c) = both (asks r) (over_asks c) (params r) (expr_params c) (range_asked r) (over_asked c)

-- What holds of each parameter holds of each of whom something is asked.
abbrev pub Asked : (ℕ → Type 0) → List (ℕ × Need) → Type 0
Asked P ds = Each (λ d. P d.0) ds

pub asked_params : (P : ℕ → Type 0) (r : Range) → Each P (params r) → Asked P (asks r)
asked_params P r h = each_of_map (λ d. d.0) P (asks r) (subst (Each P) (sym (range_asked r)) h)

-- Without parameters nothing is asked.
pub nothing_asked : (r : Range) → params r ≡ [] → asks r ≡ []
nothing_asked r e = none (asks r) (range_asked r ∙ e) where
  none : (ds : List (ℕ × Need)) → of_asks ds ≡ [] → ds ≡ []
  none [] h = refl
  none (d ∷ ds) h = absurd (cc)
