-- The ranges of a linear form.
use Rattle.std.specs.Prelude.{ℕ, suc, Bool, true, false, not, if◌then◌else◌, ℤ, pos, negsuc, neg_ℤ, int_le, List, [], ◌∷◌, ◌++◌}
use Rattle.std.specs.Ordering.{int_eq}
use Rattle.fd_language.specs.Range.{Range, Span, Outside, Expr, Number, Infinity, Min, Max, Val, Sub, Mul, DivDown, DivUp, Indexical}
use Rattle.fd_model.specs.Linear.{Comparison, IsEqual, IsOther, IsAtMost, scaled}

-- What a constraint becomes: fresh variables equated with integers, the posted ranges, and the next fresh number.
pub record Expansion : Type 0 where
  pub equated : List (ℕ × ℤ)
  pub ranges : List Indexical
  pub fresh : ℕ

-- e less the products, where each variable is read by the sign of its coefficient
abbrev pub by_sign : (ℕ → Expr) → (ℕ → Expr) → ℕ → ℤ → Expr
by_sign f g x (pos n) = f x
by_sign f g x (negsuc n) = g x

abbrev pub minus_products : (ℕ → Expr) → (ℕ → Expr) → Expr → List (ℕ × ℤ) → Expr
minus_products f g e [] = e
minus_products f g e (t ∷ ts) = minus_products f g (Sub e (Mul (Number t.1) (by_sign f g t.0 t.1))) ts

-- the least, the greatest and the known value of the constant less the products
abbrev pub low : ℤ → List (ℕ × ℤ) → Expr
low c ts = minus_products Max Min (Number c) ts

abbrev pub high : ℤ → List (ℕ × ℤ) → Expr
high c ts = minus_products Min Max (Number c) ts

abbrev pub exact : ℤ → List (ℕ × ℤ) → Expr
exact c ts = minus_products Val Val (Number c) ts

-- The range on a variable with the coefficient a of at least 1, where ts are the other products. At true the form was turned.
abbrev pub row : Comparison → Bool → ℤ → List (ℕ × ℤ) → ℕ → Range
row IsEqual turn c ts a = Span (DivUp (low c ts) (Number (pos a))) (DivDown (high c ts) (Number (pos a)))
row IsOther turn c ts a = Outside (Span (DivUp (exact c ts) (Number (pos a))) (DivDown (exact c ts) (Number (pos a))))
row IsAtMost false c ts a = Span (Number (pos 0)) (DivDown (high c ts) (Number (pos a)))
row IsAtMost true c ts a = Span (DivUp (low c ts) (Number (pos a))) Infinity

-- a form with a coefficient below 0 is turned
abbrev pub row_by_sign : Comparison → ℤ → List (ℕ × ℤ) → ℤ → Range
row_by_sign k c ts (pos a) = row k false c ts a
row_by_sign k c ts (negsuc a) = row k true (neg_ℤ c) (scaled (negsuc 0) ts) (suc a)

-- the rows of ts, behind the products before
abbrev pub rows_behind : Comparison → ℤ → List (ℕ × ℤ) → List (ℕ × ℤ) → List Indexical
rows_behind k c before [] = []
rows_behind k c before (t ∷ ts) = record { target = t.0; range = row_by_sign k c (before ++ ts) t.1 } ∷ rows_behind k c (before ++ t ∷ []) ts

-- whether s compares so to c
abbrev pub compares : Comparison → ℤ → ℤ → Bool
compares IsEqual s c = int_eq s c
compares IsOther s c = not (int_eq s c)
compares IsAtMost s c = int_le s c

-- no number
abbrev pub no_number : Range
no_number = Span (Number (pos 1)) (Number (pos 0))

-- Without variables a form is true, or an added variable has no value.
abbrev pub linear_rows : Comparison → List (ℕ × ℤ) → ℤ → ℕ → Expansion
linear_rows k [] c n =
    if compares k (pos 0) c then record { equated = []; ranges = []; fresh = n } else
    record { equated = []; ranges = record { target = n; range = no_number } ∷ []; fresh = suc n }
linear_rows k (t ∷ ts) c n = record { equated = []; ranges = rows_behind k c [] (t ∷ ts); fresh = n }
