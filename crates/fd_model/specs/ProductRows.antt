-- Products of two variables, and their ranges.
use Rattle.std.specs.Prelude.{ℕ, if◌then◌else◌, List, [], ◌∷◌, codes, Option, Some, None}
use Rattle.std.specs.Option.{option_or}
use Rattle.std.specs.Str.{bytes_eq}
use Rattle.fd_model.specs.declared.kinds.Relation.{Relation}
use Rattle.fd_model.specs.declared.kinds.Relation.TheVariants.{Equal}
use Rattle.fd_language.specs.Term.{Term, Var, Int, Comp, no_terms, term}
use Rattle.fd_language.specs.Range.{Range, Span, Min, Max, Mul, DivDown, DivUp, Indexical}
use Rattle.fd_model.specs.Members.{Member, Open, Known}

-- The product form: two variables, and a variable or an integer that is their product.
pub record Product : Type 0 where
  pub left : ℕ
  pub right : ℕ
  pub result : Member

-- the variables of a product of two
abbrev pub factors : Term → Option (ℕ × ℕ)
factors (Comp f (term (Var x) (term (Var y) no_terms))) = if bytes_eq f (codes "*") then Some (x, y) else None
factors _ = None

abbrev pub with_result : Option (ℕ × ℕ) → Term → Option Product
with_result None t = None
with_result (Some p) (Var z) = Some (record { left = p.0; right = p.1; result = Open z })
with_result (Some p) (Int z) = Some (record { left = p.0; right = p.1; result = Known z })
with_result (Some p) _ = None

-- `A*B #= C` and `C #= A*B`, where A and B are variables and C is a variable or an integer
abbrev pub product_form : Relation → Term → Term → Option Product
product_form Equal s t = option_or (with_result (factors s) t) (with_result (factors t) s)
product_form _ s t = None

-- from the least product to the greatest
abbrev pub product : ℕ → ℕ → Range
product x y = Span (Mul (Min x) (Min y)) (Mul (Max x) (Max y))

-- what times y may be z
abbrev pub quotient : ℕ → ℕ → Range
quotient z y = Span (DivUp (Min z) (Max y)) (DivDown (Max z) (Min y))

-- x times y is z
abbrev pub product_ranges : ℕ → ℕ → ℕ → List Indexical
product_ranges x y z =
    record { target = z; range = product x y }
    ∷ record { target = x; range = quotient z y }
    ∷ record { target = y; range = quotient z x }
    ∷ []
