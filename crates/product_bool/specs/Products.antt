-- How a product form is found.
use Rattle.std.specs.Prelude.{◌≡◌, ℕ, Option, Some, None, MatchOption}
use Rattle.fd_language.specs.Term.{Term, Var}
use Rattle.fd_model.specs.ProductRows as rows
use Rattle.product_bool.specs.declared.products.Product.{Product}
use Rattle.product_bool.specs.Members.{member_of}

-- the variable that a term is
abbrev pub variable_at : Term → Option ℕ
variable_at (Var x) = Some x
variable_at _ = None

abbrev pub product_at : Product → rows.Product
product_at p = record { left = p.left; right = p.right; result = member_of p.result }

-- the form of the definition, if there is one
abbrev pub FindsForm : Option rows.Product → Option Product → Type 0
FindsForm d r = MatchOption r (d ≡ None) (λ p. d ≡ Some (product_at p))
