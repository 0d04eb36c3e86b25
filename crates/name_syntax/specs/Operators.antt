-- The code's operators as those of the language.
use Rattle.std.specs.Prelude.{◌≡◌, Bool, true, ◌&&◌, List, [], ◌∷◌, map, option_map}
use Rattle.std.specs.Cmp.Lexicographic.{slice_cmp}
use Rattle.std.specs.List.{list_all, list_any}
use Rattle.std.specs.Ordering.{nat_cmp, is_lt}
use Rattle.std.specs.Str.{bytes_eq}
use Rattle.fd_language.specs.Term.{Name}
use Rattle.fd_language.specs.Operators as language
use Rattle.fd_language.specs.Operators.{operator_row, infix_of, prefix_of, infix_operators, prefix_operators}
use Rattle.name_syntax.specs.declared.operators.Fixity.{Fixity}
use Rattle.name_syntax.specs.declared.operators.Fixity.TheVariants.{NotAssociative, RightAssociative, LeftAssociative, PrefixAssociative, PrefixNotAssociative}
use Rattle.name_syntax.specs.declared.operators.Operator.{Operator}
use Rattle.name_syntax.specs.declared.operators.Row.{Row}

abbrev pub fixity_of : Fixity → language.Fixity
fixity_of NotAssociative = language.not_associative
fixity_of RightAssociative = language.right_associative
fixity_of LeftAssociative = language.left_associative
fixity_of PrefixAssociative = language.prefix_associative
fixity_of PrefixNotAssociative = language.prefix_not_associative

-- the operator of this name
abbrev pub operator_of : Name → Operator → language.Operator
operator_of name f = operator_row f.priority (fixity_of f.fixity) name

-- the operator of no name, for what does not ask for it
abbrev pub nameless : Operator → language.Operator
nameless f = operator_of [] f

-- ---- the rows of the code's table

abbrev pub name_of : Row → Name
name_of r = r.name.now

-- a row has this name
abbrev pub is_named : Name → Row → Bool
is_named name r = bytes_eq r.name.now name

-- each row's name is before the next one's
abbrev pub rise : List Row → Bool
rise [] = true
rise (r ∷ []) = true
rise (r ∷ s ∷ rs) = is_lt (slice_cmp nat_cmp r.name.now s.name.now) && rise (s ∷ rs)

-- there is a row for each of the operators
abbrev pub have_all : List language.Operator → List Row → Bool
have_all fs rs = list_all (λ f. list_any (is_named f.name) rs) fs

-- The rows stand by their names, and are those of the language.
pub record AreRows (rs : List Row) : Type 0 where
  pub ordered : rise rs ≡ true
  pub between : map (λ r. option_map (operator_of (name_of r)) r.roles.infix) rs ≡ map (λ r. infix_of (name_of r)) rs
  pub before : map (λ r. option_map (operator_of (name_of r)) r.roles.prefix) rs ≡ map (λ r. prefix_of (name_of r)) rs
  pub all_between : have_all infix_operators rs ≡ true
  pub all_before : have_all prefix_operators rs ≡ true
