-- A term by its name and its parts.
use Rattle.std.specs.Prelude.{ℤ, Bool, true, false, Option, Some, None}
use Rattle.fd_language.specs.Term.{Name}
use Rattle.fd_language.specs.PlacedTerm.{PlacedTerm, var, int, atom, comp, no_parts, part}

-- a compound term of one part, one of two parts, and any other term
pub data TermParts : Type 0 where
  one : Name → PlacedTerm → TermParts
  two : Name → PlacedTerm → PlacedTerm → TermParts
  other : TermParts

abbrev pub parts_of : PlacedTerm → TermParts
parts_of (comp f p (part a no_parts)) = one f a
parts_of (comp f p (part a (part b no_parts))) = two f a b
parts_of t = other

-- the integer that the term is, if it is one
abbrev pub integer_of : PlacedTerm → Option ℤ
integer_of (var x p) = None
integer_of (int z p) = Some z
integer_of (atom a p) = None
integer_of (comp f p ts) = None

abbrev pub is_variable : PlacedTerm → Bool
is_variable (var x p) = true
is_variable (int z p) = false
is_variable (atom a p) = false
is_variable (comp f p ts) = false
