-- The arguments of a range, one for each slot, and the range that they make of it.
use Rattle.std.specs.Prelude.{ℕ, ◌<◌, IsTrue, ℤ, pos, List, [], ◌∷◌, slice_index_or, Option, Some, None}
use Rattle.fd_language.specs.declared.range_node.Need.{Need}
use Rattle.fd_language.specs.Family.{Family}
use Rattle.fd_language.specs.Range.{Range}
use Rattle.fd_language.specs.Needs.{meets}
use Rattle.fd_language.specs.Check.{fill_range}
use Rattle.fd_language.specs.RangeRenaming.{rename_range}
pub use Rattle.domain_ranges.specs.Views.{family_of}
use Rattle.range_code.specs.declared.frame.Arg.{Arg}
use Rattle.range_code.specs.declared.frame.Arg.TheVariants.{Var, Int}
use Rattle.range_code.specs.Slots.{slot_of, slot_needs}

-- an integer that meets the need of a parameter, or one of so many variables
abbrev pub IsArg : ℕ → Option Need → Arg → Type 0
IsArg count (Some need) (Int z) = IsTrue (meets need z)
IsArg count None (Var k) = k < count
IsArg count need a = ⊥

abbrev pub AreArgs : ℕ → List (Option Need) → List Arg → Type 0
AreArgs count [] [] = Unit {0}
AreArgs count (n ∷ ns) (a ∷ as') = IsArg count n a × AreArgs count ns as'
AreArgs count ns as' = ⊥

-- one argument for each slot of the range
abbrev pub IsArgumentFrame : ℕ → Range → List Arg → Type 0
IsArgumentFrame count r args = AreArgs count (slot_needs r) args

abbrev pub variable_of : Arg → ℕ
variable_of (Var k) = k
variable_of (Int z) = 0

abbrev pub arg_integer : Arg → ℤ
arg_integer (Var k) = pos 0
arg_integer (Int z) = z

-- the argument of a slot
abbrev pub arg_at : List Arg → ℕ → Arg
arg_at args slot = slice_index_or args slot (Int (pos 0))

abbrev pub slot_variable : List Arg → ℕ → ℕ
slot_variable args slot = variable_of (arg_at args slot)

abbrev pub slot_integer : List Arg → ℕ → ℤ
slot_integer args slot = arg_integer (arg_at args slot)

abbrev pub slot_set : List (List ℕ) → List Arg → Family
slot_set sets args slot = family_of sets (slot_variable args slot)

-- The range that is posted: each parameter is replaced by its integer, and each other variable by that of its slot.
abbrev pub posted : Range → List Arg → Range
posted r args = rename_range (λ y. slot_variable args (slot_of r y)) (fill_range (λ y. slot_integer args (slot_of r y)) r)
