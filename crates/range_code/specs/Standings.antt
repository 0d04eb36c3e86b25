-- How the variables of a range stand before it is evaluated.
use Rattle.std.specs.Prelude.{ℕ, Bool, ◌&&◌, if◌then◌else◌, List, [], ◌∷◌}
use Rattle.std.specs.List.{list_any}
use Rattle.fd_language.specs.declared.range_node.Feature.{Feature}
use Rattle.fd_language.specs.declared.TheConstants.{INFINITY}
use Rattle.fd_language.specs.Family.{Family, IsRising}
use Rattle.fd_language.specs.Features.{is_val}
use Rattle.fd_language.specs.Range.{is_none_left, is_several}
use Rattle.range_code.specs.declared.frame.Arg.{Arg}
use Rattle.range_code.specs.declared.frame.Standing.{Standing}
use Rattle.range_code.specs.declared.frame.Standing.TheVariants.{Empty, Open, Settled}
use Rattle.range_code.specs.declared.instr.RangeInstr.{RangeInstr}
use Rattle.range_code.specs.declared.instr.RangeInstr.TheVariants as instr
use Rattle.range_code.specs.Nodes.{IsSeen}

-- a val of a set of several members
abbrev pub opens : Family → ℕ × Feature → Bool
opens S d = is_val d.1 && is_several (S d.0)

-- an empty set comes before an open val
abbrev pub standing_of : Family → List (ℕ × Feature) → Standing
standing_of S ds =
    if list_any (λ d. is_none_left (S d.0)) ds then Empty else
    if list_any (opens S) ds then Open else Settled

-- what tests say: the first that doesn't pass
abbrev pub tested : Family → List RangeInstr → Standing
tested S [] = Settled
tested S (instr.NeedSome s ∷ is) = if is_none_left (S s) then Empty else tested S is
tested S (instr.NeedFixed s ∷ is) = if is_several (S s) then Open else tested S is
tested S (i ∷ is) = tested S is

-- the slot of a test has an argument, and its variable is one of so many
abbrev pub IsTestSeen : ℕ → List Arg → RangeInstr → Type 0
IsTestSeen count args (instr.NeedSome s) = IsSeen count args s
IsTestSeen count args (instr.NeedFixed s) = IsSeen count args s
IsTestSeen count args i = Unit {0}

-- the set of a test that some member is there
abbrev pub TestRises : Family → RangeInstr → Type 0
TestRises S (instr.NeedSome s) = IsRising 0 INFINITY (S s)
TestRises S i = Unit {0}
