-- The members of a list, all of them integers and variables of the store.
use Rattle.std.specs.Prelude.{ℕ, ◌<◌, Bool, true, false, ℤ, pos, List, map, Option, Some, None, All}
use Rattle.fd_language.specs.Family.{Family}
use Rattle.fd_language.specs.Range.{least, greatest}
use Rattle.fd_model.specs.Members as seen
use Rattle.fd_model.specs.Leaves.{IsBetter, IsAsGood}
use Rattle.label_search.specs.declared.Member.{Member}
use Rattle.label_search.specs.declared.Member.TheVariants.{Fixed, Var, Free}

-- an integer, or one of the first n variables
abbrev pub IsOwn : ℕ → Member → Type 0
IsOwn n (Fixed z) = Unit {0}
IsOwn n (Var k) = k < n
IsOwn n Free = ⊥

abbrev pub AreOwn : ℕ → List Member → Type 0
AreOwn n list = All (IsOwn n) list

-- the member of a labelling that it is; one that the store doesn't have is none of its own
abbrev pub member_of : Member → seen.Member
member_of (Fixed z) = seen.Known z
member_of (Var k) = seen.Open k
member_of Free = seen.Known (pos 0)

abbrev pub members_of : List Member → List seen.Member
members_of list = map member_of list

-- the best value that sets leave to the cost: the least, or the greatest
abbrev pub bound : Bool → Family → seen.Member → ℤ
bound wanted D (seen.Known z) = z
bound true D (seen.Open x) = pos (least (D x))
bound false D (seen.Open x) = pos (greatest (D x))

-- a leaf with this cost is better than the best so far, and no better
abbrev pub Improves : Bool → ℤ → Option ℤ → Type 0
Improves wanted z None = Unit {0}
Improves wanted z (Some w) = IsBetter wanted z w

abbrev pub IsNoBetter : Bool → ℤ → Option ℤ → Type 0
IsNoBetter wanted z None = ⊥
IsNoBetter wanted z (Some w) = IsAsGood wanted w z
