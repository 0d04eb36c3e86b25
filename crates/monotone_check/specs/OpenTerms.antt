-- What is asked of the parameters of the ranges and terms that wait for their operators.
use Rattle.std.specs.Prelude.{◌≡◌, ℕ, List, [], ◌∷◌, ◌++◌, length, drop, false, Option, Some, None}
use Rattle.fd_language.specs.declared.range_node.Need.{Need}
use Rattle.fd_language.specs.declared.range_node.RangeNode.{RangeNode}
use Rattle.fd_language.specs.Range.{Range, Expr}
use Rattle.fd_language.specs.Needs.{is_literal, expr_asks, asks}
use Rattle.fd_language.specs.Check.{is_parameter}
use Rattle.fd_language.specs.PostfixRanges.{built, spelled_range}
use Rattle.monotone_check.specs.declared.parameter_asks.OpenTerm.{OpenTerm}
use Rattle.monotone_check.specs.declared.parameter_asks.AskReader.{AskReader}
use Rattle.monotone_check.specs.PlaceNeeds.{asks_now}

-- the terms, the last one first; before them so much is asked, and with them so much
abbrev pub AreOpen : List Expr → List OpenTerm → List (ℕ × Need) → List (ℕ × Need) → Type 0
AreOpen [] items before now = (items ≡ []) × (now ≡ before)
AreOpen (t ∷ ts) items before now = (front : List OpenTerm) × (s : OpenTerm) × (mid : List (ℕ × Need)) × (items ≡ front ++ s ∷ []) × (now ≡ mid ++ expr_asks t false)
    × (s.from ≡ length mid) × (s.literal ≡ is_literal t) × (s.parameter ≡ is_parameter t) × AreOpen ts front before mid

-- what is asked in the ranges, the last one first
abbrev pub all_asks : List Range → List (ℕ × Need)
all_asks [] = []
all_asks (r ∷ rs) = all_asks rs ++ asks r

abbrev pub IsAsking : List Range → List Expr → AskReader → Type 0
IsAsking rs ts q = AreOpen ts q.terms.items (all_asks rs) (asks_now q)

abbrev pub FollowsAsking : List RangeNode → Option Range → AskReader → Type 0
FollowsAsking ns None q = Unit {0}
FollowsAsking ns (Some r) q = (rs : List Range) × (ts : List Expr) × (Some r ≡ built ns rs ts) × IsAsking rs ts q

abbrev pub TakesAsks : RangeNode → AskReader → AskReader → Type 0
TakesAsks m old new = (ns : List RangeNode) (rs : List Range) (ts : List Expr) → IsAsking rs ts old → FollowsAsking ns (built (m ∷ ns) rs ts) new

-- the nodes from the number n on build the range on top of what waits
abbrev pub IsAskedSoFar : ℕ → List RangeNode → AskReader → Type 0
IsAskedSoFar n nodes q = (rs : List Range) × (ts : List Expr) × (Some (spelled_range nodes) ≡ built (drop n nodes) rs ts) × IsAsking rs ts q
