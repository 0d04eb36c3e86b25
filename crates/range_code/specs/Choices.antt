-- Ranges whose numbers are chosen by their keys.
use Rattle.std.specs.Prelude.{◌≡◌, ℕ, ◌≤◌, Bool, ◌||◌, ◌&&◌, ◌==◌, ℤ, pos, List, [], ◌∷◌, filter}
use Rattle.std.specs.List.{All, list_any}
use Rattle.std.specs.List.Sorted.{IsNonDecreasingBy}
use Rattle.fd_language.specs.declared.range_node.RangeNode.{RangeNode}
use Rattle.fd_language.specs.declared.TheConstants.{INFINITY}
use Rattle.fd_language.specs.Family.{Family, has, universe}
use Rattle.domain_ranges.specs.Spans.{Span}
use Rattle.fd_language.specs.Range.{Range, One, Dom, Inter, Times, Plus, Number, in_range}
use Rattle.fd_language.specs.Check.{fill_range}
use Rattle.fd_language.specs.PostfixRanges.{nodes_of, built}
use Rattle.range_code.specs.declared.frame.Arg.{Arg}
use Rattle.range_code.specs.declared.choice.Choice.{Choice}
use Rattle.range_code.specs.declared.choice.Part.{Part}
use Rattle.range_code.specs.Nodes.{IsSeen, IsReadable}
use Rattle.range_code.specs.Work.{filled_set}

-- the number alone, where the key is in the slot's set, and else nothing
abbrev pub part_range : Part → Range
part_range m = Plus (Times (Inter (One (Number m.key)) (Dom m.slot)) (Number (pos 0))) (Number m.number)

-- whether the number is that of a pair whose key is in the set
abbrev pub is_chosen : List ℕ → List (ℕ × ℕ) → ℕ → Bool
is_chosen s ds n = list_any (λ d. has s d.0 && (d.1 == n)) ds

-- the members of a set that are chosen
abbrev pub left_chosen : List ℕ → List ℕ → List (ℕ × ℕ) → List ℕ
left_chosen t s ds = filter (λ n. has t n && is_chosen s ds n) (universe INFINITY)

-- the first interval, if there is one, doesn't end below the number
abbrev pub IsFromNumber : ℕ → List Span → Type 0
IsFromNumber n [] = Unit {0}
IsFromNumber n (s ∷ ss) = n ≤ s.1

-- the numbers don't fall
abbrev pub AreRising : List (ℕ × ℕ) → Type 0
AreRising ds = IsNonDecreasingBy (λ d. d.1) ds

-- whether the number is in the range, where parameters have their integers
abbrev pub is_in : Family → (ℕ → ℤ) → Range → ℕ → Bool
is_in S p r n = in_range INFINITY S (fill_range p r) n

-- the range has the numbers that the slot's set chooses
pub record IsChoice (r : Range) (c : Choice) : Type 0 where
  pub set : (S : Family) (p : ℕ → ℤ) → filled_set S p r ≡ filter (is_chosen (S c.slot) c.pairs.items) (universe INFINITY)
  pub high : All (λ d. d.1 ≤ INFINITY) c.pairs.items
  pub rising : AreRising c.pairs.items
  pub seen : (count : ℕ) (args : List Arg) → All (IsReadable count args) (nodes_of r) → IsSeen count args c.slot

-- with the new pairs the part's number may be chosen too
pub record IsPairAdded (m : Part) (old new : List (ℕ × ℕ)) : Type 0 where
  pub same : (S : Family) (p : ℕ → ℤ) (n : ℕ) → n ≤ INFINITY → is_chosen (S m.slot) new n ≡ (is_chosen (S m.slot) old n || is_in S p (part_range m) n)
  pub high : All (λ d. d.1 ≤ INFINITY) old → All (λ d. d.1 ≤ INFINITY) new

-- the first nodes are a range whose numbers the slot's set chooses
pub record IsChoosing (ns : List RangeNode) (slot : ℕ) (ds : List (ℕ × ℕ)) (rest : List RangeNode) : Type 0 where
  pub range : Range
  pub nodes : built ns [] [] ≡ built rest (range ∷ []) []
  pub same : (S : Family) (p : ℕ → ℤ) (n : ℕ) → n ≤ INFINITY → is_in S p range n ≡ is_chosen (S slot) ds n
  pub high : All (λ d. d.1 ≤ INFINITY) ds
  pub seen : (count : ℕ) (args : List Arg) → All (IsReadable count args) ns → IsSeen count args slot
