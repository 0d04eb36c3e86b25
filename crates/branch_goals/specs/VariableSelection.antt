-- The member that a labelling takes of a list, as the list is walked.
use Rattle.std.specs.Prelude.{◌≡◌, ℕ, ◌<◌, Bool, true, false, nat_lt, List, length, Option, Some, None, Result, Ok, Err}
use Rattle.fd_language.specs.Family.{universe}
use Rattle.fd_model.specs.declared.kinds.Order.{Order}
use Rattle.fd_model.specs.declared.kinds.Order.TheVariants.{Leftmost, FirstFail}
use Rattle.fd_model.specs.declared.kinds.QueryFault.{QueryFault}
use Rattle.fd_model.specs.Labelling.{read_list, pick}
use Rattle.fd_model.specs.Members as seen
use Rattle.heap_cells.specs.declared.Cell.{Cell}
use Rattle.heap_cells.specs.Cells.{Cells, IsOf}
use Rattle.heap_cells.specs.SeenTerms.{seen_term}
use Rattle.heap_cells.specs.Terms.{Naming}
use Rattle.label_search.specs.declared.Member.{Member}
use Rattle.label_search.specs.declared.Member.TheVariants.{Fixed, Var, Free}
use Rattle.branch_lemmas.specs.Frames.{link_in}
use Rattle.range_code.specs.Frames.{family_of}
use Rattle.branch_goals.specs.declared.variable_selection.Taken.{Taken}
use Rattle.branch_goals.specs.Lists.{IsMemberAt}

-- how many values an open member has, where N is the greatest number of a variable
abbrev pub open_count : ℕ → List (List ℕ) → Member → Option ℕ
open_count N sets (Fixed z) = None
open_count N sets (Var k) = Some (length (family_of sets k))
open_count N sets Free = Some (length (universe N))

-- whether a member with so many values is taken in place of the one before
abbrev pub betters : Order → Option Taken → ℕ → Bool
betters o None n = true
betters Leftmost (Some t) n = false
betters FirstFail (Some t) n = nat_lt n t.count

-- Each open variable of the heap has as many values as its set, and all up to N where the store doesn't have it.
pub record HaveCounts (N : ℕ) (h : Cells) (sets : List (List ℕ)) (values : ℕ → List ℕ) : Type 0 where
  pub linked : (i k : ℕ) → link_in h i ≡ Some k → 1 < length (family_of sets k)
      → length (values i) ≡ length (family_of sets k)
  pub free : (i : ℕ) → link_in h i ≡ None → length (values i) ≡ length (universe N)

-- the variable that is picked of the members is in the cell, and has so many values
pub record IsTakenOf (name : Naming) (h : Cells) (sets : List (List ℕ)) (values : ℕ → List ℕ)
    (o : Order) (ss : List seen.Member) (t : Taken) : Type 0 where
  pub variable : ℕ
  pub picked : pick o values ss ≡ Some variable
  pub own : IsOf h t.cell
  pub member : Member
  pub at : IsMemberAt name h sets t.cell member (seen.Open variable)
  pub count : length (values variable) ≡ t.count

-- the same, and nothing is taken where none is picked
abbrev pub IsTaken : Naming → Cells → List (List ℕ) → (ℕ → List ℕ) → Order
    → List seen.Member → Option Taken → Type 0
IsTaken name h sets values o ss None = pick o values ss ≡ None
IsTaken name h sets values o ss (Some t) = IsTakenOf name h sets values o ss t

-- what is taken of the members, whatever the values are of which there are so many
abbrev pub Takes : ℕ → Naming → Cells → List (List ℕ) → Order → List seen.Member → Option Taken → Type 0
Takes N name h sets o ss t = (values : ℕ → List ℕ) → HaveCounts N h sets values
    → IsTaken name h sets values o ss t

-- what is taken of the list in a cell, or its fault
abbrev pub IsFound : ℕ → Naming → Cells → List (List ℕ) → Order → Cell
    → Result (Option Taken) QueryFault → Type 0
IsFound N name h sets o c (Err f) = read_list (seen_term name h (family_of sets) c) ≡ Err f
IsFound N name h sets o c (Ok t) = (ss : List seen.Member)
    × (read_list (seen_term name h (family_of sets) c) ≡ Ok ss) × Takes N name h sets o ss t
