-- Whether two terms are identical, and pairs of cells that are still to be compared.
use Rattle.std.specs.Prelude.{◌≡◌, ℕ, ◌+◌, ◌<◌, ◌≤◌, Bool, true, false, List, [], ◌∷◌, ◌++◌, All}
use Rattle.term_pool.specs.Terms.{size}
use Rattle.fd_language.specs.Family.{Family}
use Rattle.fd_language.specs.Term.{Term}
use Rattle.heap_cells.specs.declared.Cell.{Cell}
use Rattle.heap_cells.specs.declared.Seen.{Seen}
use Rattle.heap_cells.specs.declared.Seen.TheVariants as seen
use Rattle.heap_cells.specs.Cells.{Cells, IsOf}
use Rattle.heap_cells.specs.Terms.{Naming, IsOneToOne}
use Rattle.builtin_calls.specs.declared.identity.Pair.{Pair}
use Rattle.builtin_calls.specs.declared.identity.Told.{Told}
use Rattle.builtin_calls.specs.declared.identity.Told.TheVariants.{Apart, Alike, Next}
use Rattle.heap_cells.specs.SeenTerms.{seen_term}
use Rattle.builtin_calls.specs.CellTops.{shown}
use Rattle.builtin_calls.specs.Evaluations.{unnamed}

-- the answer tells whether the terms of two cells are identical, where no two atoms have one name
abbrev pub TellsIdentical : Cells → Family → Cell → Cell → Bool → Type 0
TellsIdentical h G a b true = (name : Naming) → seen_term name h G a ≡ seen_term name h G b
TellsIdentical h G a b false = (name : Naming) → IsOneToOne name → seen_term name h G a ≡ seen_term name h G b → ⊥

-- the same of what is seen at two cells, whatever the terms of cells are
abbrev pub TellsShown : Seen → Seen → Bool → Type 0
TellsShown x y true = (name : Naming) (by : Cell → Term) → shown name by x ≡ shown name by y
TellsShown x y false = (name : Naming) → IsOneToOne name → (by : Cell → Term) → shown name by x ≡ shown name by y → ⊥

-- no compound term
abbrev pub IsFlat : Seen → Type 0
IsFlat (seen.Open i) = Unit {0}
IsFlat (seen.Constrained i k) = Unit {0}
IsFlat (seen.Int z) = Unit {0}
IsFlat (seen.Atom a) = Unit {0}
IsFlat (seen.Struct f args) = ⊥

abbrev pub IsOwnPair : Cells → Pair → Type 0
IsOwnPair h p = IsOf h p.left × IsOf h p.right

abbrev pub IsEqualPair : Naming → Cells → Family → Pair → Type 0
IsEqualPair name h G p = seen_term name h G p.left ≡ seen_term name h G p.right

-- the sizes of the terms on the left together
abbrev pub weight : (Cell → Term) → List Pair → ℕ
weight by [] = 0
weight by (p ∷ ps) = size (by p.left) + weight by ps

-- the pairs of two lists of cells
abbrev pub paired : List Cell → List Cell → List Pair
paired [] ds = []
paired (c ∷ cs) [] = []
paired (c ∷ cs) (d ∷ ds) = record { left = c; right = d } ∷ paired cs ds

-- the pairs of the one list are equal exactly where those of the other are, and there is less to compare
pub record IsReduced (h : Cells) (G : Family) (old new : List Pair) : Type 0 where
  pub forth : (name : Naming) → All (IsEqualPair name h G) old → All (IsEqualPair name h G) new
  pub back : (name : Naming) → All (IsEqualPair name h G) new → All (IsEqualPair name h G) old
  pub own : All (IsOwnPair h) old → All (IsOwnPair h) new
  pub falls : weight (seen_term unnamed h G) new < weight (seen_term unnamed h G) old

-- the pairs of the one list are equal exactly where those of the other are, and there is no more to compare
pub record IsSettled (h : Cells) (G : Family) (old new : List Pair) : Type 0 where
  pub forth : (name : Naming) → All (IsEqualPair name h G) old → All (IsEqualPair name h G) new
  pub back : (name : Naming) → All (IsEqualPair name h G) new → All (IsEqualPair name h G) old
  pub own : All (IsOwnPair h) old → All (IsOwnPair h) new
  pub lighter : weight (seen_term unnamed h G) new ≤ weight (seen_term unnamed h G) old

-- the pair's terms are identical if those of the new pairs are, or they are not
abbrev pub TellsPair : Cells → Family → List Pair → Pair → List Pair → Told → Type 0
TellsPair h G old p new Apart = TellsIdentical h G p.left p.right false
TellsPair h G old p new Alike = IsReduced h G (old ++ p ∷ []) new
TellsPair h G old p new (Next q) = IsReduced h G (old ++ p ∷ []) (new ++ q ∷ [])
