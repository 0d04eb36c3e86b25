-- A greatest number of variables, as ranges beside those that a store had.
use Rattle.std.specs.Prelude.{◌≡◌, ℕ, List, [], ◌∷◌, ◌++◌}
use Rattle.std.specs.List.Sorted.{IsPermutation}
use Rattle.fd_language.specs.Range.{Indexical}
use Rattle.fd_model.specs.Answers.{Somewhere}
use Rattle.fd_model.specs.Bounds.{bound}

-- the range x in 0..N is one of the list
abbrev pub IsBounded : ℕ → List Indexical → ℕ → Type 0
IsBounded N qs x = Somewhere (λ q. q ≡ bound N x) qs

-- each range is x in 0..N of some variable x
abbrev pub AreBounds : ℕ → List Indexical → Type 0
AreBounds N [] = Unit {0}
AreBounds N (q ∷ qs) = ((x : ℕ) × (q ≡ bound N x)) × AreBounds N qs

-- the second list has the ranges of the first and such ranges, in whatever order
abbrev pub IsBoundedMore : ℕ → List Indexical → List Indexical → Type 0
IsBoundedMore N qs now = (bs : List Indexical) × AreBounds N bs × IsPermutation now (qs ++ bs)
