-- A set of the current store intersected with another one.
use Rattle.std.specs.Prelude.{◌≡◌, ℕ, ◌<◌, false, pos, List, [], filter, length, slice_set, slice_index_or}
use Rattle.fd_language.specs.declared.TheConstants.{INFINITY}
use Rattle.fd_language.specs.Family.{has, universe, IsSubset}
use Rattle.fd_language.specs.Range.{is_none_left}
use Rattle.domain_ranges.specs.Narrowing.{all_but, AreEnds}
use Rattle.domain_trail.specs.Stores.{Stores}
use Rattle.domain_trail.specs.declared.Cut.{Cut}
use Rattle.domain_trail.specs.declared.Cut.TheVariants.{Same, Empty, Changed}

abbrev pub set_at : Stores → ℕ → List ℕ
set_at s k = slice_index_or s.current k (universe INFINITY)

-- all is left, nothing would be, or fewer members are, with the ends before and after
abbrev pub IsCut : List ℕ → ℕ → Stores → Stores → Cut → Type 0
IsCut set k old new Same = (new ≡ old) × IsSubset (set_at old k) set
IsCut set k old new Empty = (new ≡ old) × (filter (has set) (set_at old k) ≡ [])
IsCut set k old new (Changed before after) =
    (new ≡ record old { current = slice_set old.current k (filter (has set) (set_at old k)) })
    × (length (filter (has set) (set_at old k)) < length (set_at old k))
    × AreEnds before (set_at old k)
    × AreEnds after (filter (has set) (set_at old k))

-- a set of the current store has lost a number, and isn't empty
abbrev pub IsWithout : ℕ → ℕ → Stores → Stores → Type 0
IsWithout k n old new =
    (new ≡ record old { current = slice_set old.current k (filter (has (all_but (pos n))) (set_at old k)) })
    × (is_none_left (filter (has (all_but (pos n))) (set_at old k)) ≡ false)
