-- The bounds that are posted for new variables of the store.
use Rattle.std.specs.Prelude.{ℕ, zero, suc, ◌+◌, ◌-◌, ◌==◌, length, if◌then◌else◌, pos, List, [], ◌∷◌, ◌++◌}
use Rattle.std.specs.List.Sorted.{IsPermutation}
use Rattle.fd_language.specs.declared.TheConstants.{INFINITY}
use Rattle.fd_language.specs.Range.{Indexical}
use Rattle.fd_model.specs.Bounds.{bound}
use Rattle.fd_model.specs.Levels.{Level}
use Rattle.range_code.specs.declared.frame.Arg.TheVariants as arg
use Rattle.propagate_queue.specs.Postings.{Posting}
use Rattle.branch_state.specs.Codes.{bound_range}

abbrev pub bound_posting : ℕ → ℕ → Posting
bound_posting N k = record { range = bound_range; target = k; args = arg.Int (pos N) ∷ [] }

-- the bounds of so many variables from `first` on, as they are posted
abbrev pub bound_postings : ℕ → ℕ → ℕ → List Posting
bound_postings N first zero = []
bound_postings N first (suc n) = bound_postings N first n ++ bound_posting N (first + n) ∷ []

-- and as ranges
abbrev pub bounds_from : ℕ → ℕ → ℕ → List Indexical
bounds_from N first zero = []
bounds_from N first (suc n) = bounds_from N first n ++ bound N (first + n) ∷ []

-- None are posted where a variable may have each number of the universe.
abbrev pub new_postings : ℕ → ℕ → ℕ → List Posting
new_postings N first n = if N == INFINITY then [] else bound_postings N first n

abbrev pub new_bounds : ℕ → ℕ → ℕ → List Indexical
new_bounds N first n = if N == INFINITY then [] else bounds_from N first n

-- A level's ranges are qs and the bounds of the variables that it has more than an old one, in whatever order.
abbrev pub PostsBounds : ℕ → Level → List Indexical → Level → Type 0
PostsBounds N old qs new = IsPermutation new.posted
    (qs ++ new_bounds N (length old.sets) (length new.sets - length old.sets))
