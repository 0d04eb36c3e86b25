-- The statements of the laws.
use Rattle.std.specs.Prelude.{ℕ, IsTrue, ◌↔◌, List, [], ◌++◌}
use Rattle.fd_language.specs.Family.{Family, has}
use Rattle.fd_language.specs.Range.{Indexical}
use Rattle.fd_model.specs.ClosedFamilies.{constrained}
use Rattle.fd_model.specs.Models.{IsModel}
use Rattle.branch_meaning.specs.Store.{Touch, touched, posts}

-- Of the store's ranges and the posts for touches between their variables, the closed families without an empty set are those of the ranges and the touches as
-- equations.
abbrev pub PostsAreEquations : Type 0
PostsAreEquations =
    (M N : ℕ) (qs : List Indexical) (ts : List Touch) → ((k : ℕ) → IsTrue (has (constrained (posts ts)) k) → IsTrue (has (constrained qs) k))
    → (T : Family) → IsModel M N [] (qs ++ posts ts) T ↔ IsModel M N (touched ts) qs T
