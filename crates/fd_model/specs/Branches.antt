-- How a branch goes on, how its variables are seen, and which of some branches are kept.
use Rattle.std.specs.Prelude.{◌≡◌, ℕ, pos, List, [], ◌∷◌, ◌++◌, Option, ◌⊎◌}
use Rattle.fd_language.specs.Term.{Term, Var, Int, Substitution}
use Rattle.fd_language.specs.Unifier.{Equation}
use Rattle.fd_language.specs.Family.{Family}
use Rattle.fd_model.specs.ClosedFamilies.{constrained}
use Rattle.fd_model.specs.Goal.{Goal, Branch}
use Rattle.fd_model.specs.BranchViews.{IsConsistent, seen, set_at}

abbrev pub with_goals : Branch → List Goal → Branch
with_goals b gs = record { goals = gs; equations = b.equations; posted = b.posted; fresh = b.fresh }

-- more equations, and the next fresh number
abbrev pub with_equations : Branch → List Goal → List Equation → ℕ → Branch
with_equations b gs es n = record { goals = gs; equations = es ++ b.equations; posted = b.posted; fresh = n }

abbrev pub is_number : ℕ → ℕ → Equation
is_number x n = record { left = Var x; right = Int (pos n) }

-- x has the value n
abbrev pub by_value : Branch → List Goal → ℕ → ℕ → Branch
by_value b gs x n = with_equations b gs (is_number x n ∷ []) b.fresh

-- the consistent ones among the branches, in order
abbrev pub Kept : ℕ → ℕ → List Branch → List Branch → Type 0
Kept M N [] cs = cs ≡ []
Kept M N (b ∷ bs) cs =
    (IsConsistent M N b.equations b.posted × ((ds : List Branch) × (cs ≡ b ∷ ds) × Kept M N bs ds))
    ⊎ ((IsConsistent M N b.equations b.posted → ⊥) × Kept M N bs cs)

-- each variable as it is seen in the branch
abbrev pub look_in : Branch → Substitution → Family → ℕ → Term
look_in b s D v = seen s D (constrained b.posted) (Var v)

-- the sets of the constrained variables in the branch
abbrev pub sets_in : Branch → Substitution → Family → ℕ → Option (List ℕ)
sets_in b s D y = set_at s D (constrained b.posted) y
