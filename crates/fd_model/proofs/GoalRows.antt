-- What a goal of a flat query or of a way becomes.
use Rattle.std.proofs.Common.{◌≡◌, ℕ, ◌<◌, ◌≤◌, true, ℤ, pos, List, ◌++◌, ◌⊎◌}
use Rattle.fd_language.specs.Term.{Var, Int, Substitution}
use Rattle.fd_language.specs.Unifier.{Equation, Unifies}
use Rattle.fd_language.specs.Family.{has}
use Rattle.fd_language.specs.Range.{Indexical, set_of}
use Rattle.fd_model.specs.ClosedFamilies.{AllPosted, constrained}
use Rattle.fd_model.specs.Goal.{Goal, Branch}
use Rattle.fd_language.specs.Variables.{TermBelow}
use Rattle.fd_model.specs.LinearRows.{Expansion}
use Rattle.fd_model.specs.ConstraintExpansion.{equations}
use Rattle.fd_model.specs.Satisfaction.{Assignment, singles}
use Rattle.fd_language.specs.Lists.{Each}
use Rattle.fd_model.specs.Answers.{Settles}
use Rattle.fd_model.specs.Ways.{added}

-- its ranges, the equations of fresh variables, the next fresh number, and the variables that were added
pub record Rewritten : Type 0 where
  pub ranges : List Indexical
  pub equations : List Equation
  pub fresh : ℕ
  pub added : List ℕ

abbrev pub with_ranges : Branch → List Goal → Rewritten → Branch
with_ranges b gs w = record { goals = gs; equations = w.equations ++ b.equations; posted = w.ranges ++ b.posted; fresh = w.fresh }

-- a constraint, where n was the next fresh number
abbrev pub rewritten : ℕ → Expansion → Rewritten
rewritten n x = record { ranges = x.ranges; equations = equations x.equated; fresh = x.fresh; added = added n x }

-- each variable is its number
abbrev pub numbers : Assignment → Substitution
numbers a x = Int (pos (a x))

-- the equation gives a variable an integer
abbrev pub Gives : ℕ → Equation → Type 0
Gives x e = (e.left ≡ Var x) × ((k : ℤ) × (e.right ≡ Int k))

abbrev pub EquationsBelow : ℕ → List Equation → Type 0
EquationsBelow n es = Each (λ e. TermBelow n e.left × TermBelow n e.right) es

-- the variables xs are seen as themselves or as integers of the universe
abbrev pub IsPlain : ℕ → List ℕ → Substitution → Type 0
IsPlain M xs look = (x : ℕ) → has xs x ≡ true → (look x ≡ Var x) ⊎ ((n : ℕ) × (n ≤ M) × (look x ≡ Int (pos n)))

-- an assignment of numbers up to N under which the equated variables have their integers, and each target lies in its range
pub record FitsRow (M N : ℕ) (w : Rewritten) (e : Assignment) : Type 0 where
  pub bounded : (x : ℕ) → e x ≤ N
  pub equations : Unifies (numbers e) w.equations
  pub posted : AllPosted (λ p. has (set_of M (singles e) p.range) (e p.target) ≡ true) w.ranges

-- What is added is fresh and constrained, and has one value where the other variables have.
pub record IsFollowing (M n : ℕ) (w : Rewritten) : Type 0 where
  pub fresh : n ≤ w.fresh
  pub below : (x : ℕ) → has (constrained w.ranges) x ≡ true → x < w.fresh
  pub equations : EquationsBelow w.fresh w.equations
  pub added : (x : ℕ) → has w.added x ≡ true → (n ≤ x) × (has (constrained w.ranges) x ≡ true)
  pub settles : Settles M w.ranges w.added
