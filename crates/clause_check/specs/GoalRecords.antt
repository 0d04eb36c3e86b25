-- What is kept of ranges and goals. N is the greatest number that a variable may have.
use Rattle.std.specs.Prelude.{◌≡◌, ℕ, List, ◌++◌, length, None, Result, MatchResult, All, IsTrue}
use Rattle.fd_language.specs.Range.{Range}
use Rattle.fd_language.specs.RangeVerdict.{is_accepted}
use Rattle.fd_language.specs.PlacedTerm.{PlacedTerm}
use Rattle.fd_language.specs.Spelling.{read_range}
use Rattle.fd_language.specs.declared.TheConstants.{INFINITY}
use Rattle.fd_model.specs.Goal as model
use Rattle.fd_model.specs.Queries.{goal_by_form, goal_of}
use Rattle.fd_model.specs.Refusals.{range_refusal}
use Rattle.term_pool.specs.declared.TermId.{TermId}
use Rattle.term_pool.specs.Contents.{Contents}
use Rattle.term_pool.specs.PlacedTerms.{placed_of}
use Rattle.clause_check.specs.declared.forms.GoalKind.{GoalKind}
use Rattle.clause_check.specs.declared.program.FlatGoal.{FlatGoal}
use Rattle.clause_check.specs.declared.faults.Fault.{Fault}
use Rattle.clause_check.specs.Causes.{RefusedBy}
use Rattle.clause_check.specs.Forms.{form_seen}
use Rattle.clause_check.specs.Programs.{tree_of, IsGoal}

-- the range that a term spells, where it is accepted, or why it is refused
abbrev pub IsRangeOf : ℕ → Contents → PlacedTerm → Result Range Fault → Type 0
IsRangeOf N c r result = MatchResult result (λ range. (range_refusal INFINITY N r ≡ None) × (range ≡ (read_range N r).tree)) (RefusedBy c (range_refusal INFINITY N r))

-- each range is accepted
abbrev pub AreAccepted : List Range → Type 0
AreAccepted ranges = All (λ r. IsTrue (is_accepted INFINITY r)) ranges

-- the goal that g stands for, which names no part of other goals; its range stands behind the old ones
pub record KeepsGoal (c : Contents) (old new : List Range) (x : model.Goal) (g : FlatGoal) : Type 0 where
  pub grows : (more : List Range) × (new ≡ old ++ more)
  pub accepted : AreAccepted old → AreAccepted new
  pub own : (n : ℕ) → IsGoal c (length new) n g
  pub is : (goals : List model.Goal) → tree_of c new goals g ≡ x

-- a goal of the language with this form, and any goal
abbrev pub KeepsForm : ℕ → Contents → TermId → GoalKind → List Range → List Range → FlatGoal → Type 0
KeepsForm N c t form old new g = KeepsGoal c old new (goal_by_form N (form_seen form) (placed_of c t)) g

abbrev pub KeepsTerm : ℕ → Contents → TermId → List Range → List Range → FlatGoal → Type 0
KeepsTerm N c t old new g = KeepsGoal c old new (goal_of N (placed_of c t)) g
