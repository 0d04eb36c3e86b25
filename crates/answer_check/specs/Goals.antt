-- What is kept of the goals of a flat query.
use Rattle.std.specs.Prelude.{◌≡◌, ℕ, Bool, true, false, List, [], ◌∷◌, Option, MatchOption, Result, Ok, Err, ◌↔◌}
use Rattle.fd_language.specs.declared.TheConstants.{INFINITY}
use Rattle.fd_language.specs.declared.range_node.RangeNode.{RangeNode}
use Rattle.fd_language.specs.declared.range_node.RangeNode.TheVariants as node
use Rattle.fd_language.specs.PlacedTerm.{PlacedTerm}
use Rattle.fd_language.specs.Range.{Range}
use Rattle.fd_language.specs.Spelling.{read_range}
use Rattle.fd_language.specs.Term.{Term, Terms}
use Rattle.fd_model.specs.declared.kinds.ConstraintKind.{ConstraintKind}
use Rattle.fd_model.specs.declared.kinds.Order.{Order}
use Rattle.fd_model.specs.FlatQueries.{IsSatisfied}
use Rattle.fd_model.specs.Goal.{Goal}
use Rattle.fd_model.specs.Labelling.{read_list, open_ones}
use Rattle.fd_model.specs.Members.{Member}
use Rattle.fd_model.specs.Satisfaction.{Assignment, Satisfies}
use Rattle.answer_check.specs.declared.goals.Labelling.{Labelling}
use Rattle.answer_check.specs.declared.goals.Constraint.{Constraint}
use Rattle.answer_check.specs.declared.goals.Goals.{Goals}
use Rattle.answer_check.specs.declared.outcome.Reason.{Reason}
use Rattle.answer_check.specs.declared.outcome.Stop.{Stop}
use Rattle.answer_check.specs.declared.outcome.Stop.TheVariants.{Refused, NoMemory}
use Rattle.answer_check.specs.Checks.{IsBounded, CanCheck, Meets}
use Rattle.answer_check.specs.FlatForm.{FlatGoals, has_below, is_flat_range, is_linear_constraint, labelling_of}

-- a node of a pointwise form or of a parameter
abbrev pub is_left_out : RangeNode → Bool
is_left_out (node.Param x) = true
is_left_out node.Plus = true
is_left_out node.Minus = true
is_left_out node.Times = true
is_left_out node.Over = true
is_left_out n = false

-- a constraint that says the same of numbers as is said by P
pub record Says (P : Assignment → Type 0) (k : Constraint) : Type 0 where
  pub safe : CanCheck k
  pub same : (a : Assignment) → IsBounded a → Meets a k ↔ P a

-- such a constraint, where a test is passed
abbrev pub Keeps : Bool → (Assignment → Type 0) → Option Constraint → Type 0
Keeps test P o = MatchOption o (test ≡ false) (λ k. (test ≡ true) × Says P k)

-- a constraint of a kind with these arguments
abbrev pub KeepsKind : ConstraintKind → Terms → Option Constraint → Type 0
KeepsKind kind ts o = Keeps (is_linear_constraint INFINITY kind ts) (Satisfies INFINITY kind ts) o

-- the range of an `in` goal, where it is flat
abbrev pub KeepsRange : PlacedTerm → Option Range → Type 0
KeepsRange t o =
    let r = (read_range INFINITY t).tree in
    MatchOption o (is_flat_range INFINITY t r ≡ false) (λ q. (is_flat_range INFINITY t r ≡ true) × (q ≡ r))

-- a goal, and what is kept of it
abbrev pub SaysGoal : Goal → Constraint → Type 0
SaysGoal g k = Says (λ a. IsSatisfied INFINITY INFINITY a g) k

abbrev pub EachSays : List Goal → List Constraint → Type 0
EachSays [] [] = Unit {0}
EachSays (g ∷ gs) (k ∷ ks) = SaysGoal g k × EachSays gs ks
EachSays gs ks = ⊥

-- the goals of a flat query, and what is kept of them
pub record AreGoals (f : FlatGoals) (g : Goals) : Type 0 where
  pub constraints : EachSays f.constraints g.constraints.items
  pub order : g.order ≡ f.order
  pub labelled : g.labelled.items ≡ open_ones f.members

abbrev pub FindsGoals : Result FlatGoals ℕ → Goals → Type 0
FindsGoals r g = (f : FlatGoals) × (r ≡ Ok f) × AreGoals f g

-- a labelling of a list in which the variables below n stand
pub record AreLabels (n : ℕ) (o : Order) (list : Term) (l : Labelling) : Type 0 where
  pub members : List Member
  pub read : read_list list ≡ Ok members
  pub order : l.order ≡ o
  pub labelled : l.labelled.items ≡ open_ones members
  pub every : has_below n members ≡ true

-- nothing such
abbrev pub HasNoLabels : ℕ → Term → Type 0
HasNoLabels n list = (ms : List Member) → read_list list ≡ Ok ms → has_below n ms ≡ false

abbrev pub FindsLabels : ℕ → Order → Term → Option Labelling → Type 0
FindsLabels n o list r = MatchOption r (HasNoLabels n list) (AreLabels n o list)

-- the labelling, with nothing in front of it
pub record IsLabelling (r : Result FlatGoals ℕ) (l : Labelling) : Type 0 where
  pub goals : FlatGoals
  pub found : r ≡ Ok goals
  pub bare : goals.constraints ≡ []
  pub order : l.order ≡ goals.order
  pub labelled : l.labelled.items ≡ open_ones goals.members

abbrev pub FindsLabelling : ℕ → ℕ → Goal → Option Labelling → Type 0
FindsLabelling n p g r = MatchOption r (labelling_of n p g ≡ Err p) (IsLabelling (labelling_of n p g))

-- the place is where the form is broken, for the reason, or memory was wanting
abbrev pub StopsAt : {A : Type 0} → Result A ℕ → Reason → Stop → Type 0
StopsAt r reason (Refused p s) = (r ≡ Err p) × (s ≡ reason)
StopsAt r reason NoMemory = Unit {0}
