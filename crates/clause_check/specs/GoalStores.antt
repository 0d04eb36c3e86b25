-- What is read of a body, and what is still to be read of it. N is the greatest number that a variable may have.
use Rattle.std.specs.Prelude.{◌≡◌, ℕ, ◌+◌, ◌*◌, ◌<◌, ◌≤◌, List, [], ◌∷◌, ◌++◌, length, map, take, drop, All, Some, None}
use Rattle.fd_language.specs.PlacedTerm.{PlacedTerm}
use Rattle.fd_language.specs.Range.{Range}
use Rattle.fd_language.specs.declared.TheConstants.{INFINITY}
use Rattle.fd_model.specs.Goal as model
use Rattle.fd_model.specs.Queries.{body_goals, body_of}
use Rattle.fd_model.specs.Refusals.{goals_of, goals_refusal}
use Rattle.term_pool.specs.declared.TermId.{TermId}
use Rattle.term_pool.specs.Contents.{Contents}
use Rattle.term_pool.specs.Terms.{term_of, size}
use Rattle.term_pool.specs.PlacedTerms.{placed_of}
use Rattle.term_reader.specs.declared.reader.Sentences.{Sentences}
use Rattle.clause_check.specs.declared.program.Part.{Part}
use Rattle.clause_check.specs.declared.program.FlatGoal.{FlatGoal}
use Rattle.clause_check.specs.declared.program.FlatGoal.TheVariants as flat
use Rattle.clause_check.specs.declared.goals.Task.{Task}
use Rattle.clause_check.specs.declared.goals.Task.TheVariants.{Visit, Turn, Join, Deny}
use Rattle.clause_check.specs.declared.goals.GoalStore.{GoalStore}
use Rattle.clause_check.specs.declared.terms.Joint.{Joint}
use Rattle.clause_check.specs.declared.terms.Joint.TheVariants.{Semicolon, Arrow}
use Rattle.clause_check.specs.GoalRecords.{AreAccepted}
use Rattle.clause_check.specs.Programs.{unlisted, part_of, tree_of, trees, IsPart, IsGoal, AreGoals}
use Rattle.clause_check.specs.Terms.{terms_of, joined_goals}

-- what the goals of the store stand for
abbrev pub stored : Contents → GoalStore → List model.Goal
stored c g = trees c g.ranges.items g.goals.items

-- and those that are pending
abbrev pub pending_in : Contents → GoalStore → List model.Goal
pending_in c g = map (tree_of c g.ranges.items (stored c g)) g.pending.items

pub record IsStore (c : Contents) (g : GoalStore) : Type 0 where
  pub ranges : AreAccepted g.ranges.items
  pub goals : AreGoals c (length g.ranges.items) g.goals.items
  pub pending : All (IsGoal c (length g.ranges.items) (length g.goals.items)) g.pending.items

-- new has all of old, with the same numbers
pub record IsGrown (old new : GoalStore) : Type 0 where
  pub ranges : (more : List Range) × (new.ranges.items ≡ old.ranges.items ++ more)
  pub goals : (more : List FlatGoal) × (new.goals.items ≡ old.goals.items ++ more)

-- the pending goals from start on have become a part
pub record IsClosed (start : ℕ) (old new : GoalStore) (a : Part) : Type 0 where
  pub ranges : new.ranges.items ≡ old.ranges.items
  pub goals : new.goals.items ≡ old.goals.items ++ drop start old.pending.items
  pub pending : new.pending.items ≡ take start old.pending.items
  pub tasks : new.tasks.items ≡ old.tasks.items
  pub from : a.from ≡ length old.goals.items
  pub to : a.to ≡ length new.goals.items

-- the goals that the part has
abbrev pub flat_part : List FlatGoal → Part → List FlatGoal
flat_part goals a = drop a.from (take a.to goals)

-- the goal that is made of two parts, of which the left one has these goals: where that is a `->` alone, a `;` makes an if with another part of it
abbrev pub two_ways : List FlatGoal → Part → Part → FlatGoal
two_ways (flat.If test holds None ∷ []) left right = flat.If test holds (Some right)
two_ways gs left right = flat.Either left right

abbrev pub joined_by : Joint → List FlatGoal → Part → Part → FlatGoal
joined_by Semicolon gs left right = two_ways gs left right
joined_by Arrow gs left right = flat.If left right None

-- ---- tasks; the last of a list comes first

-- the number of the pending goal that the task began with, where there are n
abbrev pub start_in : ℕ → Task → ℕ
start_in n (Visit t) = n
start_in n (Turn j s b) = s
start_in n (Join j s a) = s
start_in n (Deny s) = s

-- of the pool, and of the first n goals
abbrev pub IsTask : Contents → ℕ → Task → Type 0
IsTask c n (Visit t) = t.number < length c.entries
IsTask c n (Turn j s b) = b.number < length c.entries
IsTask c n (Join j s a) = IsPart n a
IsTask c n (Deny s) = Unit {0}

-- each began with no fewer pending goals than those behind it, of which the last began with least, and now there are n
abbrev pub IsStack : ℕ → List Task → ℕ → Type 0
IsStack least [] n = least ≤ n
IsStack least (Visit t ∷ ts) n = IsStack least ts n
IsStack least (Turn j s b ∷ ts) n = (least ≤ s) × IsStack s ts n
IsStack least (Join j s a ∷ ts) n = (least ≤ s) × IsStack s ts n
IsStack least (Deny s ∷ ts) n = (least ≤ s) × IsStack s ts n

-- the pending goals when the task is done
abbrev pub done : ℕ → Contents → List model.Goal → Task → List model.Goal → List model.Goal
done N c goals (Visit t) gs = gs ++ body_of N (placed_of c t)
done N c goals (Turn j s b) gs = take s gs ++ joined_goals j (unlisted (drop s gs)) (body_goals N (placed_of c b)) ∷ []
done N c goals (Join j s a) gs = take s gs ++ joined_goals j (unlisted (part_of goals a)) (unlisted (drop s gs)) ∷ []
done N c goals (Deny s) gs = take s gs ++ model.Not (unlisted (drop s gs)) ∷ []

-- and when all of them are
abbrev pub all_done : ℕ → Contents → List model.Goal → List Task → List model.Goal → List model.Goal
all_done N c goals [] gs = gs
all_done N c goals (t ∷ ts) gs = done N c goals t (all_done N c goals ts gs)

-- the goals that are still to be looked at
abbrev pub ahead : Contents → Task → List PlacedTerm
ahead c (Visit t) = goals_of (placed_of c t)
ahead c (Turn j s b) = goals_of (placed_of c b)
ahead c (Join j s a) = []
ahead c (Deny s) = []

abbrev pub all_ahead : Contents → List Task → List PlacedTerm
all_ahead c [] = []
all_ahead c (t ∷ ts) = all_ahead c ts ++ ahead c t

-- how much there is still to do
abbrev pub weight : Contents → Task → ℕ
weight c (Visit t) = 3 * size (term_of c t)
weight c (Turn j s b) = 3 * size (term_of c b) + 2
weight c (Join j s a) = 1
weight c (Deny s) = 1

unfoldable pub total_weight : Contents → List Task → ℕ
total_weight c [] = 0
total_weight c (t ∷ ts) = weight c t + total_weight c ts

-- the task is taken, where those behind it are still there: it is done, or replaced by others
pub record IsTaken (N : ℕ) (s : Sentences) (old new : GoalStore) (task : Task) : Type 0 where
  pub more : List Task
  pub tasks : new.tasks.items ≡ old.tasks.items ++ more
  pub grown : IsGrown old new
  pub store : IsStore s.pool new
  pub own : All (IsTask s.pool (length new.goals.items)) more
  pub stack : (rest : List Task) → IsStack 0 rest (start_in (length old.pending.items) task) → IsStack 0 (rest ++ more) (length new.pending.items)
  pub goals : all_done N s.pool (stored s.pool new) more (pending_in s.pool new) ≡ done N s.pool (stored s.pool old) task (pending_in s.pool old)
  pub refusal : goals_refusal INFINITY N (terms_of s) (ahead s.pool task) ≡ goals_refusal INFINITY N (terms_of s) (all_ahead s.pool more)
  pub smaller : total_weight s.pool more < weight s.pool task

-- the body is read, and its goals are those of the part
pub record IsRead (N : ℕ) (s : Sentences) (old new : GoalStore) (body : PlacedTerm) (a : Part) : Type 0 where
  pub accepted : goals_refusal INFINITY N (terms_of s) (goals_of body) ≡ None
  pub grown : IsGrown old new
  pub store : IsStore s.pool new
  pub part : IsPart (length new.goals.items) a
  pub goals : part_of (stored s.pool new) a ≡ body_of N body

-- of the two bodies of a goal the left one is read, or both are, or the only body is
abbrev pub IsTurned : Joint → ℕ → TermId → GoalStore → GoalStore → Type 0
IsTurned j start right old new = (N : ℕ) (s : Sentences) → IsStore s.pool old → right.number < length s.pool.entries → IsTaken N s old new (Turn j start right)

abbrev pub IsJoined : Joint → ℕ → Part → GoalStore → GoalStore → Type 0
IsJoined j start left old new = (N : ℕ) (s : Sentences) → IsStore s.pool old → IsPart (length old.goals.items) left → IsTaken N s old new (Join j start left)

abbrev pub IsDenied : ℕ → GoalStore → GoalStore → Type 0
IsDenied start old new = (N : ℕ) (s : Sentences) → IsStore s.pool old → IsTaken N s old new (Deny start)
