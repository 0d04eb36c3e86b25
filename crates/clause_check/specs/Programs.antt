-- Programs as they are kept: terms of a pool, ranges and goals by their numbers, and clauses and queries over these.
use Rattle.std.specs.Prelude.{◌≡◌, ℕ, ◌<◌, ◌≤◌, List, [], ◌∷◌, ◌++◌, Option, Some, None, length, map, take, drop, slice_index_or, All, IsTrue}
use Rattle.fd_language.specs.Term.{Term, Var, Int, Atom, Comp, term_count}
use Rattle.fd_language.specs.Range.{Range}
use Rattle.fd_language.specs.RangeVerdict.{is_accepted}
use Rattle.fd_language.specs.Spelling.{empty_range}
use Rattle.fd_language.specs.declared.TheConstants.{INFINITY}
use Rattle.fd_model.specs.Arities.{constraint_arity, builtin_arity}
use Rattle.fd_model.specs.Goal as model
use Rattle.fd_model.specs.Goal.{Goals, no_goals, goal}
use Rattle.fd_model.specs.RunnablePrograms.{IsRunnableProgram, IsScoped}
use Rattle.term_pool.specs.declared.AtomId.{AtomId}
use Rattle.term_pool.specs.Contents.{Contents, atom_name}
use Rattle.term_pool.specs.Terms.{term_of}
use Rattle.term_pool.specs.PoolInvariant.{IsPool}
use Rattle.clause_check.specs.Codable.{IsCodable}
use Rattle.clause_check.specs.declared.program.Part.{Part}
use Rattle.clause_check.specs.declared.program.FlatGoal.{FlatGoal}
use Rattle.clause_check.specs.declared.program.FlatGoal.TheVariants.{True, Fail, Unify, Post, Constrain, Label, Call, Either, Builtin, Cut, If, Not, Best}
use Rattle.clause_check.specs.declared.program.FlatClause.{FlatClause}
use Rattle.clause_check.specs.declared.program.QueryParts.{QueryParts}

-- a query: how many variables it has, the names and the numbers of those that are shown, and its goals
pub record FlatQuery : Type 0 where
  pub variables : ℕ
  pub names : List AtomId
  pub shown : List ℕ
  pub goals : Part

-- what contracts see of a program
pub record FlatProgram : Type 0 where
  pub pool : Contents
  pub ranges : List Range
  pub goals : List FlatGoal
  pub clauses : List FlatClause
  pub queries : List FlatQuery

abbrev pub no_part : Part
no_part = record { from = 0; to = 0 }

abbrev pub no_clause : FlatClause
no_clause = record { variables = 0; head = record { number = 0 }; body = no_part }

abbrev pub no_query : FlatQuery
no_query = record { variables = 0; names = []; shown = []; goals = no_part }

-- the range with a number
abbrev pub range_in : List Range → ℕ → Range
range_in ranges r = slice_index_or ranges r empty_range

abbrev pub range_at : FlatProgram → ℕ → Range
range_at p r = range_in p.ranges r

abbrev pub goal_at : FlatProgram → ℕ → FlatGoal
goal_at p i = slice_index_or p.goals i True

abbrev pub clause_at : FlatProgram → ℕ → FlatClause
clause_at p c = slice_index_or p.clauses c no_clause

abbrev pub query_at : FlatProgram → ℕ → FlatQuery
query_at p q = slice_index_or p.queries q no_query

-- ---- the definition's goals

-- those of a list
abbrev pub unlisted : List model.Goal → Goals
unlisted [] = no_goals
unlisted (g ∷ gs) = goal g (unlisted gs)

-- those with the numbers from..to
abbrev pub between : List model.Goal → ℕ → ℕ → List model.Goal
between goals from to = drop from (take to goals)

abbrev pub part_of : List model.Goal → Part → List model.Goal
part_of goals a = between goals a.from a.to

-- what a goal stands for, where the parts that it names are of these goals
abbrev pub tree_of : Contents → List Range → List model.Goal → FlatGoal → model.Goal
tree_of c ranges goals True = model.True
tree_of c ranges goals Fail = model.Fail
tree_of c ranges goals (Unify s t) = model.Unify (term_of c s) (term_of c t)
tree_of c ranges goals (Post t r) = model.Post (term_of c t) (range_in ranges r)
tree_of c ranges goals (Constrain k t) = model.Constrain k (term_of c t)
tree_of c ranges goals (Label o t) = model.Label o (term_of c t)
tree_of c ranges goals (Call t) = model.Call (term_of c t)
tree_of c ranges goals (Either a b) = model.Either (unlisted (part_of goals a)) (unlisted (part_of goals b))
tree_of c ranges goals (Builtin k t) = model.Builtin k (term_of c t)
tree_of c ranges goals Cut = model.Cut None
tree_of c ranges goals (If a b None) = model.If (unlisted (part_of goals a)) (unlisted (part_of goals b))
tree_of c ranges goals (If a b (Some o)) = model.IfElse (unlisted (part_of goals a)) (unlisted (part_of goals b)) (unlisted (part_of goals o))
tree_of c ranges goals (Not a) = model.Not (unlisted (part_of goals a))
tree_of c ranges goals (Best o least t u) = model.Best o least (term_of c t) (term_of c u)

-- the goals, followed by what the flat ones stand for, each of which names parts of those before it
abbrev pub trees_from : Contents → List Range → List model.Goal → List FlatGoal → List model.Goal
trees_from c ranges goals [] = goals
trees_from c ranges goals (g ∷ gs) = trees_from c ranges (goals ++ tree_of c ranges goals g ∷ []) gs

-- what each goal stands for
unfoldable pub trees : Contents → List Range → List FlatGoal → List model.Goal
trees c ranges goals = trees_from c ranges [] goals

-- the goal with a number
abbrev pub goal_tree : FlatProgram → ℕ → model.Goal
goal_tree p i = slice_index_or (trees p.pool p.ranges p.goals) i model.True

-- the goals with the numbers from..to
abbrev pub goals_between : FlatProgram → ℕ → ℕ → List model.Goal
goals_between p from to = between (trees p.pool p.ranges p.goals) from to

abbrev pub goals_in : FlatProgram → Part → List model.Goal
goals_in p a = goals_between p a.from a.to

-- what a goal of the program stands for
abbrev pub goal_in : FlatProgram → FlatGoal → model.Goal
goal_in p g = tree_of p.pool p.ranges (trees p.pool p.ranges p.goals) g

-- ---- the definition's program

abbrev pub clause_by : Contents → List model.Goal → FlatClause → model.Clause
clause_by c goals k = record { variables = k.variables; head = term_of c k.head; body = part_of goals k.body }

abbrev pub query_by : Contents → List model.Goal → FlatQuery → model.Query
query_by c goals q = record { variables = q.variables; names = map (atom_name c) q.names; shown = q.shown; goals = part_of goals q.goals }

abbrev pub clause_in : FlatProgram → FlatClause → model.Clause
clause_in p k = clause_by p.pool (trees p.pool p.ranges p.goals) k

abbrev pub query_in : FlatProgram → FlatQuery → model.Query
query_in p q = query_by p.pool (trees p.pool p.ranges p.goals) q

abbrev pub program_in : FlatProgram → model.Program
program_in p = record { clauses = map (clause_in p) p.clauses; queries = map (query_in p) p.queries }

-- ---- what holds of every program

-- an atom, for 0, or a compound term with so many arguments
abbrev pub HasArguments : ℕ → Term → Type 0
HasArguments n (Var x) = ⊥
HasArguments n (Int z) = ⊥
HasArguments n (Atom a) = n ≡ 0
HasArguments n (Comp f ts) = term_count ts ≡ n

-- an atom or a compound term
abbrev pub IsNamed : Term → Type 0
IsNamed t = (n : ℕ) × HasArguments n t

-- of the first n goals
pub record IsPart (n : ℕ) (a : Part) : Type 0 where
  pub ordered : a.from ≤ a.to
  pub within : a.to ≤ n

-- where there is one
abbrev pub IsOtherPart : ℕ → Option Part → Type 0
IsOtherPart n None = Unit {0}
IsOtherPart n (Some a) = IsPart n a

-- of the pool and the first so many ranges, and its parts of the first n goals
abbrev pub IsGoal : Contents → ℕ → ℕ → FlatGoal → Type 0
IsGoal c ranges n True = Unit {0}
IsGoal c ranges n Fail = Unit {0}
IsGoal c ranges n (Unify s t) = (s.number < length c.entries) × (t.number < length c.entries)
IsGoal c ranges n (Post t r) = (t.number < length c.entries) × (r < ranges)
IsGoal c ranges n (Constrain k t) = (t.number < length c.entries) × HasArguments (constraint_arity k) (term_of c t)
IsGoal c ranges n (Label o t) = t.number < length c.entries
IsGoal c ranges n (Call t) = (t.number < length c.entries) × IsNamed (term_of c t)
IsGoal c ranges n (Either a b) = IsPart n a × IsPart n b
IsGoal c ranges n (Builtin k t) = (t.number < length c.entries) × HasArguments (builtin_arity k) (term_of c t)
IsGoal c ranges n Cut = Unit {0}
IsGoal c ranges n (If a b o) = IsPart n a × IsPart n b × IsOtherPart n o
IsGoal c ranges n (Not a) = IsPart n a
IsGoal c ranges n (Best o least t u) = (t.number < length c.entries) × (u.number < length c.entries)

-- the parts that a goal names stand before it
abbrev pub AreGoals : Contents → ℕ → List FlatGoal → Type 0
AreGoals c ranges goals = (i : ℕ) → i < length goals → IsGoal c ranges i (slice_index_or goals i True)

pub record IsClause (c : Contents) (n : ℕ) (k : FlatClause) : Type 0 where
  pub head : k.head.number < length c.entries
  pub named : IsNamed (term_of c k.head)
  pub body : IsPart n k.body

pub record IsQuery (c : Contents) (n : ℕ) (q : FlatQuery) : Type 0 where
  pub names : All (λ a. a.number < length c.names) q.names
  pub same : length q.names ≡ length q.shown
  pub shown : All (λ x. x < q.variables) q.shown
  pub goals : IsPart n q.goals

pub record IsProgram (p : FlatProgram) : Type 0 where
  pub pool : IsPool p.pool
  pub ranges : All (λ r. IsTrue (is_accepted INFINITY r)) p.ranges
  pub goals : AreGoals p.pool (length p.ranges) p.goals
  pub clauses : All (IsClause p.pool (length p.goals)) p.clauses
  pub queries : All (IsQuery p.pool (length p.goals)) p.queries
  -- names no variable beyond those that its clauses and queries have
  pub scoped : IsScoped (program_in p)
  pub runnable : IsRunnableProgram INFINITY (program_in p)
  -- has compound terms of 1 to 255 arguments, and shows no variable twice
  pub codable : IsCodable (program_in p)

-- ---- as the code keeps it

abbrev pub query_kept : QueryParts → FlatQuery
query_kept q = record { variables = q.variables; names = q.names.items; shown = q.shown.items; goals = q.goals }

abbrev pub program_of_parts : Contents → List Range → List FlatGoal → List FlatClause → List QueryParts → FlatProgram
program_of_parts c ranges goals clauses queries = record { pool = c; ranges = ranges; goals = goals; clauses = clauses; queries = map query_kept queries }
