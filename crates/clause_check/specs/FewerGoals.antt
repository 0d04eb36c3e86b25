-- Programs in which a query has fewer goals.
use Rattle.std.specs.Prelude.{ℕ, zero, suc, Bool, true, false, List, [], ◌∷◌, map}
use Rattle.fd_model.specs.Goal.{Goal, Label, Best, Program, Query}
use Rattle.clause_check.specs.declared.program.Part.{Part}
use Rattle.clause_check.specs.declared.program.FlatGoal.{FlatGoal}
use Rattle.clause_check.specs.declared.program.FlatGoal.TheVariants as flat
use Rattle.clause_check.specs.GoalStores.{flat_part}

-- those of a list that are kept
abbrev pub kept : {X : Type 0} → List Bool → List X → List X
kept [] xs = []
kept (k ∷ ks) [] = []
kept (true ∷ ks) (x ∷ xs) = x ∷ kept ks xs
kept (false ∷ ks) (x ∷ xs) = kept ks xs

-- the one with the number k, from 0, is changed
abbrev pub changed : {X : Type 0} → ℕ → (X → X) → List X → List X
changed k f [] = []
changed zero f (x ∷ xs) = f x ∷ xs
changed (suc k) f (x ∷ xs) = x ∷ changed k f xs

-- a labelling in place of a search for its best leaf
abbrev pub without_best : Goal → Goal
without_best (Best o least t c) = Label o t
without_best g = g

-- the query with these goals
abbrev pub with_goals : Query → List Goal → Query
with_goals q gs = record { variables = q.variables; names = q.names; shown = q.shown; goals = gs }

-- the query with those of its goals that are kept, where no best leaf is searched for
abbrev pub keeping : List Bool → Query → Query
keeping ks q = with_goals q (kept ks (map without_best q.goals))

-- the program in which these goals of its query with the number k are kept
abbrev pub keeping_of : ℕ → List Bool → Program → Program
keeping_of k ks prog = record { clauses = prog.clauses; queries = changed k (keeping ks) prog.queries }

-- ---- as a program has them

abbrev pub flat_without_best : FlatGoal → FlatGoal
flat_without_best (flat.Best o least t c) = flat.Label o t
flat_without_best g = g

-- those of a part that are kept
abbrev pub flat_kept : List Bool → List FlatGoal → Part → List FlatGoal
flat_kept ks goals a = kept ks (map flat_without_best (flat_part goals a))
