-- Queries and programs with fewer goals. A list of truth values says of each goal whether it is kept.
use Rattle.std.specs.Prelude.{◌≡◌, ℕ, zero, suc, Bool, true, false, List, [], ◌∷◌, map}
use Rattle.fd_model.specs.Goal.{Goal, Label, Best, Program, Query}

-- those of a list that are kept
abbrev pub kept : {X : Type 0} → List Bool → List X → List X
kept [] xs = []
kept (k ∷ ks) [] = []
kept (true ∷ ks) (x ∷ xs) = x ∷ kept ks xs
kept (false ∷ ks) (x ∷ xs) = kept ks xs

-- whether the one with the number i, from 0, is kept
abbrev pub is_kept : List Bool → ℕ → Bool
is_kept [] i = false
is_kept (k ∷ ks) zero = k
is_kept (k ∷ ks) (suc i) = is_kept ks i

-- the one with the number i isn't kept either
abbrev pub without : ℕ → List Bool → List Bool
without i [] = []
without zero (k ∷ ks) = false ∷ ks
without (suc i) (k ∷ ks) = k ∷ without i ks

-- all are kept
abbrev pub all_kept : List Goal → List Bool
all_kept [] = []
all_kept (g ∷ gs) = true ∷ all_kept gs

-- what the first list keeps, the second keeps
abbrev pub IsWithin : List Bool → List Bool → Type 0
IsWithin js ks = (i : ℕ) → is_kept js i ≡ true → is_kept ks i ≡ true

-- the one with the number k, from 0, is changed
abbrev pub changed : {X : Type 0} → ℕ → (X → X) → List X → List X
changed k f [] = []
changed zero f (x ∷ xs) = f x ∷ xs
changed (suc k) f (x ∷ xs) = x ∷ changed k f xs

-- a labelling in place of a search for its best leaf
abbrev pub without_best : Goal → Goal
without_best (Best o least t c) = Label o t
without_best g = g

-- the query with these goals
abbrev pub with_goals : Query → List Goal → Query
with_goals q gs = record { variables = q.variables; names = q.names; shown = q.shown; goals = gs }

-- The query as it is looked at: no best leaf is searched for. It has an answer where the labelling has one.
abbrev pub looked_at : Query → Query
looked_at q = with_goals q (map without_best q.goals)

-- as it is looked at, with those of its goals that are kept
abbrev pub keeping : List Bool → Query → Query
keeping ks q = with_goals q (kept ks (map without_best q.goals))

-- the program with these queries
abbrev pub with_queries : Program → List Query → Program
with_queries prog qs = record { clauses = prog.clauses; queries = qs }

-- the program in which these goals of its query with the number k are kept
abbrev pub keeping_of : ℕ → List Bool → Program → Program
keeping_of k ks prog = record { clauses = prog.clauses; queries = changed k (keeping ks) prog.queries }
