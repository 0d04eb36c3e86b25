-- The clauses of each predicate.
use Rattle.std.specs.Prelude.{◌≡◌, ℕ, ◌==◌, ◌&&◌, Bool, false, List, map, filter, length, Option, Some, None}
use Rattle.std.specs.List.{range_with_len}
use Rattle.term_pool.specs.Contents.{Shape, var, int, atom, comp, shape_at}
use Rattle.clause_check.specs.Programs.{FlatProgram, clause_at}
use Rattle.clause_code.specs.Pieces.{Predicate}

-- the predicate of an atom or a compound term
abbrev pub shape_predicate : Shape → Option Predicate
shape_predicate (var x) = None
shape_predicate (int z) = None
shape_predicate (atom a) = Some (record { name = a; arity = 0 })
shape_predicate (comp f ts) = Some (record { name = f; arity = length ts })

abbrev pub some_predicate : Option Shape → Option Predicate
some_predicate None = None
some_predicate (Some s) = shape_predicate s

-- that of a clause's head
abbrev pub head_predicate : FlatProgram → ℕ → Option Predicate
head_predicate p c = some_predicate (shape_at p.pool (clause_at p c).head)

abbrev pub same_predicate : Predicate → Predicate → Bool
same_predicate s t = (s.name.number == t.name.number) && (s.arity == t.arity)

abbrev pub is_predicate : Predicate → Option Predicate → Bool
is_predicate s None = false
is_predicate s (Some t) = same_predicate s t

-- of the first n clauses the numbers of the predicate's, in text order
abbrev pub numbers_of : FlatProgram → ℕ → Predicate → List ℕ
numbers_of p n s = filter (λ c. is_predicate s (head_predicate p c)) (range_with_len 0 n)

-- the groups of the first n clauses, one for each predicate
abbrev pub AreGroups : FlatProgram → List Predicate → ℕ → List (List ℕ) → Type 0
AreGroups p ps n groups = groups ≡ map (numbers_of p n) ps
