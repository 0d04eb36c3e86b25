-- The predicates that a program names, each with its number.
use Rattle.std.specs.Prelude.{◌≡◌, ℕ, ◌<◌, ◌≤◌, List, ◌++◌, length, Some, slice_get, slice_index_or}
use Rattle.fd_language.specs.Term.{Term, term_count}
use Rattle.fd_model.specs.ConstraintExpansion.{arguments}
use Rattle.term_pool.specs.declared.TermId.{TermId}
use Rattle.term_pool.specs.Contents.{Contents, atom_name}
use Rattle.term_pool.specs.Terms.{term_of}
use Rattle.clause_check.specs.declared.program.FlatGoal.TheVariants.{Call}
use Rattle.clause_check.specs.Programs.{FlatProgram, clause_at, goal_at}
use Rattle.wam_code.specs.declared.instruction.Code.{Code}
use Rattle.wam_code.specs.Places.{made}
use Rattle.clause_code.specs.Pieces.{Base, Predicate}
use Rattle.clause_code.specs.declared.predicates.Functor.{Functor}

-- the term is a goal or a head of the predicate
pub record IsOf (c : Contents) (t : Term) (s : Predicate) : Type 0 where
  pub name : t ≡ made (atom_name c s.name) (arguments t)
  pub arity : term_count (arguments t) ≡ s.arity

-- and of one of these
abbrev pub IsOfOne : Contents → List Predicate → Term → Type 0
IsOfOne c ps t = (n : ℕ) × (s : Predicate) × (slice_get ps n ≡ Some s) × IsOf c t s

-- the predicate with a number
abbrev pub no_predicate : Predicate
no_predicate = record { name = record { number = 0 }; arity = 0 }

abbrev pub predicate_at : List Predicate → ℕ → Predicate
predicate_at ps n = slice_index_or ps n no_predicate

-- and of the one with this number
abbrev pub IsNumberOf : Contents → List Predicate → Term → ℕ → Type 0
IsNumberOf c ps t n = (s : Predicate) × (slice_get ps n ≡ Some s) × IsOf c t s

-- and of one of these whose name is the pool's, and which has 255 arguments at most
abbrev pub IsCallOfOne : Contents → List Predicate → Term → Type 0
IsCallOfOne c ps t = (n : ℕ) × (s : Predicate) × (slice_get ps n ≡ Some s) × IsOf c t s × (s.name.number < length c.names) × (s.arity ≤ 255)

-- no two numbers have one predicate
abbrev pub AreApart : List Predicate → Type 0
AreApart ps = (n m : ℕ) (s : Predicate) → slice_get ps n ≡ Some s → slice_get ps m ≡ Some s → n ≡ m

-- They are the program's: each head and each user goal is of one of them.
pub record ArePredicates (p : FlatProgram) (ps : List Predicate) : Type 0 where
  pub heads : (c : ℕ) → c < length p.clauses → IsOfOne p.pool ps (term_of p.pool (clause_at p c).head)
  pub calls : (i : ℕ) (t : TermId) → i < length p.goals → goal_at p i ≡ Call t → IsOfOne p.pool ps (term_of p.pool t)
  pub apart : AreApart ps
  pub atoms : (n : ℕ) (s : Predicate) → slice_get ps n ≡ Some s → s.name.number < length p.pool.names
  pub narrow : (n : ℕ) (s : Predicate) → slice_get ps n ≡ Some s → s.arity ≤ 255

-- what is settled before the program's code is written
abbrev pub base_in : FlatProgram → List Predicate → Base
base_in p ps = record { pool = p.pool; ranges = p.ranges; predicates = ps }

-- more instructions behind the old ones, of which P is true
abbrev pub Appends : List Code → List Code → (List Code → Type 0) → Type 0
Appends old new P = (is : List Code) × (new ≡ old ++ is) × P is

-- as it is kept
abbrev pub predicate_in : Functor → Predicate
predicate_in f = record { name = f.name; arity = f.arity }

-- ---- as they are gathered

-- the functor of the term, with a name of the pool
pub record HasFunctor (c : Contents) (t : Term) (f : Functor) : Type 0 where
  pub of : IsOf c t (predicate_in f)
  pub own : f.name.number < length c.names
  pub few : f.arity ≤ 255

-- that of the term is one of these
abbrev pub HasOne : Contents → List Functor → Term → Type 0
HasOne c fs t = (n : ℕ) × (f : Functor) × (slice_get fs n ≡ Some f) × HasFunctor c t f

-- no two of them are the same
pub record AreFunctors (c : Contents) (fs : List Functor) : Type 0 where
  pub apart : (n m : ℕ) (f : Functor) → slice_get fs n ≡ Some f → slice_get fs m ≡ Some f → n ≡ m
  pub own : (n : ℕ) (f : Functor) → slice_get fs n ≡ Some f → f.name.number < length c.names
  pub few : (n : ℕ) (f : Functor) → slice_get fs n ≡ Some f → f.arity ≤ 255

-- The functor of the term came to the old ones, which kept their places.
pub record Gathers (c : Contents) (t : Term) (old new : List Functor) : Type 0 where
  pub kept : (n : ℕ) (f : Functor) → slice_get old n ≡ Some f → slice_get new n ≡ Some f
  pub one : HasOne c new t
  pub functors : AreFunctors c old → AreFunctors c new

-- the functors of the first heads, and of the user goals among the first goals
pub record Gathered (p : FlatProgram) (heads goals : ℕ) (fs : List Functor) : Type 0 where
  pub functors : AreFunctors p.pool fs
  pub of_heads : (c : ℕ) → c < heads → HasOne p.pool fs (term_of p.pool (clause_at p c).head)
  pub of_calls : (i : ℕ) (t : TermId) → i < goals → goal_at p i ≡ Call t → HasOne p.pool fs (term_of p.pool t)
