-- Clauses that need no frame: no goal stands in their bodies but a last user goal.
use Rattle.std.specs.Prelude.{◌≡◌, ℕ, ◌+◌, ◌<◌, Bool, List, ◌∷◌, [], ◌++◌, Option, Some, None, length}
use Rattle.fd_language.specs.Term.{Terms, no_terms}
use Rattle.fd_model.specs.ConstraintExpansion.{arguments}
use Rattle.term_pool.specs.declared.TermId.{TermId}
use Rattle.term_pool.specs.Contents.{Contents}
use Rattle.term_pool.specs.Terms.{term_of}
use Rattle.clause_check.specs.declared.program.Part.{Part}
use Rattle.clause_check.specs.declared.program.FlatGoal.TheVariants as flat
use Rattle.clause_check.specs.Programs.{FlatProgram, goal_at}
use Rattle.wam_code.specs.declared.instruction.Register.{Register}
use Rattle.wam_code.specs.declared.instruction.Register.TheVariants.{X}
use Rattle.wam_code.specs.declared.instruction.Code.{Code}
use Rattle.wam_code.specs.declared.instruction.Code.TheVariants.{Execute, Proceed}
use Rattle.clause_code.specs.declared.frameless_clauses.Body.{Body}
use Rattle.clause_code.specs.declared.frameless_clauses.Body.TheVariants.{Empty, Call, Longer}
use Rattle.clause_code.specs.Pieces.{Predicate}
use Rattle.clause_code.specs.Predicates.{IsNumberOf}
use Rattle.clause_code.specs.SimpleGoals.{AreMade}
use Rattle.clause_code.specs.Steps.{home, puts, code_of}
use Rattle.clause_code.specs.ClauseParts.{head_code}

-- no goal, or a user goal alone
abbrev pub IsShortBody : FlatProgram → Part → Option TermId → Type 0
IsShortBody p a None = a.from ≡ a.to
IsShortBody p a (Some t) = (a.to ≡ a.from + 1) × (goal_at p a.from ≡ flat.Call t)

-- the arguments of the goal, if there is one
abbrev pub last_arguments : Contents → Option TermId → Terms
last_arguments c None = no_terms
last_arguments c (Some t) = arguments (term_of c t)

-- what the goals of a part are
abbrev pub IsBody : FlatProgram → Part → Body → Type 0
IsBody p a Empty = IsShortBody p a None
IsBody p a (Call t) = IsShortBody p a (Some t)
IsBody p a Longer = Unit {0}

-- variable x in the register first + x, and `free` is behind them all
pub record InRegisters (homes : List Register) (first free : ℕ) : Type 0 where
  pub long : first + length homes ≡ free
  pub registers : (x : ℕ) → x < length homes → home homes x ≡ X (first + x)

-- the arguments of a user goal, and what goes on at its predicate
pub record GoesOn (c : Contents) (ps : List Predicate) (homes : List Register) (free : ℕ) (made : List Bool) (t : TermId) (old new : List Code) : Type 0 where
  pub number : ℕ
  pub of : IsNumberOf c ps (term_of c t) number
  pub code : new ≡ old ++ (code_of homes made (puts c 1 free (arguments (term_of c t))) ++ (Execute number ∷ []))

-- a head, and then the goal where there is one
pub record ShortCall (c : Contents) (ps : List Predicate) (homes : List Register) (free : ℕ) (t u : TermId) (old new : List Code) : Type 0 where
  pub made : List Bool
  pub all : AreMade made
  pub long : length made ≡ length homes
  pub goes : GoesOn c ps homes free made u (old ++ head_code c homes free (arguments (term_of c t))) new

abbrev pub IsShort : Contents → List Predicate → List Register → ℕ → TermId → Option TermId → List Code → List Code → Type 0
IsShort c ps homes free t None old new = new ≡ (old ++ head_code c homes free (arguments (term_of c t))) ++ (Proceed ∷ [])
IsShort c ps homes free t (Some u) old new = ShortCall c ps homes free t u old new
