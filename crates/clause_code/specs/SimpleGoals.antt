-- The code of a goal that is no A ; B, no test and no cut.
use Rattle.std.specs.Prelude.{◌≡◌, ℕ, suc, ◌<◌, Bool, true, List, [], ◌∷◌, ◌++◌, Some, None, length, slice_get, All}
use Rattle.fd_language.specs.Term.{Terms, Var, no_terms, term, term_count}
use Rattle.fd_model.specs.declared.kinds.BuiltinKind.TheVariants as kind
use Rattle.fd_model.specs.ConstraintExpansion.{arguments}
use Rattle.range_code.specs.Slots.{slots_of}
use Rattle.term_pool.specs.declared.TermId.{TermId}
use Rattle.term_pool.specs.Contents.{Contents}
use Rattle.term_pool.specs.Terms.{term_of}
use Rattle.clause_check.specs.declared.program.FlatGoal.{FlatGoal}
use Rattle.clause_check.specs.declared.program.FlatGoal.TheVariants as flat
use Rattle.clause_check.specs.Programs.{FlatProgram, range_at}
use Rattle.wam_code.specs.declared.instruction.Register.{Register}
use Rattle.wam_code.specs.declared.instruction.Code.{Code}
use Rattle.wam_code.specs.declared.instruction.Code.TheVariants.{Call, Builtin, Constrain, Label, Best, PostRange, Either, TestOnly, EnterTest, CutTo}
use Rattle.clause_code.specs.Pieces.{Predicate}
use Rattle.clause_code.specs.Predicates.{IsOf, IsCallOfOne, IsNumberOf}
use Rattle.clause_code.specs.Bodies.{Levels}
use Rattle.clause_code.specs.Steps.{is_made, code_of, puts, Suits}

-- variables as terms
abbrev pub variables : List ℕ → Terms
variables [] = no_terms
variables (y ∷ ys) = term (Var y) (variables ys)

-- each variable is made
abbrev pub AreMade : List Bool → Type 0
AreMade made = (x : ℕ) → is_made made x ≡ true

-- the arguments into the first registers, and then one instruction
abbrev pub loads : Contents → List Register → List Bool → Terms → Code → List Code
loads c homes made ts i = code_of homes made (puts c 1 (suc (term_count ts)) ts) ++ (i ∷ [])

-- the target of a range, and the range's variables by their slots
abbrev pub posted_terms : FlatProgram → TermId → ℕ → Terms
posted_terms p t r = term (term_of p.pool t) (variables (slots_of (range_at p r)))

abbrev pub IsSimpleCode : FlatProgram → List Predicate → List Register → List Bool → FlatGoal → List Code → Type 0
IsSimpleCode p ps homes made flat.True is = is ≡ Builtin kind.True ∷ []
IsSimpleCode p ps homes made flat.Fail is = is ≡ Builtin kind.Fail ∷ []
IsSimpleCode p ps homes made (flat.Unify s t) is = is ≡ loads p.pool homes made (term (term_of p.pool s) (term (term_of p.pool t) no_terms)) (Builtin kind.Unify)
IsSimpleCode p ps homes made (flat.Post t r) is = is ≡ loads p.pool homes made (posted_terms p t r) (PostRange r (suc (length (slots_of (range_at p r)))))
IsSimpleCode p ps homes made (flat.Constrain k t) is = is ≡ loads p.pool homes made (arguments (term_of p.pool t)) (Constrain k)
IsSimpleCode p ps homes made (flat.Label o t) is = is ≡ loads p.pool homes made (term (term_of p.pool t) no_terms) (Label o)
IsSimpleCode p ps homes made (flat.Call t) is = (e : ℕ) × (s : Predicate) × (slice_get ps e ≡ Some s) × IsOf p.pool (term_of p.pool t) s
    × (is ≡ loads p.pool homes made (arguments (term_of p.pool t)) (Call e))
IsSimpleCode p ps homes made (flat.Builtin k t) is = is ≡ loads p.pool homes made (arguments (term_of p.pool t)) (Builtin k)
IsSimpleCode p ps homes made (flat.Best o least t u) is = is ≡ loads p.pool homes made (term (term_of p.pool t) (term (term_of p.pool u) no_terms)) (Best o least)
IsSimpleCode p ps homes made _ is = ⊥

-- the arguments of a user goal, and what calls the goal's predicate
pub record CallWritten (c : Contents) (ps : List Predicate) (homes : List Register) (made : List Bool) (t : TermId) (old new : List Code) : Type 0 where
  pub number : ℕ
  pub of : IsNumberOf c ps (term_of c t) number
  pub code : new ≡ old ++ loads c homes made (arguments (term_of c t)) (Call number)

-- the goal's code stands behind the old code, or of an A ; B or a test the first instruction, without the place that it names
abbrev pub GoalWritten : FlatProgram → List Predicate → List Register → Levels → List Bool → FlatGoal → List Code → List Code → Type 0
GoalWritten p ps homes l made flat.True old new = new ≡ old ++ (Builtin kind.True ∷ [])
GoalWritten p ps homes l made flat.Fail old new = new ≡ old ++ (Builtin kind.Fail ∷ [])
GoalWritten p ps homes l made (flat.Unify s t) old new = new ≡ old ++ loads p.pool homes made (term (term_of p.pool s) (term (term_of p.pool t) no_terms)) (Builtin kind.Unify)
GoalWritten p ps homes l made (flat.Post t r) old new = new ≡ old ++ loads p.pool homes made (posted_terms p t r) (PostRange r (suc (length (slots_of (range_at p r)))))
GoalWritten p ps homes l made (flat.Constrain k t) old new = new ≡ old ++ loads p.pool homes made (arguments (term_of p.pool t)) (Constrain k)
GoalWritten p ps homes l made (flat.Label o t) old new = new ≡ old ++ loads p.pool homes made (term (term_of p.pool t) no_terms) (Label o)
GoalWritten p ps homes l made (flat.Call t) old new = CallWritten p.pool ps homes made t old new
GoalWritten p ps homes l made (flat.Builtin k t) old new = new ≡ old ++ loads p.pool homes made (arguments (term_of p.pool t)) (Builtin k)
GoalWritten p ps homes l made (flat.Either a b) old new = new ≡ old ++ (Either 0 ∷ [])
GoalWritten p ps homes l made flat.Cut old new = new ≡ old ++ (CutTo l.cut ∷ [])
GoalWritten p ps homes l made (flat.If a b None) old new = new ≡ old ++ (TestOnly l.next ∷ [])
GoalWritten p ps homes l made (flat.If a b (Some c)) old new = new ≡ old ++ (EnterTest l.next (suc l.next) 0 ∷ [])
GoalWritten p ps homes l made (flat.Not a) old new = new ≡ old ++ (EnterTest l.next (suc l.next) 0 ∷ [])
GoalWritten p ps homes l made (flat.Best o least t u) old new = new ≡ old ++ loads p.pool homes made (term (term_of p.pool t) (term (term_of p.pool u) no_terms)) (Best o least)

-- a term of the pool for which code can be written
abbrev pub IsOwn : Contents → ℕ → TermId → Type 0
IsOwn c v t = (t.number < length c.entries) × Suits c v (term_of c t)

-- the goal's terms are such
abbrev pub IsWritable : FlatProgram → ℕ → FlatGoal → Type 0
IsWritable p v flat.True = Unit {0}
IsWritable p v flat.Fail = Unit {0}
IsWritable p v (flat.Unify s t) = IsOwn p.pool v s × IsOwn p.pool v t
IsWritable p v (flat.Post t r) = IsOwn p.pool v t × (r < length p.ranges) × All (λ y. y < v) (slots_of (range_at p r))
IsWritable p v (flat.Constrain k t) = IsOwn p.pool v t
IsWritable p v (flat.Label o t) = IsOwn p.pool v t
IsWritable p v (flat.Call t) = IsOwn p.pool v t
IsWritable p v (flat.Builtin k t) = IsOwn p.pool v t
IsWritable p v (flat.Best o least t u) = IsOwn p.pool v t × IsOwn p.pool v u
IsWritable p v _ = Unit {0}

-- a user goal is of one of the predicates
abbrev pub IsCalled : FlatProgram → List Predicate → FlatGoal → Type 0
IsCalled p ps (flat.Call t) = IsCallOfOne p.pool ps (term_of p.pool t)
IsCalled p ps _ = Unit {0}
