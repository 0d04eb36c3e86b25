-- What is written, and what is still to be built.
use Rattle.std.specs.Prelude.{◌≡◌, ℕ, ◌+◌, ◌<◌, ◌≤◌, Bool, true, false, List, [], ◌∷◌, ◌++◌, length, All}
use Rattle.fd_language.specs.Term.{Term, Terms, Var, Int, Atom, Comp, term_count}
use Rattle.term_pool.specs.declared.TermId.{TermId}
use Rattle.term_pool.specs.Contents.{Contents}
use Rattle.term_pool.specs.Terms.{term_of, terms_by, size, sizes}
use Rattle.wam_code.specs.declared.instruction.Register.{Register}
use Rattle.wam_code.specs.declared.instruction.Code.{Code}
use Rattle.clause_code.specs.declared.terms.Work.{Work}
use Rattle.clause_code.specs.declared.terms.Work.TheVariants.{Build, Close, Read}
use Rattle.clause_code.specs.Steps.{Step, get_structure, put_structure, marked_by_all, code_of, atom_of, parts, build, builds, reading, readings, Suits}
use Rattle.clause_code.specs.Steps.{AllSuit}

-- The steps are written behind the code, and the variables are marked that they make.
pub record Writes (homes : List Register) (old : List Code) (made : List Bool) (ss : List Step) (new : List Code) (later : List Bool) : Type 0 where
  pub codes : new ≡ old ++ code_of homes made ss
  pub marks : later ≡ marked_by_all made ss

-- a compound term whose compound arguments are there
abbrev pub closing : Contents → ℕ → ℕ → Term → List Step
closing c r free (Var x) = []
closing c r free (Int z) = []
closing c r free (Atom a) = []
closing c r free (Comp f us) = put_structure (atom_of c f) (term_count us) r ∷ parts c false free us

-- a compound term that the register r has, whose compound arguments get registers
abbrev pub opening : Contents → ℕ → ℕ → Term → List Step
opening c r free (Var x) = []
opening c r free (Int z) = []
opening c r free (Atom a) = []
opening c r free (Comp f us) = get_structure (atom_of c f) (term_count us) r ∷ parts c true free us

abbrev pub work_steps : Contents → Work → List Step
work_steps c (Build t r free) = build c r free (term_of c t)
work_steps c (Close t r free) = closing c r free (term_of c t)
work_steps c (Read t r free) = reading c r free (term_of c t)

-- the steps of a stack, whose last work comes first
abbrev pub stack_steps : Contents → List Work → List Step
stack_steps c [] = []
stack_steps c (w ∷ ws) = stack_steps c ws ++ work_steps c w

abbrev pub weight : Contents → Work → ℕ
weight c (Build t r free) = size (term_of c t) + size (term_of c t)
weight c (Close t r free) = 1
weight c (Read t r free) = size (term_of c t) + size (term_of c t)

-- how many turns a stack takes at most
abbrev pub total_weight : Contents → List Work → ℕ
total_weight c [] = 0
total_weight c (w ∷ ws) = weight c w + total_weight c ws

abbrev pub work_term : Work → TermId
work_term (Build t r free) = t
work_term (Close t r free) = t
work_term (Read t r free) = t

-- its term is of the pool, and code can be written for it
abbrev pub IsWork : Contents → ℕ → Work → Type 0
IsWork c v w = ((work_term w).number < length c.entries) × Suits c v (term_of c (work_term w))

-- a compound term is read, or built
abbrev pub read_or_build : Bool → TermId → ℕ → ℕ → Work
read_or_build true t r free = Read t r free
read_or_build false t r free = Build t r free

-- the work for a term, which is none where the term is not compound
abbrev pub work_of : Bool → Term → TermId → ℕ → ℕ → List Work
work_of read (Comp f us) t r free = read_or_build read t r free ∷ []
work_of read _ t r free = []

-- the steps of those of the terms that are compound
abbrev pub inners : Contents → Bool → ℕ → ℕ → Terms → List Step
inners c true first free ts = readings c first free ts
inners c false first free ts = builds c first free ts

-- The compound ones of the terms are works on top of the others.
pub record Pushes (c : Contents) (read : Bool) (first free : ℕ) (ids : List TermId) (old new : List Work) : Type 0 where
  pub steps : stack_steps c new ≡ inners c read first free (terms_by (term_of c) ids) ++ stack_steps c old
  pub weight : total_weight c new ≤ sizes (terms_by (term_of c) ids) + sizes (terms_by (term_of c) ids) + total_weight c old
  pub works : (v : ℕ) → AllSuit c v (terms_by (term_of c) ids) → All (IsWork c v) old → All (IsWork c v) new

-- The term's steps are works on top of the others.
pub record Opens (c : Contents) (t : TermId) (r free : ℕ) (old new : List Work) : Type 0 where
  pub steps : stack_steps c new ≡ build c r free (term_of c t) ++ stack_steps c old
  pub lighter : total_weight c new < weight c (Build t r free) + total_weight c old
  pub works : (v : ℕ) → Suits c v (term_of c t) → All (IsWork c v) old → All (IsWork c v) new

-- The last work of a stack is taken: some of its steps are written, and the others are works again.
pub record Turns (c : Contents) (homes : List Register) (w : Work) (ws : List Work) (old : List Code) (made : List Bool) (us : List Work) (new : List Code) (later : List Bool) : Type 0 where
  pub steps : List Step
  pub writes : Writes homes old made steps new later
  pub rest : steps ++ stack_steps c us ≡ work_steps c w ++ stack_steps c ws
  pub lighter : total_weight c us < weight c w + total_weight c ws
  pub works : All (IsWork c (length homes)) us
