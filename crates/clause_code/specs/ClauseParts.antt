-- The parts of a clause's code beside its goals.
use Rattle.std.specs.Prelude.{◌≡◌, ℕ, zero, suc, ◌-◌, ◌+◌, ◌<◌, ◌≤◌, Bool, true, false, List, [], ◌∷◌, ◌++◌, length, replicate}
use Rattle.fd_language.specs.Term.{Term, Terms, term_count}
use Rattle.fd_model.specs.ConstraintExpansion.{arguments}
use Rattle.term_pool.specs.Contents.{Contents}
use Rattle.wam_code.specs.declared.instruction.Register.{Register}
use Rattle.wam_code.specs.declared.instruction.Register.TheVariants.{X, Y}
use Rattle.wam_code.specs.declared.instruction.Code.{Code}
use Rattle.wam_code.specs.declared.instruction.Code.TheVariants.{Allocate, Deallocate, Execute, Level}
use Rattle.term_pool.specs.declared.TermId.{TermId}
use Rattle.term_pool.specs.Terms.{term_of}
use Rattle.clause_code.specs.Pieces.{Predicate}
use Rattle.clause_code.specs.Predicates.{IsNumberOf}
use Rattle.clause_code.specs.Bodies.{Levels}
use Rattle.clause_code.specs.Steps.{puts, home, marked_by_all, code_of, gets, fills}

-- a frame with so many slots, where there is one
abbrev pub front : Bool → ℕ → List Code
front true slots = Allocate slots ∷ []
front false slots = []

-- and its end
abbrev pub back : Bool → List Code
back true = Deallocate ∷ []
back false = []

-- So many slots from this one on take the depth that was noted.
abbrev pub level_codes : ℕ → ℕ → List Code
level_codes zero k = []
level_codes (suc n) k = Level k ∷ level_codes n (suc k)

-- the level slots of a frame take it
abbrev pub levels_code : Levels → List Code
levels_code l = level_codes (l.end - l.first) l.first

-- So many level slots behind those of v variables. A cut goes to the first one, which is the clause's.
abbrev pub levels_behind : ℕ → ℕ → Levels
levels_behind v zero = record { first = suc v; end = suc v; cut = suc v; next = suc v }
levels_behind v (suc n) = record { first = suc v; end = suc v + suc n; cut = suc v; next = suc (suc v) }

-- without a frame there is none
abbrev pub no_levels : Levels
no_levels = record { first = 0; end = 0; cut = 0; next = 0 }

-- no variable is made
abbrev pub unmade : List Register → List Bool
unmade homes = replicate (length homes) false

-- the arguments of a head are read, and the variables that are in the body alone are made
abbrev pub head_code : Contents → List Register → ℕ → Terms → List Code
head_code c homes free ts = code_of homes (unmade homes) (gets c 1 free ts) ++ fills homes free (marked_by_all (unmade homes) (gets c 1 free ts)) (length homes)

-- The variables have homes: slots of the frame, or argument registers before `free`, which is behind the first k.
pub record IsHoused (homes : List Register) (framed : Bool) (slots k free : ℕ) : Type 0 where
  pub apart : (x y : ℕ) → x < length homes → y < length homes → home homes x ≡ home homes y → x ≡ y
  pub in_frame : framed ≡ true → (x : ℕ) → x < length homes → (i : ℕ) × (home homes x ≡ Y (suc i)) × (i < slots)
  pub in_registers : framed ≡ false → (x : ℕ) → x < length homes → (i : ℕ) × (home homes x ≡ X i)
  pub clear : (i : ℕ) → free ≤ i → (x : ℕ) → x < length homes → home homes x ≡ X i → ⊥
  pub above : k < free

-- variable x in the slot x + 1
pub record InOrder (homes : List Register) (v : ℕ) : Type 0 where
  pub long : length homes ≡ v
  pub slots : (x : ℕ) → x < v → home homes x ≡ Y (suc x)

-- each variable has a slot of its own
pub record AreSlots (homes : List Register) : Type 0 where
  pub apart : (x y : ℕ) → x < length homes → y < length homes → home homes x ≡ home homes y → x ≡ y
  pub slots : (x : ℕ) → x < length homes → (i : ℕ) × (home homes x ≡ Y (suc i))

-- a frame with so many slots, the head t, and the level slots
abbrev pub begin_code : Contents → List Register → ℕ → Levels → Term → List Code
begin_code c homes slots l t = front true slots ++ (head_code c homes (suc (term_count (arguments t))) (arguments t) ++ levels_code l)

-- the arguments of a last user goal, the end of the frame, and what goes on at the goal's predicate
pub record Executes (c : Contents) (ps : List Predicate) (homes : List Register) (made : List Bool) (t : TermId) (old new : List Code) : Type 0 where
  pub number : ℕ
  pub of : IsNumberOf c ps (term_of c t) number
  pub code : new ≡ old ++ ((code_of homes made (puts c 1 (suc (term_count (arguments (term_of c t)))) (arguments (term_of c t))) ++ back true) ++ (Execute number ∷ []))
