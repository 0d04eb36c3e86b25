-- What the code of a clause does for its terms, step by step. A variable's first step makes it, in its home.
use Rattle.std.specs.Prelude.{◌≡◌, ℕ, zero, suc, ℤ, ◌+◌, ◌<◌, ◌≤◌, ◌==◌, Bool, true, false, if◌then◌else◌, List, [], ◌∷◌, ◌++◌, length, slice_index_or}
use Rattle.std.specs.Prelude.{slice_set}
use Rattle.std.specs.Str.{bytes_eq}
use Rattle.fd_language.specs.Term.{Name, Term, Terms, Var, Int, Atom, Comp, no_terms, term, term_count}
use Rattle.term_pool.specs.declared.AtomId.{AtomId}
use Rattle.term_pool.specs.Contents.{Contents, atom_name}
use Rattle.wam_code.specs.declared.instruction.Register.{Register}
use Rattle.wam_code.specs.declared.instruction.Register.TheVariants.{X, Y}
use Rattle.wam_code.specs.declared.instruction.Code.{Code}
use Rattle.wam_code.specs.declared.instruction.Code.TheVariants.{GetVariable, GetValue, GetConstant, GetInteger, GetStructure, UnifyVariable, UnifyValue}
use Rattle.wam_code.specs.declared.instruction.Code.TheVariants.{UnifyConstant, UnifyInteger, PutVariable, PutValue, PutConstant, PutInteger, PutStructure}

-- ---- steps

pub data Step : Type 0 where
  get_variable : ℕ → ℕ → Step
  get_constant : AtomId → ℕ → Step
  get_integer : ℤ → ℕ → Step
  get_structure : AtomId → ℕ → ℕ → Step
  unify_variable : ℕ → Step
  unify_register : ℕ → Step
  unify_new : ℕ → Step
  unify_constant : AtomId → Step
  unify_integer : ℤ → Step
  put_variable : ℕ → ℕ → Step
  put_constant : AtomId → ℕ → Step
  put_integer : ℤ → ℕ → Step
  put_structure : AtomId → ℕ → ℕ → Step

-- where a variable is kept
abbrev pub home : List Register → ℕ → Register
home homes x = slice_index_or homes x (X 0)

abbrev pub is_made : List Bool → ℕ → Bool
is_made made x = slice_index_or made x true

-- the variables that are made, with x
abbrev pub marked : List Bool → ℕ → List Bool
marked made x = if is_made made x then made else slice_set made x true

abbrev pub marked_by : List Bool → Step → List Bool
marked_by made (get_variable x a) = marked made x
marked_by made (unify_variable x) = marked made x
marked_by made (put_variable x a) = marked made x
marked_by made _ = made

abbrev pub marked_by_all : List Bool → List Step → List Bool
marked_by_all made [] = made
marked_by_all made (s ∷ ss) = marked_by_all (marked_by made s) ss

-- it is the argument register a
abbrev pub is_register : Register → ℕ → Bool
is_register (X i) a = i == a
is_register (Y i) a = false

-- an argument becomes a variable's home, which is no instruction where it is its home
abbrev pub move_in : Register → ℕ → List Code
move_in r a = if is_register r a then [] else GetVariable r a ∷ []

-- and a variable becomes an argument
abbrev pub move_out : Register → ℕ → List Code
move_out r a = if is_register r a then [] else PutValue r a ∷ []

-- the instructions of a step, one or none
abbrev pub instructions : List Register → List Bool → Step → List Code
instructions homes made (get_variable x a) = if is_made made x then GetValue (home homes x) a ∷ [] else move_in (home homes x) a
instructions homes made (get_constant c a) = GetConstant c a ∷ []
instructions homes made (get_integer z a) = GetInteger z a ∷ []
instructions homes made (get_structure f n a) = GetStructure f n a ∷ []
instructions homes made (unify_variable x) = if is_made made x then UnifyValue (home homes x) ∷ [] else UnifyVariable (home homes x) ∷ []
instructions homes made (unify_register r) = UnifyValue (X r) ∷ []
instructions homes made (unify_new r) = UnifyVariable (X r) ∷ []
instructions homes made (unify_constant c) = UnifyConstant c ∷ []
instructions homes made (unify_integer z) = UnifyInteger z ∷ []
instructions homes made (put_variable x a) = if is_made made x then move_out (home homes x) a else PutVariable (home homes x) a ∷ []
instructions homes made (put_constant c a) = PutConstant c a ∷ []
instructions homes made (put_integer z a) = PutInteger z a ∷ []
instructions homes made (put_structure f n a) = PutStructure f n a ∷ []

abbrev pub code_of : List Register → List Bool → List Step → List Code
code_of homes made [] = []
code_of homes made (s ∷ ss) = instructions homes made s ++ code_of homes (marked_by made s) ss

-- ---- the steps of terms

abbrev pub place_in : List Name → Name → ℕ
place_in [] n = 0
place_in (m ∷ ms) n = if bytes_eq n m then 0 else suc (place_in ms n)

-- the atom with a name
abbrev pub atom_of : Contents → Name → AtomId
atom_of c n = record { number = place_in c.names n }

-- how many of the terms are compound
abbrev pub compounds : Terms → ℕ
compounds no_terms = 0
compounds (term (Comp f us) ts) = suc (compounds ts)
compounds (term t ts) = compounds ts

-- the register behind j, if j is given to a compound term
abbrev pub behind : ℕ → Term → ℕ
behind j (Comp f us) = suc j
behind j _ = j

-- a compound argument of a structure: one that is read gets the register r, and one that is built is there
abbrev pub inner : Bool → ℕ → Step
inner true r = unify_new r
inner false r = unify_register r

abbrev pub inner_code : Bool → ℕ → Code
inner_code true r = UnifyVariable (X r)
inner_code false r = UnifyValue (X r)

-- an argument of a structure that is read or built, where the register j is a compound one's
abbrev pub part : Contents → Bool → ℕ → Term → Step
part c read j (Var x) = unify_variable x
part c read j (Int z) = unify_integer z
part c read j (Atom a) = unify_constant (atom_of c a)
part c read j (Comp f us) = inner read j

-- the arguments of a structure, where the registers from j on are those of the compound ones
abbrev pub parts : Contents → Bool → ℕ → Terms → List Step
parts c read j no_terms = []
parts c read j (term (Var x) ts) = unify_variable x ∷ parts c read j ts
parts c read j (term (Int z) ts) = unify_integer z ∷ parts c read j ts
parts c read j (term (Atom a) ts) = unify_constant (atom_of c a) ∷ parts c read j ts
parts c read j (term (Comp f us) ts) = inner read j ∷ parts c read (suc j) ts

-- A compound term into the register r: first those of its arguments that are compound, into the registers from `free` on.
abbrev mutual
  pub build : Contents → ℕ → ℕ → Term → List Step
  build c r free (Var x) = []
  build c r free (Int z) = []
  build c r free (Atom a) = []
  build c r free (Comp f us) = builds c free (free + compounds us) us ++ (put_structure (atom_of c f) (term_count us) r ∷ parts c false free us)

  -- the compound ones of the terms into the registers from next on, the last one first
  pub builds : Contents → ℕ → ℕ → Terms → List Step
  builds c next free no_terms = []
  builds c next free (term (Var x) ts) = builds c next free ts
  builds c next free (term (Int z) ts) = builds c next free ts
  builds c next free (term (Atom a) ts) = builds c next free ts
  builds c next free (term (Comp f us) ts) = builds c (suc next) free ts ++ build c next free (Comp f us)

-- A compound term that the register r has is read: its arguments, of which the compound ones get the registers from `free` on, and then these.
abbrev mutual
  pub reading : Contents → ℕ → ℕ → Term → List Step
  reading c r free (Var x) = []
  reading c r free (Int z) = []
  reading c r free (Atom a) = []
  reading c r free (Comp f us) = (get_structure (atom_of c f) (term_count us) r ∷ parts c true free us) ++ readings c free (free + compounds us) us

  -- the compound ones of the terms from the registers from next on, the last one first
  pub readings : Contents → ℕ → ℕ → Terms → List Step
  readings c next free no_terms = []
  readings c next free (term (Var x) ts) = readings c next free ts
  readings c next free (term (Int z) ts) = readings c next free ts
  readings c next free (term (Atom a) ts) = readings c next free ts
  readings c next free (term (Comp f us) ts) = readings c (suc next) free ts ++ reading c next free (Comp f us)

-- a goal's argument into the register r
abbrev pub put : Contents → ℕ → ℕ → Term → List Step
put c r free (Var x) = put_variable x r ∷ []
put c r free (Int z) = put_integer z r ∷ []
put c r free (Atom a) = put_constant (atom_of c a) r ∷ []
put c r free (Comp f us) = build c r free (Comp f us)

-- the arguments of a goal into the registers from i on
abbrev pub puts : Contents → ℕ → ℕ → Terms → List Step
puts c i free no_terms = []
puts c i free (term t ts) = put c i free t ++ puts c (suc i) free ts

-- a head's argument, which is in the register i
abbrev pub get : Contents → ℕ → ℕ → Term → List Step
get c i free (Var x) = get_variable x i ∷ []
get c i free (Int z) = get_integer z i ∷ []
get c i free (Atom a) = get_constant (atom_of c a) i ∷ []
get c i free (Comp f us) = reading c i free (Comp f us)

-- the arguments of a head, from the register i on
abbrev pub gets : Contents → ℕ → ℕ → Terms → List Step
gets c i free no_terms = []
gets c i free (term t ts) = get c i free t ++ gets c (suc i) free ts

-- the pool has an atom with the name
pub record HasAtom (c : Contents) (n : Name) : Type 0 where
  pub name : atom_name c (atom_of c n) ≡ n
  pub within : (atom_of c n).number < length c.names

-- of v variables and the pool's names, with not too many arguments
abbrev mutual
  pub Suits : Contents → ℕ → Term → Type 0
  Suits c v (Var x) = x < v
  Suits c v (Int z) = Unit {0}
  Suits c v (Atom a) = HasAtom c a
  Suits c v (Comp f ts) = HasAtom c f × (1 ≤ term_count ts) × (term_count ts ≤ 255) × AllSuit c v ts

  pub AllSuit : Contents → ℕ → Terms → Type 0
  AllSuit c v no_terms = Unit {0}
  AllSuit c v (term t ts) = Suits c v t × AllSuit c v ts

-- ---- the variables that no step has made

-- those below n are made too
abbrev pub filled : List Bool → ℕ → List Bool
filled made zero = made
filled made (suc n) = marked (filled made n) n

-- x is made, unless it is
abbrev pub fill : List Register → ℕ → List Bool → ℕ → List Code
fill homes scratch made x = if is_made made x then [] else PutVariable (home homes x) scratch ∷ []

abbrev pub fills : List Register → ℕ → List Bool → ℕ → List Code
fills homes scratch made zero = []
fills homes scratch made (suc n) = fills homes scratch made n ++ fill homes scratch (filled made n) n
