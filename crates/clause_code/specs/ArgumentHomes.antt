-- Variables that stay in argument registers: which homes suit a head, and which suit a goal.
use Rattle.std.specs.Prelude.{◌≡◌, ◌⊎◌, ℕ, zero, suc, ◌+◌, ◌<◌, ◌≤◌, List, [], ◌∷◌, ◌++◌, Option, Some, None, All, length, slice_set}
use Rattle.fd_language.specs.Term.{Term, Terms, Var, no_terms, term, term_count}
use Rattle.branch_meaning.specs.Heap.{Of, AllOf}
use Rattle.term_pool.specs.declared.TermId.{TermId}
use Rattle.term_pool.specs.Contents.{Contents}
use Rattle.term_pool.specs.Terms.{term_of, terms_by, total_size}
use Rattle.wam_code.specs.declared.instruction.Register.{Register}
use Rattle.wam_code.specs.declared.instruction.Register.TheVariants.{X}
use Rattle.clause_code.specs.SimpleGoals.{IsOwn}
use Rattle.clause_code.specs.Steps.{home}

-- ---- a head

-- the variable's home is none of the argument registers from `least` to k
abbrev pub IsOutside : List Register → ℕ → ℕ → ℕ → Type 0
IsOutside homes least k x = (i : ℕ) → x < length homes → least ≤ i → i ≤ k → home homes x ≡ X i → ⊥

-- a head's argument in the register j: no variable of it is made in a register that is read later
abbrev pub Waits : List Register → ℕ → ℕ → Term → Type 0
Waits homes j k t = Of (IsOutside homes (suc j) k) t

-- The arguments of a head, from the register j on: each argument register, up to k, is read before it is a variable's home.
abbrev pub AllWait : List Register → ℕ → ℕ → Terms → Type 0
AllWait homes j k no_terms = Unit {0}
AllWait homes j k (term t ts) = Waits homes j k t × AllWait homes (suc j) k ts

-- ---- a goal

-- The register may become the term: it is no variable's home, or that of the variable that the term is.
abbrev pub Lands : List Register → ℕ → Term → Type 0
Lands homes r t = (x : ℕ) → x < length homes → home homes x ≡ X r → t ≡ Var x

-- the arguments of a goal, from the register r on
abbrev pub AllLand : List Register → ℕ → Terms → Type 0
AllLand homes r no_terms = Unit {0}
AllLand homes r (term t ts) = Lands homes r t × AllLand homes (suc r) ts

-- ---- how homes are found

-- the n-th of the terms, from 0 on
abbrev pub nth : Terms → ℕ → Option Term
nth no_terms n = None
nth (term t ts) zero = Some t
nth (term t ts) (suc n) = nth ts n

-- the variable x has another home, or the old one
abbrev pub MayStay : ℕ → ℕ → List Register → List Register → Type 0
MayStay x argument old new = (new ≡ old) ⊎ (new ≡ slice_set old x (X argument))

-- Each variable's home is the old one, or the register of a place from `from` on, where the terms have it.
pub record Stayed (old new : List Register) (ts : Terms) (from : ℕ) : Type 0 where
  pub long : length new ≡ length old
  pub homes : (x : ℕ) → x < length old → (home new x ≡ home old x) ⊎ ((n : ℕ) × (from ≤ n) × (home new x ≡ X (suc n)) × (nth ts n ≡ Some (Var x)))

-- Each variable's home is the old one, or variable x's is the register first + x.
pub record MovedBack (old new : List Register) (first : ℕ) : Type 0 where
  pub long : length new ≡ length old
  pub homes : (x : ℕ) → x < length old → (home new x ≡ home old x) ⊎ (home new x ≡ X (first + x))

-- The last of the terms that a walk has before it is taken: its parts are before the walk, or its variable's home is outside.
pub record Leaves (c : Contents) (t : TermId) (least last first : ℕ) (homes : List Register) (terms : List TermId) (new : List Register) (rest : List TermId) : Type 0 where
  pub back : MovedBack homes new first
  pub outside : (h : List Register) → MovedBack new h first → AllOf (IsOutside h least last) (terms_by (term_of c) rest) → AllOf (IsOutside h least last) (terms_by (term_of c) (terms ++ t ∷ []))
  pub lighter : total_size c rest < total_size c (terms ++ t ∷ [])
  pub own : All (IsOwn c (length homes)) rest

-- Each variable has a register of its own before `free`, which suits the head's arguments ts and the goal's arguments us.
pub record AreHomes (homes : List Register) (free : ℕ) (ts us : Terms) : Type 0 where
  pub apart : (x y : ℕ) → x < length homes → y < length homes → home homes x ≡ home homes y → x ≡ y
  pub registers : (x : ℕ) → x < length homes → (i : ℕ) × (home homes x ≡ X i) × (i < free)
  pub waits : AllWait homes 1 (term_count ts) ts
  pub lands : AllLand homes 1 us
