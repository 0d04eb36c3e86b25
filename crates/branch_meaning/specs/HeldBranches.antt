-- What a machine's heap and store stand for together, whatever holds the goals.
use Rattle.std.specs.Prelude.{◌≡◌, ℕ, ◌≤◌, List, [], ◌∷◌, ◌++◌, Option, Some, None}
use Rattle.fd_language.specs.SingleValues.{value_at}
use Rattle.fd_language.specs.Term.{Var, Substitution}
use Rattle.fd_language.specs.Unifier.{Equation}
use Rattle.fd_language.specs.Family.{Family, IsInside}
use Rattle.fd_language.specs.Range.{Indexical}
use Rattle.fd_model.specs.Models.{IsModel}
use Rattle.branch_meaning.specs.Heap.{after}
use Rattle.branch_meaning.specs.Models.{Fix, numbers, Sure}
use Rattle.branch_meaning.specs.Store.{Touch, posts, IsStored}

-- each cell's whole term, the number of cells, each open cell's variable of the store, and the store's ranges
pub record HeldState : Type 0 where
  pub heap : Substitution
  pub cells : ℕ
  pub link : ℕ → Option ℕ
  pub store : List Indexical

-- The frame stands for the equations es and the ranges ps. look takes each known variable, that is each of P, to its term over cells, slot gives each
-- constrained one its variable of the store, and fixed are those that were bound because their set has one value.
pub record IsHeld (M N : ℕ) (f : HeldState) (es : List Equation) (ps : List Indexical) (P : ℕ → Type 0) (look : Substitution) : Type 0 where
  pub slot : ℕ → ℕ
  pub fixed : List Fix
  pub unused : (c : ℕ) → f.cells ≤ c → f.heap c ≡ Var c
  pub stored : IsStored M N (numbers fixed ++ es) ps P f.cells look f.link slot f.store
  pub sure : Sure M N es ps fixed

-- the frame after a unification, with its touches posted
abbrev pub unified_held : HeldState → Substitution → (ℕ → Option ℕ) → List Touch → HeldState
unified_held f new link ts = record { heap = after new f.heap; cells = f.cells; link = link; store = f.store ++ posts ts }

-- the variable of the store, unless its set has one value
abbrev pub open_link : List ℕ → ℕ → Option ℕ
open_link (w ∷ []) k = None
open_link _ k = Some k

abbrev pub link_at : Option ℕ → Family → Option ℕ
link_at None G = None
link_at (Some k) G = open_link (G k) k

-- the frame with each linked cell bound whose set has one value
abbrev pub fixed_held : HeldState → Family → HeldState
fixed_held f G = record { heap = after (λ c. value_at (f.link c) G c) f.heap; cells = f.cells; link = λ c. link_at (f.link c) G; store = f.store }

-- The store is at rest: T has its sets, and no open cell's set has one value.
pub record IsAtRest (M N : ℕ) (f : HeldState) (T : Family) : Type 0 where
  pub model : IsModel M N [] f.store T
  pub most : (R : Family) → IsModel M N [] f.store R → IsInside R T
  pub several : (c k n : ℕ) → f.link c ≡ Some k → T k ≡ n ∷ [] → ⊥
