-- What a unification hands to the store, and what a heap and a store stand for together.
use Rattle.std.specs.Prelude.{◌≡◌, ℕ, ◌<◌, true, false, IsTrue, ℤ, pos, negsuc, List, [], ◌∷◌, ◌++◌, Option, Some, None, ◌⊎◌, if◌then◌else◌}
use Rattle.fd_language.specs.Term.{Term, Var, Int, Atom, Comp, Substitution}
use Rattle.fd_language.specs.Unifier.{Equation, IsMostGeneral, Unifies}
use Rattle.fd_language.specs.Family.{Family, has}
use Rattle.fd_language.specs.Range.{Indexical, Span, Dom, Number, reads}
use Rattle.fd_model.specs.ClosedFamilies.{constrained}
use Rattle.fd_language.specs.RangeRenaming.{rename_indexical}
use Rattle.fd_model.specs.Models.{IsModel}
use Rattle.branch_meaning.specs.Heap.{StandsForEquations, Below}

-- a variable of the store that met an integer, or another one
pub data Touch : Type 0 where
  Value : ℕ → ℤ → Touch
  Same : ℕ → ℕ → Touch

-- as equations between the store's variables and integers
abbrev pub touched : List Touch → List Equation
touched [] = []
touched (Value k z ∷ ts) = record { left = Var k; right = Int z } ∷ touched ts
touched (Same k j ∷ ts) = record { left = Var k; right = Var j } ∷ touched ts

-- the ranges that the machine posts for them
abbrev pub posts : List Touch → List Indexical
posts [] = []
posts (Value k z ∷ ts) = record { target = k; range = Span (Number z) (Number z) } ∷ posts ts
posts (Same k j ∷ ts) = record { target = k; range = Dom j } ∷ record { target = j; range = Dom k } ∷ posts ts

-- What a unification gives: a most general unifier of the cells' terms, the linked cells that are still open, and the touches. As equations these say exactly
-- what the new terms say of the linked cells.
pub record IsUnified (h : ℕ) (link : ℕ → Option ℕ) (eqs : List Equation) (new : Substitution) (link' : ℕ → Option ℕ) (ts : List Touch) : Type 0 where
  pub general : IsMostGeneral eqs new
  pub cells : (c : ℕ) → c < h → Below h (new c)
  pub still : (c k : ℕ) → link' c ≡ Some k → (link c ≡ Some k) × (new c ≡ Var c)
  pub plain : (c k : ℕ) → link c ≡ Some k → ((z : ℤ) × (new c ≡ Int z)) ⊎ ((d : ℕ) × (j : ℕ) × (new c ≡ Var d) × (link' d ≡ Some j))
  pub named : (k : ℕ) → IsTrue (has (constrained (posts ts)) k) → (c : ℕ) × (link c ≡ Some k)
  pub follow : (a : Substitution) → ((c k : ℕ) (z : ℤ) → link c ≡ Some k → new c ≡ Int z → a k ≡ Int z)
      → ((c d k j : ℕ) → link c ≡ Some k → link d ≡ Some j → new c ≡ new d → a k ≡ a j) → Unifies a (touched ts)
  pub values : (a : Substitution) → Unifies a (touched ts) → (c k : ℕ) (z : ℤ) → link c ≡ Some k → new c ≡ Int z → a k ≡ Int z
  pub pairs : (a : Substitution) → Unifies a (touched ts) → (c d k j : ℕ) → link c ≡ Some k → link' d ≡ Some j → new c ≡ Var d → a k ≡ a j

-- the set that the store shows of a term
abbrev pub linked_set : Option ℕ → Family → List ℕ
linked_set None T = []
linked_set (Some k) T = T k

abbrev pub shown_set : (ℕ → Option ℕ) → Family → Term → List ℕ
shown_set link T (Var c) = linked_set (link c) T
shown_set link T (Int (pos n)) = n ∷ []
shown_set link T (Int (negsuc n)) = []
shown_set link T (Atom a) = []
shown_set link T (Comp f ts) = []

-- A heap of h cells and a store with the ranges qs stand for the equations es and the ranges ps of a branch whose known variables are those of P. slot gives
-- each constrained variable a variable of the store.
pub record IsStored (M N : ℕ) (es : List Equation) (ps : List Indexical) (P : ℕ → Type 0) (h : ℕ) (look : Substitution) (link : ℕ → Option ℕ) (slot : ℕ → ℕ) (qs : List Indexical) : Type 0 where
  pub heap : StandsForEquations es P h look
  pub used : (v : ℕ) → IsTrue (has (constrained ps) v) → P v
  pub down : (T : Family) → IsModel M N [] qs T → IsModel M N es ps (λ v. T (slot v))
  pub up : (S : Family) → IsModel M N es ps S → (T : Family) × IsModel M N [] qs T × ((v : ℕ) → IsTrue (has (constrained ps) v) → T (slot v) ≡ S v)
  pub agrees : (T : Family) → IsModel M N [] qs T → (v : ℕ) → IsTrue (has (constrained ps) v) → shown_set link T (look v) ≡ T (slot v)
  pub slots : (v : ℕ) → IsTrue (has (constrained ps) v) → IsTrue (has (constrained qs) (slot v))
  pub linked : (v c : ℕ) → IsTrue (has (constrained ps) v) → look v ≡ Var c → (k : ℕ) × (link c ≡ Some k)
  pub from : (c k : ℕ) → link c ≡ Some k → (v : ℕ) × IsTrue (has (constrained ps) v) × (look v ≡ Var c) × (slot v ≡ k)

-- the variables that a range names
abbrev pub names : Indexical → List ℕ
names p = p.target ∷ reads p.range

-- How a range is posted: f gives each named variable, which is an open cell, the cell's variable of the store. Cells that weren't linked before get variables
-- that no posted range names.
pub record IsPosted (ps : List Indexical) (P : ℕ → Type 0) (look : Substitution) (link : ℕ → Option ℕ) (slot : ℕ → ℕ) (qs : List Indexical) (p : Indexical)
    (f : ℕ → ℕ) (link' : ℕ → Option ℕ) (slot' : ℕ → ℕ) : Type 0 where
  pub used : (v : ℕ) → has (names p) v ≡ true → P v
  pub old : (v : ℕ) → has (constrained ps) v ≡ true → slot' v ≡ slot v
  pub new : (v : ℕ) → has (names p) v ≡ true → has (constrained ps) v ≡ false → slot' v ≡ f v
  pub cell : (v : ℕ) → has (names p) v ≡ true → (c : ℕ) × (look v ≡ Var c) × (link' c ≡ Some (f v))
  pub keep : (c k : ℕ) → link c ≡ Some k → link' c ≡ Some k
  pub fresh : (c k : ℕ) → link' c ≡ Some k → (link c ≡ Some k) ⊎ ((v : ℕ) × (has (names p) v ≡ true) × (look v ≡ Var c) × (has (constrained ps) v ≡ false) × (has (constrained qs) k ≡ false))
  pub one : (c d k : ℕ) → link' c ≡ Some k → link' d ≡ Some k → c ≡ d

-- What a heap and a store supply for that, without the slots: each named variable is an open cell, which is linked now to its variable of the store; older
-- links stay, and new ones go to variables that no posted range names.
pub record IsLinked (P : ℕ → Type 0) (look : Substitution) (link : ℕ → Option ℕ) (qs : List Indexical) (p : Indexical) (f : ℕ → ℕ) (link' : ℕ → Option ℕ) : Type 0 where
  pub used : (v : ℕ) → has (names p) v ≡ true → P v
  pub cell : (v : ℕ) → has (names p) v ≡ true → (c : ℕ) × (look v ≡ Var c) × (link' c ≡ Some (f v))
  pub keep : (c k : ℕ) → link c ≡ Some k → link' c ≡ Some k
  pub fresh : (c k : ℕ) → link' c ≡ Some k → (link c ≡ Some k) ⊎ ((v : ℕ) × (has (names p) v ≡ true) × (look v ≡ Var c) × (has (constrained qs) k ≡ false))
  pub one : (c d k : ℕ) → link' c ≡ Some k → link' d ≡ Some k → c ≡ d

-- the slots then: a variable that was constrained keeps its own
abbrev pub next_slot : List Indexical → (ℕ → ℕ) → (ℕ → ℕ) → ℕ → ℕ
next_slot ps slot f v = if has (constrained ps) v then slot v else f v

-- ranges that are posted one after the other, the first of them first
abbrev pub ArePosted : List Indexical → (ℕ → Type 0) → Substitution → (ℕ → Option ℕ) → (ℕ → ℕ) → List Indexical → List Indexical → (ℕ → Option ℕ) → (ℕ → ℕ) → List Indexical → Type 0
ArePosted ps P look link slot qs [] link' slot' qs' = (link ≡ link') × (slot ≡ slot') × (qs ≡ qs')
ArePosted ps P look link slot qs (w ∷ ws) link' slot' qs' =
    (of : ℕ → ℕ) × (l : ℕ → Option ℕ) × (t : ℕ → ℕ) × IsPosted ps P look link slot qs w of l t × ArePosted (w ∷ ps) P look l t (qs ++ rename_indexical of w ∷ []) ws link' slot' qs'
