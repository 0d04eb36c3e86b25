-- What a unification tells the store, and what it does to the store's variables in a heap.
use Rattle.std.specs.Prelude.{◌≡◌, ℕ, ℤ, ◌⊎◌, List, [], ◌∷◌, All}
use Rattle.fd_language.specs.Term.{Term, Var, Int, Atom, Comp, Substitution}
use Rattle.fd_language.specs.Unifier.{Equation, Unifies}
use Rattle.heap_cells.specs.Cells.{Cells, linked, slot_at}
use Rattle.unify_core.specs.declared.Touch.{Touch}
use Rattle.unify_core.specs.declared.Touch.TheVariants.{Value, Same}

-- the touches as equations between the store's variables and integers
abbrev pub touch_equation : Touch → Equation
touch_equation (Value k z) = record { left = Var k; right = Int z }
touch_equation (Same k j) = record { left = Var k; right = Var j }

abbrev pub touched : List Touch → List Equation
touched [] = []
touched (t ∷ ts) = touch_equation t ∷ touched ts

-- variable c of the heap is variable k of the store, and isn't bound
abbrev pub IsLinked : Cells → ℕ → ℕ → Type 0
IsLinked h c k = slot_at h c ≡ linked k

-- the touch names store variables of the heap
abbrev pub NamesLinked : Cells → Touch → Type 0
NamesLinked h (Value k z) = (c : ℕ) × IsLinked h c k
NamesLinked h (Same k j) = ((c : ℕ) × IsLinked h c k) × ((d : ℕ) × IsLinked h d j)

-- the store's variables of the heap are integers, or variables of the store still
abbrev pub IsPlain : Cells → Term → Type 0
IsPlain h t = ((z : ℤ) × (t ≡ Int z)) ⊎ ((d : ℕ) × (j : ℕ) × (t ≡ Var d) × IsLinked h d j)

-- What becomes of the store's variables where each variable c of the heap old becomes new c, and the heap becomes now.
pub record AreTouched (old now : Cells) (new : Substitution) (ts : List Touch) : Type 0 where
  pub still : (c k : ℕ) → IsLinked now c k → IsLinked old c k × (new c ≡ Var c)
  pub plain : (c k : ℕ) → IsLinked old c k → IsPlain now (new c)
  pub named : All (NamesLinked old) ts
  -- the touches follow from the new terms
  pub follow : (a : Substitution)
      → ((c k : ℕ) (z : ℤ) → IsLinked old c k → new c ≡ Int z → a k ≡ Int z)
      → ((c d k j : ℕ) → IsLinked old c k → IsLinked old d j → new c ≡ new d → a k ≡ a j)
      → Unifies a (touched ts)
  -- and from them the values and the equalities follow
  pub values : (a : Substitution) → Unifies a (touched ts) → (c k : ℕ) (z : ℤ) → IsLinked old c k
      → new c ≡ Int z → a k ≡ Int z
  pub pairs : (a : Substitution) → Unifies a (touched ts) → (c d k j : ℕ) → IsLinked old c k
      → IsLinked now d j → new c ≡ Var d → a k ≡ a j

-- an atom or a compound term
abbrev pub IsSymbolic : Term → Type 0
IsSymbolic (Var x) = ⊥
IsSymbolic (Int z) = ⊥
IsSymbolic (Atom a) = Unit {0}
IsSymbolic (Comp f ts) = Unit {0}

-- each unifier, if there is one, makes a variable of the store an atom or a compound term
abbrev pub IsRefuted : Cells → List Equation → Type 0
IsRefuted h es = (u : Substitution) → Unifies u es → (c : ℕ) × (k : ℕ) × IsLinked h c k
    × IsSymbolic (u c)
