-- A goal `T in R` on the cells of its target and of the range's variables.
use Rattle.std.specs.Prelude.{◌≡◌, ◌⊎◌, ℕ, true, false, ◌==◌, if◌then◌else◌, ℤ, List, [], ◌∷◌, length, Option, Some, None}
use Rattle.fd_language.specs.Family.{Family, has}
use Rattle.fd_language.specs.Check.{fill_range}
use Rattle.fd_language.specs.Needs.{need_of}
use Rattle.fd_language.specs.Occurrences.{range_occurrences}
use Rattle.fd_language.specs.Range.{Range, Indexical, reads}
use Rattle.fd_language.specs.RangeRenaming.{rename_range}
use Rattle.fd_language.specs.Term.{Term, Var, Int, Atom, Comp, Substitution}
use Rattle.fd_language.specs.Unifier.{Unifies}
use Rattle.fd_model.specs.ClosedFamilies.{constrained}
use Rattle.fd_model.specs.Posting.{or_later, first_offence, integer_of}
use Rattle.fd_model.specs.declared.kinds.QueryFault.{QueryFault}
use Rattle.fd_model.specs.declared.kinds.QueryFault.TheVariants.{BadType}
use Rattle.heap_cells.specs.declared.Cell.{Cell}
use Rattle.heap_cells.specs.Cells.{Cells, IsOf}
use Rattle.heap_cells.specs.SeenTerms.{seen_term}
use Rattle.heap_cells.specs.Terms.{Naming, term_of}
use Rattle.branch_meaning.specs.Store.{Touch, Value, Same, touched}
use Rattle.branch_lemmas.specs.Frames.{link_in}

-- each variable of the list as its cell shows it by the store's sets
abbrev pub slot_terms : Naming → Cells → Family → List ℕ → List Cell → Substitution
slot_terms name h G [] ds y = Var y
slot_terms name h G (x ∷ xs) [] y = Var y
slot_terms name h G (x ∷ xs) (d ∷ ds) y = if x == y then seen_term name h G d
    else slot_terms name h G xs ds y

abbrev pub target_offence : Term → Option QueryFault
target_offence (Var c) = None
target_offence (Int z) = None
target_offence (Atom a) = Some BadType
target_offence (Comp f ts) = Some BadType

-- the first offence: that of the target t, and then those of the range's variables, which are seen as the terms `see` gives
abbrev pub cells_offence : Term → Substitution → Range → Option QueryFault
cells_offence t see r = or_later (target_offence t) (first_offence (need_of r) see (range_occurrences r))

-- the range with its parameters' integers
abbrev pub filled : Substitution → Range → Range
filled see r = fill_range (λ y. integer_of (see y)) r

-- what is posted on the store, where slot gives each term a variable of the store
abbrev pub cells_range : (Term → ℕ) → Term → Substitution → Range → Indexical
cells_range slot t see r = record {
  target = slot t;
  range = rename_range (λ y. slot (see y)) (filled see r);
}

-- the terms that it names
abbrev pub Names : Term → Substitution → Range → Term → Type 0
Names t see r u = (u ≡ t) ⊎ ((y : ℕ) × (has (reads (filled see r)) y ≡ true) × (u ≡ see y))

-- each touch says of an integer's variable of the store which integer it is
abbrev pub AreNumbers : (Term → ℕ) → (Term → Type 0) → List Touch → Type 0
AreNumbers slot Named [] = Unit {0}
AreNumbers slot Named (Value k z ∷ ts) = (Named (Int z) × (slot (Int z) ≡ k))
    × AreNumbers slot Named ts
AreNumbers slot Named (Same k j ∷ ts) = ⊥

-- The heap now has the terms of the heap h. Each open variable that is named is linked to its variable of the store, and each integer that is named has a new
-- one; no two terms share one.
pub record IsTermsLinked (h now : Cells) (qs : List Indexical) (slot : Term → ℕ)
    (Named : Term → Type 0) (ts : List Touch) : Type 0 where
  pub size : length now.slots ≡ length h.slots
  pub own : (c : Cell) → IsOf h c → IsOf now c
  pub terms : (name : Naming) (c : Cell) → IsOf h c → term_of name now c ≡ term_of name h c
  pub cell : (c : ℕ) → Named (Var c) → link_in now c ≡ Some (slot (Var c))
  pub number : (z : ℤ) → Named (Int z) → has (constrained qs) (slot (Int z)) ≡ false
  pub apart : (u w : Term) → Named u → Named w → slot u ≡ slot w → u ≡ w
  pub keep : (c k : ℕ) → link_in h c ≡ Some k → link_in now c ≡ Some k
  pub new : (c k : ℕ) → link_in now c ≡ Some k → (link_in h c ≡ Some k)
      ⊎ (Named (Var c) × (has (constrained qs) k ≡ false))
  pub told : AreNumbers slot Named ts
  pub all : (z : ℤ) → Named (Int z) → (u : Substitution) → Unifies u (touched ts)
      → u (slot (Int z)) ≡ Int z
