-- What a cell shows at its top.
use Rattle.std.specs.Prelude.{◌≡◌, ℕ, ◌<◌, length}
use Rattle.fd_language.specs.Family.{Family}
use Rattle.fd_language.specs.Term.{Name, Terms, Term, Var, Int, Atom, Comp}
use Rattle.heap_cells.specs.declared.Cell.{Cell}
use Rattle.heap_cells.specs.declared.Seen.{Seen}
use Rattle.heap_cells.specs.declared.Seen.TheVariants as seen
use Rattle.heap_cells.specs.Cells.{Cells, compound_at}
use Rattle.heap_cells.specs.Terms.{Naming, terms_by}
use Rattle.heap_cells.specs.SeenTerms.{seen_term}

-- the term of what is seen, where each cell's term is given
abbrev pub shown : Naming → (Cell → Term) → Seen → Term
shown name by (seen.Open i) = Var i
shown name by (seen.Constrained i k) = Var i
shown name by (seen.Int z) = Int z
shown name by (seen.Atom a) = Atom (name a)
shown name by (seen.Struct f args) = Comp (name f) (terms_by by args.now)

-- a compound term that is seen is one of the heap's
abbrev pub IsHeld : Cells → Seen → Type 0
IsHeld h (seen.Open i) = Unit {0}
IsHeld h (seen.Constrained i k) = Unit {0}
IsHeld h (seen.Int z) = Unit {0}
IsHeld h (seen.Atom a) = Unit {0}
IsHeld h (seen.Struct f args) = (j : ℕ) × (j < length h.compounds) × (compound_at h j ≡ record { name = f; args = args.now })

-- the term of a cell is no compound term
abbrev pub IsSimple : Cells → Family → Cell → Type 0
IsSimple h G c = (name : Naming) (f : Name) (ts : Terms) → seen_term name h G c ≡ Comp f ts → ⊥
