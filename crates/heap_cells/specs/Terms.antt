-- The term that each cell of a heap stands for.
use Rattle.std.specs.Prelude.{◌≡◌, ℕ, zero, suc, ◌+◌, ◌^◌, ◌==◌, false, if◌then◌else◌, List, [], ◌∷◌, length}
use Rattle.fd_language.specs.Term.{Name, Term, Terms, Var, Int, Atom, Comp, no_terms, term, Substitution, apply}
pub use Rattle.fd_language.specs.Term.{after}
pub use Rattle.fd_language.specs.Variables.{occurs, occurs_any}
use Rattle.term_pool.specs.declared.AtomId.{AtomId}
use Rattle.heap_cells.specs.declared.Cell.{Cell}
use Rattle.heap_cells.specs.declared.Cell.TheVariants as cell
use Rattle.heap_cells.specs.Cells.{Slot, free, linked, bound, Compound, Cells, slot_at, compound_at, IsOf}

-- a name for each atom
abbrev pub Naming : Type 0
Naming = AtomId → Name

abbrev pub IsOneToOne : Naming → Type 0
IsOneToOne name = (a b : AtomId) → name a ≡ name b → a ≡ b

-- the terms of cells in their order, where each cell's term is given
abbrev pub terms_by : (Cell → Term) → List Cell → Terms
terms_by by [] = no_terms
terms_by by (c ∷ cs) = term (by c) (terms_by by cs)

abbrev pub slot_term : (Cell → Term) → ℕ → Slot → Term
slot_term by i free = Var i
slot_term by i (linked k) = Var i
slot_term by i (bound c) = by c

abbrev pub compound_term : Naming → (Cell → Term) → Compound → Term
compound_term name by k = Comp (name k.name) (terms_by by k.args)

-- the cell's term, where no more than so many cells stand below one another
abbrev pub within : Naming → Cells → ℕ → Cell → Term
within name h zero c = Atom []
within name h (suc n) (cell.Ref i) = slot_term (within name h n) i (slot_at h i)
within name h (suc n) (cell.Int z) = Int z
within name h (suc n) (cell.Atom a) = Atom (name a)
within name h (suc n) (cell.Struct j) = compound_term name (within name h n) (compound_at h j)

-- more than the cells that can stand below one another
abbrev pub depth : Cells → ℕ
depth h = 2 ^ (length h.slots + length h.compounds)

-- the term that a cell stands for; a variable keeps its number in the heap
unfoldable pub term_of : Naming → Cells → Cell → Term
term_of name h c = within name h (depth h) c

-- both cells stand for the same term
abbrev pub Same : Cells → Cell → Cell → Type 0
Same h c d = (name : Naming) → term_of name h c ≡ term_of name h d

-- each earlier cell stands for the same term as before
abbrev pub KeepsTerms : Cells → Cells → Type 0
KeepsTerms old new = (name : Naming) (c : Cell) → IsOf old c
    → term_of name new c ≡ term_of name old c

-- x goes to t, and each other variable to itself
abbrev pub one : ℕ → Term → Substitution
one x t y = if y == x then t else Var y

-- the variable isn't in the cell's term, under whatever names
abbrev pub IsAbsent : Cells → ℕ → Cell → Type 0
IsAbsent h x c = (name : Naming) → occurs x (term_of name h c) ≡ false

-- each cell stands for its old term with the variable replaced by the term of another cell
abbrev pub Replaces : Cells → ℕ → Cell → Cells → Type 0
Replaces old x to new = (name : Naming) (c : Cell)
    → term_of name new c ≡ apply (one x (term_of name old to)) (term_of name old c)
