-- The term that a cell of a heap is, as the sets of a store show it.
use Rattle.std.specs.Prelude.{◌≡◌, ℕ, ◌<◌, Option, Some, None}
use Rattle.fd_language.specs.Family.{Family}
use Rattle.fd_language.specs.SingleValues.{value_at}
use Rattle.fd_language.specs.Term.{Term, apply}
use Rattle.heap_cells.specs.declared.Cell.{Cell}
use Rattle.heap_cells.specs.Cells.{Slot, free, linked, bound, Cells, slot_at}
use Rattle.heap_cells.specs.Terms.{Naming, term_of}

-- the variable of the store that a variable of the heap is
abbrev pub link_of : Slot → Option ℕ
link_of free = None
link_of (linked k) = Some k
link_of (bound c) = None

abbrev pub link_in : Cells → ℕ → Option ℕ
link_in h c = link_of (slot_at h c)

-- a term of the heap, as the store's sets show it: a variable of the store whose set has one value is that integer
abbrev pub read_term : Cells → Family → Term → Term
read_term h G t = apply (λ c. value_at (link_in h c) G c) t

-- the term of a cell, as the sets show it
abbrev pub seen_term : Naming → Cells → Family → Cell → Term
seen_term name h G c = read_term h G (term_of name h c)

-- each variable of the store that the heap has is one of the first n
abbrev pub HasLinksBelow : ℕ → Cells → Type 0
HasLinksBelow n h = (c k : ℕ) → link_in h c ≡ Some k → k < n
