-- What a labelling does, by a branch's heap and sets.
use Rattle.std.specs.Prelude.{◌≡◌, ℕ, ◌<◌, List, length}
use Rattle.fd_language.specs.declared.TheConstants.{INFINITY}
use Rattle.fd_language.specs.Term.{Var}
use Rattle.fd_model.specs.declared.kinds.Order.{Order}
use Rattle.fd_model.specs.Labelling.{values_by}
use Rattle.heap_cells.specs.declared.Cell.{Cell}
use Rattle.heap_cells.specs.declared.Cell.TheVariants as cell
use Rattle.heap_cells.specs.Cells.{Cells}
use Rattle.heap_cells.specs.Terms.{Naming, term_of}
use Rattle.branch_meaning.specs.Labelling.{Labelled, labels, done, faults}
use Rattle.branch_meaning.specs.AnswerTexts.{cell_set}
use Rattle.range_code.specs.Frames.{family_of}
use Rattle.branch_lemmas.specs.Frames.{link_in}
use Rattle.heap_cells.specs.SeenTerms.{seen_term}
use Rattle.branch_lemmas.specs.SeenHeap.{heap_label}
use Rattle.branch_goals.specs.declared.labelling.Labelling.{Labelling}
use Rattle.branch_goals.specs.declared.labelling.Labelling.TheVariants.{Done, Takes, Fault}
use Rattle.branch_state.specs.States.{State}

-- what a labelling of the list in a cell does
abbrev pub labelled_in : Naming → State → Order → Cell → Labelled
labelled_in name s o c =
    let G = family_of s.levels.current.sets in
    heap_label INFINITY s.infinity name s.heaps.now s.levels.current.posted G o
    (seen_term name s.heaps.now G c)

-- the values of a variable of the heap: those of its set, and all that a variable may have where the store doesn't have it
abbrev pub values_of : State → ℕ → List ℕ
values_of s i = values_by s.infinity
    (cell_set (family_of s.levels.current.sets) (link_in s.heaps.now i))

-- The variable that is taken is an open one of the heap, with its values.
abbrev pub Labels : Naming → State → Order → Cell → Labelling → Type 0
Labels name s o c Done = labelled_in name s o c ≡ done
Labels name s o c (Takes i) = (labelled_in name s o c ≡ labels i (values_of s i))
    × (i < length s.heaps.now.slots) × (term_of name s.heaps.now (cell.Ref i) ≡ Var i)
Labels name s o c (Fault f) = labelled_in name s o c ≡ faults f

-- where the cell's term is a variable, this is its number
abbrev pub IsVariableOf : Naming → Cells → Cell → ℕ → Type 0
IsVariableOf name h c i = (j : ℕ) → term_of name h c ≡ Var j → (j ≡ i) × (i < length h.slots)
    × (term_of name h (cell.Ref i) ≡ Var i)
