-- What a heap shows through the sets of a store: terms, and the rows of goals that read them.
use Rattle.std.specs.Prelude.{ℕ, List, length, Option, Result}
use Rattle.fd_model.specs.declared.kinds.BuiltinKind.{BuiltinKind}
use Rattle.fd_model.specs.declared.kinds.ConstraintKind.{ConstraintKind}
use Rattle.fd_model.specs.declared.kinds.Order.{Order}
use Rattle.fd_model.specs.declared.kinds.QueryFault.{QueryFault}
use Rattle.fd_language.specs.Term.{Term, Substitution}
use Rattle.fd_language.specs.Family.{Family}
use Rattle.fd_language.specs.Range.{Indexical}
use Rattle.fd_model.specs.Builtins.{Finding, found}
use Rattle.fd_model.specs.ConstraintExpansion.{arguments, expand}
use Rattle.fd_model.specs.Labelling.{values_by}
use Rattle.fd_model.specs.LinearRows.{Expansion}
use Rattle.heap_cells.specs.declared.Cell.{Cell}
use Rattle.heap_cells.specs.Cells.{Cells}
pub use Rattle.heap_cells.specs.SeenTerms.{read_term}
use Rattle.heap_cells.specs.Terms.{Naming}
use Rattle.branch_meaning.specs.HeldBranches.{fixed_held}
use Rattle.branch_meaning.specs.Labelling.{Labelled, labelled}
use Rattle.branch_meaning.specs.AnswerTexts.{cell_set}
use Rattle.branch_lemmas.specs.Frames.{held_of}

-- the row of a constraint on the term x of the heap
abbrev pub heap_row : ℕ → Cells → Family → ConstraintKind → Term → Result Expansion QueryFault
heap_row M h G kind x = expand M kind (arguments (read_term h G x)) (length h.slots)

-- what a labelling of the list x does, by the heap and the store's sets
abbrev pub heap_label : ℕ → ℕ → Naming → Cells → List Indexical → Family → Order → Term → Labelled
heap_label M N name h qs G o x = labelled o
    (λ c. values_by N (cell_set G ((fixed_held (held_of name h qs) G).link c))) x

-- what a built-in goal comes to whose arguments are the terms a and b of the heap
abbrev pub heap_finding : Naming → Cells → List Indexical → Family → BuiltinKind → Term → Term
    → Finding
heap_finding name h qs G k a b = found k
    (λ c. cell_set G ((fixed_held (held_of name h qs) G).link c)) a b (read_term h G a)
    (read_term h G b)
