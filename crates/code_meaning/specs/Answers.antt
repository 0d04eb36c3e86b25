-- The line of an answer, by the cells of the slots that are shown.
use Rattle.std.specs.Prelude.{ℕ, List, map}
use Rattle.fd_language.specs.Family.{Family}
use Rattle.fd_language.specs.Range.{Indexical}
use Rattle.fd_language.specs.Term.{Term}
use Rattle.fd_model.specs.Goal.{Query}
use Rattle.fd_model.specs.Lines.{line_of, as_terms}
use Rattle.heap_cells.specs.declared.Cell.{Cell}
use Rattle.heap_cells.specs.Cells.{Cells}
use Rattle.heap_cells.specs.Terms.{Naming, term_of}
use Rattle.branch_meaning.specs.HeldBranches.{fixed_held}
use Rattle.branch_meaning.specs.AnswerTexts.{cell_text}
use Rattle.branch_lemmas.specs.Frames.{held_of}
use Rattle.branch_lemmas.specs.SeenHeap.{read_term}

-- each term of the heap as the store's sets show it
abbrev pub answer_terms : Naming → Cells → Family → List Cell → List Term
answer_terms name h G ds = map (λ d. read_term h G (term_of name h d)) ds

abbrev pub slots_line : Query → Naming → Cells → List Indexical → Family → List Cell → List ℕ
slots_line q name h qs G ds = let ts = answer_terms name h G ds in line_of (cell_text (fixed_held (held_of name h qs) G) G (as_terms ts)) q.names ts
