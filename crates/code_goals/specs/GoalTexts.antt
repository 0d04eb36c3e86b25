-- What a goal writes.
use Rattle.std.specs.Prelude.{◌≡◌, ℕ, List, [], Option, Some, None}
use Rattle.fd_language.specs.Family.{Family}
use Rattle.fd_language.specs.Term.{Term, no_terms, term}
use Rattle.fd_language.specs.TermTexts.{Plain, term_text}
use Rattle.heap_cells.specs.declared.Cell.{Cell}
use Rattle.heap_cells.specs.Terms.{term_of}
use Rattle.machine_events.specs.declared.Shown.{Shown}
use Rattle.machine_events.specs.Events.{written_term, ShowsTerms}
use Rattle.branch_lemmas.specs.Frames.{held_of}
use Rattle.branch_lemmas.specs.SeenHeap.{read_term}
use Rattle.branch_meaning.specs.HeldBranches.{HeldState, fixed_held}
use Rattle.branch_meaning.specs.AnswerTexts.{cell_text}
use Rattle.range_code.specs.Frames.{family_of}
use Rattle.branch_state.specs.States as branch
use Rattle.wam_code.specs.Area.{Area}
use Rattle.code_areas.specs.Areas.{cell_at, Contents}
use Rattle.code_goals.specs.Tasks.{names_of}

-- the sets of the variables now
abbrev pub sets_now : branch.State → Family
sets_now s = family_of s.levels.current.sets

-- the branch as it is now, with the store's single values
abbrev pub held_now : Area → branch.State → HeldState
held_now area s = fixed_held (held_of (names_of area) s.heaps.now s.levels.current.posted) (sets_now s)

-- the text of a term of the heap
abbrev pub text_of : Area → branch.State → Term → List ℕ
text_of area s t = term_text Plain (cell_text (held_now area s) (sets_now s) (term t no_terms)) 1200 t

-- the text of a cell's term, as `write` gives it
abbrev pub cell_written : Area → branch.State → Cell → List ℕ
cell_written area s d = text_of area s (read_term s.heaps.now (sets_now s) (term_of (names_of area) s.heaps.now d))

abbrev pub text_at : Area → branch.State → Option Cell → List ℕ
text_at area s None = []
text_at area s (Some d) = cell_written area s d

-- that of the first register
abbrev pub first_written : Area → branch.State → Contents → List ℕ
first_written area s c = text_at area s (cell_at c.registers 1)

-- one term, with this text
pub record ShowsWritten (area : Area) (s : branch.State) (c : Contents) (x : Shown) : Type 0 where
  pub one : ShowsTerms 1 x
  pub text : written_term x ≡ first_written area s c
