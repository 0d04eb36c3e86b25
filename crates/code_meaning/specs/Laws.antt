-- The statements of the laws.
use Rattle.std.specs.Prelude.{◌≡◌, ℕ, suc, List, [], ◌∷◌, ◌++◌, length, Option, Some, None}
use Rattle.fd_language.specs.Family.{Family, IsInside}
use Rattle.fd_language.specs.Range.{Indexical}
use Rattle.fd_language.specs.Term.{Term}
use Rattle.fd_model.specs.Goal.{Branch, Program, Query, Event, Answer, Fault, start_of}
use Rattle.fd_model.specs.declared.kinds.QueryFault.{QueryFault}
use Rattle.fd_model.specs.Models.{IsModel}
use Rattle.fd_model.specs.Run.{Run}
use Rattle.fd_model.specs.RunnablePrograms.{EachBelow, NumbersBelow, AreRunnable, ClausesScoped, IsRunnableProgram}
use Rattle.heap_cells.specs.declared.Cell.{Cell}
use Rattle.heap_cells.specs.Cells.{Cells, IsOf}
use Rattle.heap_cells.specs.Terms.{Naming, term_of}
use Rattle.heap_cells.specs.HeapInvariant.{IsHeap}
use Rattle.branch_meaning.specs.RemainingEvents.{oldest, Spends}
use Rattle.branch_meaning.specs.Models.{HasModel}
use Rattle.branch_meaning.specs.Store.{Touch, posts}
use Rattle.branch_lemmas.specs.SeenHeap.{read_term}
use Rattle.range_code.specs.Slots.{slots_of}
use Rattle.wam_code.specs.declared.instruction.Register.{Register}
use Rattle.wam_code.specs.declared.instruction.Code.{Code}
use Rattle.wam_code.specs.declared.instruction.Code.TheVariants.{GetVariable, GetValue, Call, Proceed, TryMeElse, AnswerNow, PostRange, Level, TestOnly}
use Rattle.wam_code.specs.declared.instruction.Code.TheVariants.{EnterTest, CutTo}
use Rattle.wam_code.specs.declared.parts.Entry.{Entry}
use Rattle.wam_code.specs.Area.{Area, Span, Holds, HasEntry, range_at}
use Rattle.wam_code.specs.Tries.{IsQueryCode, StandsForProgram}
use Rattle.code_meaning.specs.Registers.{Registers, Saved, cell_in, AreSame, AreSameTo, IsWritten, IsMarked, AreIn}
use Rattle.code_meaning.specs.Depths.{depth_of}
use Rattle.code_meaning.specs.StateMeaning.{Stands, IsCalling}
use Rattle.code_meaning.specs.Steps.{GoesOnEqual}
use Rattle.code_meaning.specs.ClauseChoices.{IsTrying, IsFirst}
use Rattle.code_meaning.specs.MachineStates.{resume, Choice, Runs, Returns}
use Rattle.code_meaning.specs.Answers.{slots_line}
use Rattle.code_meaning.specs.RangeGoals.{slot_terms, cells_offence, cells_range, Names, IsTermsLinked}

-- A head's arguments: a variable that is met first is what the argument register holds, and later its cell is made equal to it.
pub record HeadsAreMatched : Type 0 where
  pub first : (M N : ℕ) (marks : List ℕ) (area : Area) (shown : List ℕ) (name : Naming) (h : Cells) (qs : List Indexical) (at : ℕ) (c : Registers)
      (stack : List Saved) (b : Branch) → Stands M N marks area shown name h qs at c stack b → (r : Register) (a : ℕ) → Holds area at (GetVariable r a)
      → (d : Cell) × (c.x a ≡ Some d) × IsOf h d × ((c' : Registers) → IsWritten c r d c' → Stands M N marks area shown name h qs (suc at) c' stack b)
  pub later : (M N : ℕ) (marks : List ℕ) (area : Area) (shown : List ℕ) (name : Naming) (h : Cells) (qs : List Indexical) (at : ℕ) (c : Registers)
      (stack : List Saved) (b : Branch) → Stands M N marks area shown name h qs at c stack b → (r : Register) (a : ℕ) → Holds area at (GetValue r a)
      → (d : Cell) × (e : Cell) × (c.x a ≡ Some d) × (cell_in c r ≡ Some e) × IsOf h d × IsOf h e × GoesOnEqual M N marks area shown name h qs (suc at) c stack b d e

-- A call leaves the code behind it, with the slots, as the newest continuation, and notes the number of choice points. The end of a clause goes on there.
pub record CallsReturn : Type 0 where
  pub call : (M N : ℕ) (marks : List ℕ) (area : Area) (shown : List ℕ) (name : Naming) (h : Cells) (qs : List Indexical) (at : ℕ) (c : Registers)
      (stack : List Saved) (b : Branch) → Stands M N marks area shown name h qs at c stack b → (e : ℕ) → Holds area at (Call e)
      → (slots : ℕ → Option Cell) → AreSame c.y slots → (levels : ℕ → Option ℕ) → AreSame c.levels levels → (c' : Registers) → AreSame c.x c'.x → c'.noted ≡ length marks
      → (entry : Entry) × HasEntry area e entry × IsCalling M N marks (depth_of marks) area shown name h qs entry c' (record { to = suc at; slots = slots; levels = levels } ∷ stack) b
  pub proceed : (M N : ℕ) (marks : List ℕ) (area : Area) (shown : List ℕ) (name : Naming) (h : Cells) (qs : List Indexical) (at : ℕ) (c : Registers)
      (stack : List Saved) (b : Branch) → Stands M N marks area shown name h qs at c stack b → Holds area at Proceed
      → (s : Saved) (rest : List Saved) → stack ≡ s ∷ rest → (c' : Registers) → AreSame s.slots c'.y → AreSame s.levels c'.levels → Stands M N marks area shown name h qs s.to c' rest b

-- At the first instruction of a clause that is tried, the machine stands for the branch of that clause, the only one of the place.
abbrev pub ClausesAreEntered : Type 0
ClausesAreEntered =
    (M N : ℕ) (marks : List ℕ) (area : Area) (shown : List ℕ) (name : Naming) (h : Cells) (qs : List Indexical) (at : ℕ) (e : Entry) (c : Registers)
    (stack : List Saved) (b : Branch) (kids : List Branch) → IsTrying M N marks area shown name h qs at e c stack b kids → (i : Code) → IsFirst i
    → Holds area at i
    → (c' : Registers) → AreSame c.x c'.x → c'.noted ≡ c.noted → (kid : Branch) × (kids ≡ kid ∷ []) × Stands M N marks area shown name h qs at c' stack kid

-- A call spends a reduction, says nothing, notes the number of choice points, and leaves the code behind it as the newest continuation. With the registers of
-- its arguments alone, the predicate's code stands for the branches that the program gives.
abbrev pub CallsTryClauses : Type 0
CallsTryClauses =
    (M N : ℕ) (area : Area) (prog : Program) (q : Query) (name : Naming) (h : Cells) (qs : List Indexical) (at : ℕ) (c : Registers) (stack : List Saved)
    (cs : List Choice) (k : Option ℕ) (es : List Event) (r : ℕ)
    → StandsForProgram area prog → ClausesScoped prog.clauses → IsRunnableProgram M prog → (n : ℕ) → HasModel M N qs → Runs M N area prog q name h qs at c stack cs (suc n) k es r
    → (number : ℕ) → Holds area at (Call number) → (e : Entry) → HasEntry area number e → (c' : Registers) → AreSameTo e.arity c.x c'.x → c'.noted ≡ length cs
    → (slots : ℕ → Option Cell) → AreSame c.y slots → (levels : ℕ → Option ℕ) → AreSame c.levels levels
    → Spends (Runs M N area prog q name h qs e.at c' (record { to = suc at; slots = slots; levels = levels } ∷ stack) cs n k) [] es r

-- A choice among clauses leaves a choice point with all that is current, and coming back the machine goes on there. It stands for the same events throughout.
pub record ChoicesComeBack : Type 0 where
  pub go : (M N : ℕ) (area : Area) (prog : Program) (q : Query) (name : Naming) (cs : List Choice) (n : ℕ) (k : Option ℕ) (es : List Event) (r : ℕ) (h : Cells)
      (qs : List Indexical) (at : ℕ) (c : Registers) (stack : List Saved)
      → Runs M N area prog q name h qs at c stack cs n k es r → (to : ℕ) → Holds area at (TryMeElse to)
      → Runs M N area prog q name h qs (suc at) c stack (record { left = resume to; registers = c; stack = stack; heap = h; store = qs } ∷ cs) n k es r
  pub back : (M N : ℕ) (area : Area) (prog : Program) (q : Query) (name : Naming) (n : ℕ) (k : Option ℕ) (es : List Event) (r : ℕ) (at : ℕ) (h : Cells)
      (qs : List Indexical) (c : Registers) (stack : List Saved) (cs : List Choice)
      → Returns M N area prog q name (record { left = resume at; registers = c; stack = stack; heap = h; store = qs } ∷ cs) n k es r → Runs M N area prog q name h qs at c stack cs n k es r

-- The group cut. A slot takes a level, which is a number of choice points: the one that was noted, or the present one. A test with another way leaves a choice
-- point for it, and a second slot takes the number with that one. A cut drops the choice points above a slot's level, and with them the branches for which they
-- stand.
pub record CutsAreTaken : Type 0 where
  pub level : (M N : ℕ) (marks : List ℕ) (area : Area) (shown : List ℕ) (name : Naming) (h : Cells) (qs : List Indexical) (at : ℕ) (c : Registers)
      (stack : List Saved) (b : Branch) → Stands M N marks area shown name h qs at c stack b
      → (y : ℕ) → Holds area at (Level y) → (c' : Registers) → IsMarked c y c.noted c' → Stands M N marks area shown name h qs (suc at) c' stack b
  pub test : (M N : ℕ) (area : Area) (prog : Program) (q : Query) (name : Naming) (h : Cells) (qs : List Indexical) (at : ℕ) (c : Registers)
      (stack : List Saved) (cs : List Choice) (k : Option ℕ) (es : List Event) (r : ℕ) → IsRunnableProgram M prog → (n : ℕ) → HasModel M N qs
      → Runs M N area prog q name h qs at c stack cs (suc n) k es r
      → (y : ℕ) → Holds area at (TestOnly y) → (l : ℕ) → l ≡ length cs → (c' : Registers) → IsMarked c y l c' → Spends (Runs M N area prog q name h qs (suc at) c' stack cs n k) [] es r
  pub enter : (M N : ℕ) (area : Area) (prog : Program) (q : Query) (name : Naming) (h : Cells) (qs : List Indexical) (at : ℕ) (c : Registers)
      (stack : List Saved) (cs : List Choice) (k : Option ℕ) (es : List Event) (r : ℕ) → IsRunnableProgram M prog → (n : ℕ) → HasModel M N qs
      → Runs M N area prog q name h qs at c stack cs (suc n) k es r
      → (y z to : ℕ) → Holds area at (EnterTest y z to) → (l : ℕ) → l ≡ length cs → (c' : Registers) → IsMarked c y l c' → (c'' : Registers) → IsMarked c' z (suc l) c''
      → Spends (Runs M N area prog q name h qs (suc at) c'' stack (record { left = resume to; registers = c''; stack = stack; heap = h; store = qs } ∷ cs) n k) [] es r
  pub cut : (M N : ℕ) (area : Area) (prog : Program) (q : Query) (name : Naming) (h : Cells) (qs : List Indexical) (at : ℕ) (c : Registers) (stack : List Saved)
      (cs : List Choice) (k : Option ℕ) (es : List Event) (r : ℕ) → IsRunnableProgram M prog → (n : ℕ) → HasModel M N qs
      → Runs M N area prog q name h qs at c stack cs (suc n) k es r
      → (y : ℕ) → Holds area at (CutTo y) → (l : ℕ) → c.levels y ≡ Some l → Spends (Runs M N area prog q name h qs (suc at) c stack (oldest l cs) n k) [] es r

-- At the end of a query the next event is the answer that the slots' cells show, and the machine goes back for the others.
abbrev pub AnswersAreTold : Type 0
AnswersAreTold =
    (M N : ℕ) (area : Area) (prog : Program) (q : Query) (name : Naming) (h : Cells) → IsHeap h → (qs : List Indexical) (G : Family) → IsModel M N [] qs G
    → ((R : Family) → IsModel M N [] qs R → IsInside R G)
    → (at : ℕ) (c : Registers) (stack : List Saved) (cs : List Choice) (n : ℕ) (es : List Event) (r : ℕ) → Holds area at AnswerNow → (ds : List Cell) → AreIn c.y 1 ds → length ds ≡ length q.shown
    → Runs M N area prog q name h qs at c stack cs n None es r → (later : List Event) × (es ≡ Answer (slots_line q name h qs G ds) ∷ later) × Returns M N area prog q name cs n None later r

-- Whatever the registers hold, a machine at a query's code with an empty heap and an empty store, which has noted no choice point, stands for the run of the
-- query.
abbrev pub QueriesStart : Type 0
QueriesStart =
    (M N : ℕ) (area : Area) (prog : Program) (q : Query) (name : Naming) (h : Cells) → length h.slots ≡ 0 → (s : Span) → IsQueryCode area q s
    → EachBelow q.variables q.goals → NumbersBelow q.variables q.shown → AreRunnable M q.goals
    → (c : Registers) → c.noted ≡ 0 → (n : ℕ) (k : Option ℕ) (es : List Event) (r : ℕ) → Run M N prog q n k (start_of q ∷ []) es r → Runs M N area prog q name h [] s.at c [] [] n k es r

-- A goal `T in R` spends a reduction. Its fault is the first offence of what the cells show; where there is none, its range is posted on the variables of the
-- store that the cells are linked to, and on new ones for integers.
abbrev pub RangesArePosted : Type 0
RangesArePosted =
    (M N : ℕ) (area : Area) (prog : Program) (q : Query) (name : Naming) (h : Cells) → IsHeap h
    → (qs : List Indexical) (at : ℕ) (c : Registers) (stack : List Saved) (cs : List Choice) (k : Option ℕ) (es : List Event) (r : ℕ)
    → IsRunnableProgram M prog → (n : ℕ)
    → (G : Family) → IsModel M N [] qs G → ((R : Family) → IsModel M N [] qs R → IsInside R G) → Runs M N area prog q name h qs at c stack cs (suc n) k es r
    → (number args : ℕ) (d : Cell) → c.x 1 ≡ Some d → (ds : List Cell) → AreIn c.x 2 ds → length ds ≡ length (slots_of (range_at area number)) → Holds area at (PostRange number args)
    → (let t = read_term h G (term_of name h d) in let see = slot_terms name h G (slots_of (range_at area number)) ds in
    ((e : QueryFault) → cells_offence t see (range_at area number) ≡ Some e → (es ≡ Fault e ∷ []) × (r ≡ 1))
    × (cells_offence t see (range_at area number) ≡ None → (slot_of : Term → ℕ) (now : Cells) (ts : List Touch) → IsTermsLinked h now qs slot_of (Names t see (range_at area number)) ts
    → Spends (Runs M N area prog q name now ((qs ++ cells_range slot_of t see (range_at area number) ∷ []) ++ posts ts) (suc at) c stack cs n k) [] es r))

-- Where the store has no model, the machine goes back, wherever it is.
abbrev pub StoresFail : Type 0
StoresFail =
    (M N : ℕ) (area : Area) (prog : Program) (q : Query) (name : Naming) (h : Cells) (qs : List Indexical) (at : ℕ) (c : Registers) (stack : List Saved)
    (cs : List Choice) (n : ℕ) (k : Option ℕ) (es : List Event) (r : ℕ)
    → Runs M N area prog q name h qs at c stack cs n k es r → ((T : Family) → IsModel M N [] qs T → ⊥) → Returns M N area prog q name cs n k es r
