-- What an answer shows.
use Rattle.std.proofs.Common.{◌≡◌, ℕ, zero, suc, ◌+◌, ◌<◌, List, [], ◌∷◌, ◌++◌, length, All, Option, Some, refl, ap, sym, ◌∙◌, subst, arith}
use Rattle.std.proofs.lemmas.List.{length-map}
use Rattle.std.proofs.lemmas.Option.{slice_get_within, same_Some}
use Rattle.fd_language.specs.declared.TheConstants.{INFINITY}
use Rattle.fd_language.specs.Family.{Family}
use Rattle.fd_model.specs.Goal as model
use Rattle.fd_model.specs.Goal.{Query}
use Rattle.heap_cells.specs.declared.Cell.{Cell}
use Rattle.range_code.specs.Frames.{family_of}
use Rattle.machine_events.specs.declared.Shown.{Shown}
use Rattle.machine_events.specs.Events.{shown_line}
use Rattle.branch_state.specs.ShownTerms.{IsShown}
use Rattle.branch_state.specs.States as branch
use Rattle.branch_state.specs.States.{IsCell}
use Rattle.wam_code.specs.declared.instruction.Code.TheVariants as step
use Rattle.wam_code.specs.Area.{Area, Span, Holds, HasQuery, name_of}
use Rattle.code_areas.specs.Areas.{cell_at, Contents}
use Rattle.code_meaning.specs.Registers.{AreIn}
use Rattle.code_meaning.specs.Answers.{slots_line}
use Rattle.code_meaning.proofs.Lemmas.{run_last, run_fewer, run_any}
use Rattle.code_safety.specs.Queries.{IsInQuery}
use Rattle.code_safety.specs.Choices.{choices_in}
use Rattle.code_safety.specs.Machine.{slot_cell, registers_of, stack_of}
use Rattle.code_safety.specs.Safety.{IsSafe}
use Rattle.code_goals.specs.Answers.{AreSlots, IsAsked, ShowsAnswer}
use Rattle.code_goals.specs.Tasks.{names_of}
use Rattle.code_goals.specs.GoalTexts.{text_at, ShowsWritten}
use Rattle.code_goals.proofs.Texts.{line_shown, shown_length, written_shown}

-- ---- the cells of slots

pub put_last : (cells : ℕ → Option Cell) (i : ℕ) (ds : List Cell) (d : Cell) → AreIn cells i ds → cells (i + length ds) ≡ Some d → AreIn cells i (ds ++ d ∷ [])
put_last cells i [] d e k = (subst (λ n. cells n ≡ Some d) (omega arith) k, tt)
put_last cells i (x ∷ ds) d e k = (e.0, put_last cells (suc i) ds d e.1 (subst (λ n. cells n ≡ Some d) (omega arith) k))

pub longer : (cells : List Cell) (d : Cell) (n : ℕ) → length cells ≡ n → length (cells ++ d ∷ []) ≡ n + 1
longer [] d n e = omega (arith, e)
longer (x ∷ cells) d n e = (let l = longer cells d (length cells) refl in omega (arith, l, e))

-- none so far
pub slots_none : (c : Contents) (cells : List Cell) → cells ≡ [] → AreSlots c 0 cells
slots_none c cells e = subst (AreSlots c 0) (sym e) (refl, tt)

-- one more
pub slots_more : (c : Contents) (n : ℕ) (cells : List Cell) (d : Cell) (new : List Cell) → AreSlots c n cells → cell_at c.slots n ≡ Some d → new ≡ cells ++ d ∷ [] → AreSlots c (n + 1) new
slots_more c n cells d new g e i =
    let size = g.0 in
    let place : suc n ≡ 1 + length cells = omega (arith, size) in
    subst (AreSlots c (n + 1)) (sym i) (longer cells d n size, put_last (slot_cell c.slots) 1 cells d g.1 (subst (λ m. slot_cell c.slots m ≡ Some d) place e))

-- they are the branch's
pub slots_own : (s : branch.State) (c : Contents) → ((n : ℕ) (d : Cell) → cell_at c.slots n ≡ Some d → IsCell s d) → (i : ℕ) (ds : List Cell) → AreIn (slot_cell c.slots) (suc i) ds → All (IsCell s) ds
slots_own s c own i [] g k d l = absurd (omega (arith, l))
slots_own s c own i (d ∷ ds) g zero e l = own i d g.0
slots_own s c own i (d ∷ ds) g (suc k) e l = slots_own s c own (suc i) ds g.1 k e (omega (arith, l))

-- ---- the query

-- its number is one of the code
pub query_within : (area : Area) (n at : ℕ) → IsInQuery area n at → n < length area.queries
query_within area n at i = slice_get_within area.queries n i.0 i.1

module _ (area : Area) (number : ℕ) (a b : Span) (one : HasQuery area number a) (other : HasQuery area number b) where
  -- a number has one span
  pub one_query : a ≡ b
  one_query = same_Some a b (sym one ∙ other)

-- ---- what is shown

module _ (area : Area) (s : branch.State) (at : ℕ) (c : Contents) (safe : IsSafe area s at 0 c) (holds : Holds area at step.AnswerNow) (number : ℕ)
    (span : Span) (has : HasQuery area number span) (cells : List Cell) (slots : AreSlots c (length span.names) cells) (x : Shown)
    (shown : IsShown area.pool.names s.heaps.now s.levels.current.sets cells x) where
  abbrev G : Family
  G = family_of s.levels.current.sets

  counted : (q : Query) → IsAsked area number q → length cells ≡ length q.shown
  counted q a =
      let same = one_query area number span a.span has a.has in
      slots.0 ∙ ap (λ (p : Span). length p.names) same ∙ sym (length-map a.span.names (name_of area)) ∙ ap length a.names ∙ a.shown

  line_is : (q : Query) → shown_line q.names x ≡ slots_line q (names_of area) s.heaps.now s.levels.current.posted G cells
  line_is q = line_shown area.pool.names s.heaps.now s.levels.current.sets s.levels.current.posted cells x shown q.names

  -- what is shown is the answer
  pub answer_shown : ShowsAnswer area s at c number x
  answer_shown = record {
    terms = λ other h. (shown_length area.pool.names s.heaps.now s.levels.current.sets cells x shown ∙ slots.0 ∙ ap (λ (p : Span). length p.names) (one_query area number span other has h), shown.own);
    last = λ prog q ls n es r asked m. (
        let pair = safe.sound.now in
        let t = run_last INFINITY s.infinity area prog q (names_of area) s.heaps.now pair.valid s.levels.current.posted G pair.settled.model pair.settled.most
        at (registers_of c) (stack_of c) (choices_in s c ls) n es r holds cells slots.1 (counted q asked) m in
        (t.0 ∙ ap (λ l. model.Answer l ∷ model.Limit ∷ []) (sym (line_is q)), t.1));
    fewer = λ prog q ls n j es r asked m. (
        let pair = safe.sound.now in
        let t = run_fewer INFINITY s.infinity area prog q (names_of area) s.heaps.now pair.valid s.levels.current.posted G pair.settled.model pair.settled.most
        at (registers_of c) (stack_of c) (choices_in s c ls) n es r holds cells slots.1 (counted q asked) j m in
        (t.0, t.1 ∙ ap (λ l. model.Answer l ∷ t.0) (sym (line_is q)), t.2));
    any = λ prog q ls n es r asked m. (
        let pair = safe.sound.now in
        let t = run_any INFINITY s.infinity area prog q (names_of area) s.heaps.now pair.valid s.levels.current.posted G pair.settled.model pair.settled.most at
        (registers_of c) (stack_of c) (choices_in s c ls) n es r holds cells slots.1 (counted q asked) m in
        (t.0, t.1 ∙ ap (λ l. model.Answer l ∷ t.0) (sym (line_is q)), t.2));
  }

-- ---- what a goal writes

-- the term of the first register
pub written_is : (area : Area) (s : branch.State) (c : Contents) (d : Cell) → cell_at c.registers 1 ≡ Some d → (x : Shown)
    → IsShown area.pool.names s.heaps.now s.levels.current.sets (d ∷ []) x → ShowsWritten area s c x
written_is area s c d at_d x shown = record {
  one = (shown_length area.pool.names s.heaps.now s.levels.current.sets (d ∷ []) x shown, shown.own);
  text = written_shown area.pool.names s.heaps.now s.levels.current.sets s.levels.current.posted d x shown ∙ sym (ap (text_at area s) at_d);
}
