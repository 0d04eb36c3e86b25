use Rattle.std.proofs.Common.{List, length, All, ap, sym, subst, ◌∙◌}
use Rattle.heap_cells.specs.declared.Cell.{Cell}
use Rattle.branch_state.specs.ShownTerms.{IsShown}
use Rattle.branch_state.specs.States.{IsCell}
use Rattle.machine_events.specs.declared.Shown.{Shown}
use Rattle.term_pool.specs.Contents.{Contents}
use Rattle.code_goals.specs.Answers.{HasFirstSlots, AreSlots, ShowsAnswer}
use Rattle.code_goals.proofs.AnswerSlots.{query_within, slots_own, answer_shown}
use Rattle.code_goals.proofs.BuiltinGoals.{ok_then}
use Rattle.code_goals.proofs.GoalSafety.{slots_there}
use Rattle.code_goals.proofs.answers.show_answer.Goals as goal

pub shown_count-requires : goal.shown_count-requires
shown_count-requires g c = query_within c.args.code.now c.args.query c.args.at c.requires.query

pub slot_cells-requires : goal.slot_cells-requires
slot_cells-requires g c =
    subst (λ n. HasFirstSlots n c.args.areas.now) (sym (c.shown_count.ensures c.requires.query.0 c.requires.query.1))
    (slots_there c.args.code.now c.args.branch.now c.args.at c.args.areas.now c.requires.safe c.requires.holds c.args.query c.requires.query.0 c.requires.query.1 c.requires.query.2)

pub show-requires-clause-sound : goal.show-requires-clause-sound
show-requires-clause-sound g c = c.requires.safe.sound

pub show-requires-clause-atoms : goal.show-requires-clause-atoms
show-requires-clause-atoms g c = ap (λ (x : Contents). length x.names) c.pool.ensures ∙ sym c.requires.safe.atoms

pub show-requires-clause-cells : goal.show-requires-clause-cells
show-requires-clause-cells g c = subst (All (IsCell c.args.branch.now)) (sym c.deref.ensures.value)
    (slots_own c.args.branch.now c.args.areas.now c.requires.safe.here.slots_own 0 c.in_ok-cells.cells.items c.in_ok-cells.ensures.1)

pub returns : goal.returns
returns g c =
    let s = c.args.branch.now in
    let q = c.requires.query in
    let items = c.in_ok-cells.cells.items in
    let slots = subst (λ n. AreSlots c.args.areas.now n items) (c.shown_count.ensures q.0 q.1) c.in_ok-cells.ensures in
    ok_then (IsShown c.pool.result.now.names s.heaps.now s.levels.current.sets c.deref.result.now) (ShowsAnswer c.args.code.now s c.args.at c.args.areas.now c.args.query) c.show.result
    (λ (x : Shown) shown. (
    let by_code = subst (λ (p : Contents). IsShown p.names s.heaps.now s.levels.current.sets c.deref.result.now x) c.pool.ensures shown in
    answer_shown c.args.code.now s c.args.at c.args.areas.now c.requires.safe c.requires.holds c.args.query q.0 q.1 items slots x
    (subst (λ (ds : List Cell). IsShown c.args.code.now.pool.names s.heaps.now s.levels.current.sets ds x) c.deref.ensures.value by_code)))
    c.show.ensures
