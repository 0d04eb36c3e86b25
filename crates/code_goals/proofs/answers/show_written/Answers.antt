use Rattle.std.proofs.Common.{[], ◌∷◌, length, ap, sym, subst, ◌∙◌}
use Rattle.branch_state.specs.ShownTerms.{IsShown}
use Rattle.branch_state.specs.States.{IsCell}
use Rattle.machine_events.specs.declared.Shown.{Shown}
use Rattle.term_pool.specs.Contents.{Contents}
use Rattle.code_goals.specs.GoalTexts.{ShowsWritten}
use Rattle.code_goals.proofs.AnswerSlots.{written_is}
use Rattle.code_goals.proofs.BuiltinGoals.{all_one, ok_then}
use Rattle.code_goals.proofs.answers.show_written.Goals as goal

pub show-requires-clause-sound : goal.show-requires-clause-sound
show-requires-clause-sound g c = c.requires.safe.sound

pub show-requires-clause-atoms : goal.show-requires-clause-atoms
show-requires-clause-atoms g c = ap (λ (x : Contents). length x.names) c.pool_of.ensures.pool ∙ sym c.requires.safe.atoms

pub show-requires-clause-cells : goal.show-requires-clause-cells
show-requires-clause-cells g c = all_one (IsCell c.args.branch.now) c.register-cell.result (c.requires.safe.here.registers_own 1 c.register-cell.result c.register-cell.ensures)

pub returns : goal.returns
returns g c =
    let s = c.args.branch.now in
    ok_then (IsShown c.pool_of.result.now.names s.heaps.now s.levels.current.sets (c.register-cell.result ∷ [])) (ShowsWritten c.args.code.now s c.args.areas.now) c.show.result
    (λ (x : Shown) shown.
    written_is c.args.code.now s c.args.areas.now c.register-cell.result c.register-cell.ensures x
    (subst (λ (p : Contents). IsShown p.names s.heaps.now s.levels.current.sets (c.register-cell.result ∷ []) x) c.pool_of.ensures.pool shown))
    c.show.ensures
