use Rattle.std.proofs.Common.{◌+◌, ◌≤◌, length, take, refl, ap, ◌∙◌}
use Rattle.wam_code.specs.declared.instruction.Code.TheVariants as step
use Rattle.code_areas.specs.Areas.{Contents}
use Rattle.code_safety.specs.Safety.{IsSafe}
use Rattle.code_safety.specs.RemainingEvents.{Calls}
use Rattle.code_control.proofs.Threads.{execute_safe, moved_to}
use Rattle.code_safety.specs.Work.{work_at, most_work}
use Rattle.code_control.proofs.Stages.{execute_runs}
use Rattle.code_control.proofs.Work.{executed_most}
use Rattle.code_safety.specs.Queries.{KeepsQuery}
use Rattle.code_control.proofs.Queries.{execute_query}
use Rattle.code_control.proofs.calls.execute.Goals as goal

pub entry_of-entry-requires : goal.entry_of-entry-requires
entry_of-entry-requires g c =
    c.requires.safe.verified.there c.args.at (step.Execute c.args.e) c.requires.holds

pub returns-clause-safe : goal.returns-clause-safe
returns-clause-safe g c =
    moved_to (λ to a. IsSafe c.args.code.now c.args.branch.now to 0 a) c.entry_of-entry.result.at c.entry_of-entry.result.at
    (record c.args.areas.now { registers = take (c.entry_of-entry.result.arity + 1) c.args.areas.now.registers; noted = length c.args.areas.now.points })
    c.keep_registers.new.self refl (c.keep_registers.ensures
    ∙ ap (λ (a : Contents). record a { registers = take (c.entry_of-entry.result.arity + 1) a.registers }) c.note.ensures)
    (execute_safe c.args.code.now c.args.branch.now c.args.at c.args.areas.now c.requires.safe c.args.e c.requires.holds c.entry_of-entry.result c.entry_of-entry.ensures)

pub returns-clause-runs : goal.returns-clause-runs
returns-clause-runs g c =
    moved_to (λ to a. Calls c.args.code.now c.args.branch.now c.args.at c.args.areas.now c.args.branch.now to a) c.entry_of-entry.result.at
    c.entry_of-entry.result.at (record c.args.areas.now {
      registers = take (c.entry_of-entry.result.arity + 1) c.args.areas.now.registers;
      noted = length c.args.areas.now.points;
    }) c.keep_registers.new.self refl
    (c.keep_registers.ensures ∙ ap (λ (a : Contents). record a { registers = take (c.entry_of-entry.result.arity + 1) a.registers }) c.note.ensures)
    (execute_runs c.args.code.now c.args.branch.now c.args.at c.args.areas.now c.requires.safe c.args.e c.requires.holds c.entry_of-entry.result c.entry_of-entry.ensures)

pub returns-clause-most : goal.returns-clause-most
returns-clause-most g c =
    moved_to (λ to a. work_at c.args.code.now to a ≤ most_work c.args.code.now (work_at c.args.code.now c.args.at c.args.areas.now)) c.entry_of-entry.result.at
    c.entry_of-entry.result.at (record c.args.areas.now {
      registers = take (c.entry_of-entry.result.arity + 1) c.args.areas.now.registers;
      noted = length c.args.areas.now.points;
    }) c.keep_registers.new.self refl
    (c.keep_registers.ensures ∙ ap (λ (a : Contents). record a { registers = take (c.entry_of-entry.result.arity + 1) a.registers }) c.note.ensures)
    (executed_most c.args.code.now c.requires.safe.states c.requires.safe.verified c.args.at c.args.areas.now c.entry_of-entry.result.at
    (take (c.entry_of-entry.result.arity + 1) c.args.areas.now.registers))

pub returns-clause-same : goal.returns-clause-same
returns-clause-same g c =
    let after = c.keep_registers.ensures ∙ ap (λ (a : Contents). record a { registers = take (c.entry_of-entry.result.arity + 1) a.registers }) c.note.ensures in
    record { returns = ap (λ (a : Contents). a.returns) after; points = ap (λ (a : Contents). a.points) after }

pub returns-clause-query : goal.returns-clause-query
returns-clause-query g c =
    moved_to (λ to a. KeepsQuery c.args.code.now c.args.at c.args.areas.now to a) c.entry_of-entry.result.at c.entry_of-entry.result.at
    (record c.args.areas.now { registers = take (c.entry_of-entry.result.arity + 1) c.args.areas.now.registers; noted = length c.args.areas.now.points })
    c.keep_registers.new.self refl (c.keep_registers.ensures
    ∙ ap (λ (a : Contents). record a { registers = take (c.entry_of-entry.result.arity + 1) a.registers }) c.note.ensures)
    (execute_query c.args.code.now c.args.branch.now c.args.at c.args.areas.now c.requires.safe c.args.e c.requires.holds c.entry_of-entry.result.at
    (take (c.entry_of-entry.result.arity + 1) c.args.areas.now.registers))

pub returns-clause-place : goal.returns-clause-place
returns-clause-place g c = (c.entry_of-entry.result, c.entry_of-entry.ensures, refl)
