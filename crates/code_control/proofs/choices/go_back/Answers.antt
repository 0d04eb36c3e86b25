use Rattle.std.proofs.Common.{List, ap, sym}
use Rattle.code_areas.specs.Areas.{Point}
use Rattle.wam_code.specs.WorkMeasure.{work}
use Rattle.code_safety.specs.Work.{point_threads}
use Rattle.code_control.proofs.Threads.{can_undo, resumed_safe}
use Rattle.code_control.proofs.Stages.{resumed_runs}
use Rattle.code_control.proofs.choices.go_back.Goals as goal

pub undo-requires-clause-sound : goal.undo-requires-clause-sound
undo-requires-clause-sound g c =
    record { greatest = c.requires.safe.sound.greatest; unspent = c.requires.safe.sound.unspent; marked = c.requires.safe.sound.marked; below = c.requires.safe.sound.below }

pub undo-requires-clause-marked : goal.undo-requires-clause-marked
undo-requires-clause-marked g c =
    can_undo c.args.code.now c.args.branch.now c.args.areas.now c.requires.safe c.requires.some

pub returns-clause-safe : goal.returns-clause-safe
returns-clause-safe g c =
    resumed_safe c.args.code.now c.args.branch.now c.undo.new.self c.args.areas.now c.pop_point.new.self c.pop_point.result c.requires.safe c.pop_point.ensures
    c.undo.ensures.undone c.undo.ensures.sound

pub returns-clause-runs : goal.returns-clause-runs
returns-clause-runs g c =
    resumed_runs c.args.code.now c.args.branch.now c.undo.new.self c.args.areas.now c.pop_point.new.self c.pop_point.result c.pop_point.ensures c.undo.ensures.undone

pub returns-clause-work : goal.returns-clause-work
returns-clause-work g c =
    ap (λ (ps : List Point). work (point_threads c.args.code.now ps)) (sym c.pop_point.ensures)

pub returns-clause-points : goal.returns-clause-points
returns-clause-points g c =
    c.pop_point.ensures
