use Rattle.std.proofs.Common.{◌<◌, sym, subst}
use Rattle.code_safety.specs.Safety.{IsSafe}
use Rattle.code_safety.specs.RemainingEvents.{KeepsRunning}
use Rattle.code_safety.specs.Work.{work_at}
use Rattle.code_control.proofs.TableRows.{term_safe, term_falls, term_runs, term_query}
use Rattle.code_safety.specs.Queries.{KeepsQuery}
use Rattle.code_control.proofs.switches.arm_for.Goals as goal

pub returns-clause-safe : goal.returns-clause-safe
returns-clause-safe g c =
    subst (λ to. IsSafe c.args.code.now c.args.branch.now to 0 c.args.areas.now) (sym c.place_for.ensures)
    (term_safe c.args.code.now c.args.branch.now c.args.at c.args.areas.now c.requires.safe c.requires.seen.0 c.requires.seen.1 c.args.seen c.requires.seen.2
    c.requires.safe.sound.now.valid c.args.v c.args.c c.args.i c.args.s c.requires.holds)

pub returns-clause-runs : goal.returns-clause-runs
returns-clause-runs g c =
    subst (λ to. KeepsRunning c.args.code.now c.args.branch.now c.args.at c.args.areas.now c.args.branch.now to c.args.areas.now) (sym c.place_for.ensures)
    (term_runs c.args.code.now c.args.branch.now c.args.at c.args.areas.now c.requires.safe c.requires.seen.0 c.requires.seen.1 c.args.seen c.requires.seen.2
    c.requires.safe.sound.now.valid c.args.v c.args.c c.args.i c.args.s c.requires.holds)

pub returns-clause-falls : goal.returns-clause-falls
returns-clause-falls g c =
    subst (λ to. work_at c.args.code.now to c.args.areas.now < work_at c.args.code.now c.args.at c.args.areas.now) (sym c.place_for.ensures)
    (term_falls c.args.code.now c.args.branch.now c.args.at c.args.areas.now c.requires.safe c.requires.seen.0 c.requires.seen.1 c.args.seen c.requires.seen.2
    c.requires.safe.sound.now.valid c.args.v c.args.c c.args.i c.args.s c.requires.holds)

pub returns-clause-query : goal.returns-clause-query
returns-clause-query g c =
    subst (λ to. KeepsQuery c.args.code.now c.args.at c.args.areas.now to c.args.areas.now) (sym c.place_for.ensures)
    (term_query c.args.code.now c.args.branch.now c.args.at c.args.areas.now c.requires.safe c.requires.seen.0 c.requires.seen.1 c.args.seen c.requires.seen.2
    c.requires.safe.sound.now.valid c.args.v c.args.c c.args.i c.args.s c.requires.holds)

pub returns-clause-place : goal.returns-clause-place
returns-clause-place g c = record { cell = c.requires.seen.0; there = c.requires.seen.1; shown = c.args.seen; is_seen = c.requires.seen.2; so = sym c.place_for.ensures }
