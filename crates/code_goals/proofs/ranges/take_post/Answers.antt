use Rattle.std.proofs.Common.{ap, length, List, refl, arith}
use Rattle.heap_cells.specs.declared.Cell.{Cell}
use Rattle.wam_code.specs.declared.instruction.Code.TheVariants as step
use Rattle.code_safety.proofs.Lemmas.{within_code}
use Rattle.code_goals.proofs.Posting.{registers_counted, rest_own, rest_counted, fault_takes, kept_takes, failed_takes, kept_next, failed_next}
use Rattle.code_goals.proofs.GoalSafety.{arguments_there}
use Rattle.code_goals.proofs.ranges.take_post.Goals as goal

pub gather-requires : goal.gather-requires
gather-requires g c =
    let f = c.requires.holds in
    arguments_there c.args.code.now c.args.branch.now c.args.at c.args.areas.now (step.PostRange f.0 c.args.count) c.args.count c.requires.safe f.1 (λ t. refl)

pub register-target-requires : goal.register-target-requires
register-target-requires g c =
    let f = c.requires.holds in
    let size = registers_counted c.args.code.now c.args.branch.now c.args.at c.args.areas.now c.requires.safe f.0 c.args.count f.1 in
    arguments_there c.args.code.now c.args.branch.now c.args.at c.args.areas.now (step.PostRange f.0 c.args.count) c.args.count c.requires.safe f.1 (λ t. refl) 1 (omega arith) (omega (arith, size))

pub behind_first-requires : goal.behind_first-requires
behind_first-requires g c =
    let f = c.requires.holds in
    let size = registers_counted c.args.code.now c.args.branch.now c.args.at c.args.areas.now c.requires.safe f.0 c.args.count f.1 in
    let gathered = c.in_ok-gather.ensures.0 in
    let seen = ap (λ (ds : List Cell). length ds) c.deref.ensures.value in
    omega (arith, size, gathered, seen)

pub post_cells-requires-clause-target : goal.post_cells-requires-clause-target
post_cells-requires-clause-target g c = c.requires.safe.here.registers_own 1 c.register-target.result c.register-target.ensures

pub post_cells-requires-clause-cells : goal.post_cells-requires-clause-cells
post_cells-requires-clause-cells g c =
    rest_own c.args.code.now c.args.branch.now c.args.at c.args.areas.now c.requires.safe c.args.range.now.value c.args.count c.requires.holds
    c.gather.new.cells.items c.in_ok-gather.ensures c.deref.result.now c.behind_first.result.now c.deref.ensures.value c.behind_first.ensures

pub post_cells-requires-clause-counted : goal.post_cells-requires-clause-counted
post_cells-requires-clause-counted g c =
    rest_counted c.args.code.now c.args.branch.now c.args.at c.args.areas.now c.requires.safe c.args.range.now.value c.args.count c.requires.holds
    c.gather.new.cells.items c.in_ok-gather.ensures c.deref.result.now c.behind_first.result.now c.deref.ensures.value c.behind_first.ensures

pub behind-requires : goal.behind-requires
behind-requires g c = (let f = c.requires.holds in within_code c.args.code.now c.args.at (step.PostRange f.0 c.args.count) f.1)

pub returns-in-Kept-clause-safe : goal.returns-in-Kept-clause-safe
returns-in-Kept-clause-safe g c =
    kept_next c.args.code.now c.args.branch.now c.args.at c.args.areas.now c.requires.safe c.args.range.now.value c.args.count c.requires.holds
    c.gather.new.cells.items c.in_ok-gather.ensures c.deref.result.now c.behind_first.result.now c.deref.ensures.value c.behind_first.ensures
    c.register-target.result c.register-target.ensures c.post_cells.new.self c.in_ok-post_cells.field-0 c.in_ok-post_cells.ensures.step
    c.in_ok-post_cells.ensures.same c.in-Kept.is c.behind.result c.behind.ensures

pub returns-in-Kept-clause-takes : goal.returns-in-Kept-clause-takes
returns-in-Kept-clause-takes g c =
    kept_takes c.args.code.now c.args.branch.now c.args.at c.args.areas.now c.requires.safe c.args.range.now.value c.args.count c.requires.holds
    c.gather.new.cells.items c.in_ok-gather.ensures c.deref.result.now c.behind_first.result.now c.deref.ensures.value c.behind_first.ensures
    c.register-target.result c.register-target.ensures c.post_cells.new.self c.in_ok-post_cells.field-0 c.in_ok-post_cells.ensures.step
    c.in_ok-post_cells.ensures.same c.in-Kept.is c.behind.result c.behind.ensures

pub returns-in-Failed-clause-safe : goal.returns-in-Failed-clause-safe
returns-in-Failed-clause-safe g c =
    failed_next c.args.code.now c.args.branch.now c.args.at c.args.areas.now c.requires.safe c.args.range.now.value c.args.count c.requires.holds
    c.gather.new.cells.items c.in_ok-gather.ensures c.deref.result.now c.behind_first.result.now c.deref.ensures.value c.behind_first.ensures
    c.register-target.result c.register-target.ensures c.post_cells.new.self c.in_ok-post_cells.field-0 c.in_ok-post_cells.ensures.step c.in_ok-post_cells.ensures.same c.in-Failed.is

pub returns-in-Failed-clause-takes : goal.returns-in-Failed-clause-takes
returns-in-Failed-clause-takes g c =
    failed_takes c.args.code.now c.args.branch.now c.args.at c.args.areas.now c.requires.safe c.args.range.now.value c.args.count c.requires.holds
    c.gather.new.cells.items c.in_ok-gather.ensures c.deref.result.now c.behind_first.result.now c.deref.ensures.value c.behind_first.ensures
    c.register-target.result c.register-target.ensures c.post_cells.new.self c.in_ok-post_cells.field-0 c.in_ok-post_cells.ensures.step c.in_ok-post_cells.ensures.same c.in-Failed.is

pub returns-in-Fault-clause-takes : goal.returns-in-Fault-clause-takes
returns-in-Fault-clause-takes g c =
    fault_takes c.args.code.now c.args.branch.now c.args.at c.args.areas.now c.requires.safe c.args.range.now.value c.args.count c.requires.holds
    c.gather.new.cells.items c.in_ok-gather.ensures c.deref.result.now c.behind_first.result.now c.deref.ensures.value c.behind_first.ensures
    c.register-target.result c.register-target.ensures c.post_cells.new.self c.in_ok-post_cells.field-0 c.in_ok-post_cells.ensures.step c.in-Fault.fault c.in-Fault.is
