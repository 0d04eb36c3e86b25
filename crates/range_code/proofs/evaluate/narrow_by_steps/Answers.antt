use Rattle.fd_language.specs.PostfixRanges.{spelled_range}
use Rattle.domain_ranges.specs.Narrowing.{between}
use Rattle.range_code.specs.Frames.{slot_set, slot_integer}
use Rattle.range_code.specs.Heights.{HasRoom}
use Rattle.range_code.specs.Instructions.{node_of, IsPlaced}
use Rattle.range_code.specs.Nodes.{IsReadable}
use Rattle.range_code.specs.Work.{filled_set, CanTake, IsTaken}
use Rattle.range_code.specs.StepNodes.{all_steps}
use Rattle.std.proofs.Common.{◌≤◌, ◌-◌, ◌+◌, ◌∙◌, sym, subst, get_or, ◌∷◌, [], length, arith}
use Rattle.range_code.specs.Steps.{outside}
use Rattle.range_code.proofs.Heights.{room_there}
use Rattle.range_code.proofs.Forms.{narrows_same}
use Rattle.range_code.proofs.ConstantPlaces.{at_drop}
use Rattle.range_code.proofs.Walks.{IsLast, some_step, walk_takes, walk_step, readable_at, set_alone, last_ends, last_inner}
use Rattle.range_code.proofs.evaluate.narrow_by_steps.Goals as goal

pub overflow_sub-last : goal.overflow_sub-last
overflow_sub-last g c = let t = some_step c.args.steps.now c.requires.spelled in omega (arith, t, c.len-last.ensures, c.args.steps.now.instrs.ok.0)

pub run-requires-clause-start : goal.run-requires-clause-start
run-requires-clause-start g c = let t = some_step c.args.steps.now c.requires.spelled in omega (arith, t, c.len-last.ensures, c.args.steps.now.instrs.ok.0)

pub index-requires : goal.index-requires
index-requires g c = let t = some_step c.args.steps.now c.requires.spelled in omega (arith, t, c.len-last.ensures, c.args.steps.now.instrs.ok.0)

pub take-requires : goal.take-requires
take-requires g c =
    let t = some_step c.args.steps.now c.requires.spelled in
    let l : IsLast c.args.steps.now (c.len-last.result - 1) = record {
      there = omega (arith, t, c.len-last.ensures, c.args.steps.now.instrs.ok.0);
      last = omega (arith, t, c.len-last.ensures, c.args.steps.now.instrs.ok.0);
    } in
    let behind : c.args.steps.now.tests ≤ (c.len-last.result - 1) = omega (arith, t, c.len-last.ensures, c.args.steps.now.instrs.ok.0) in
    record {
      placed = subst (IsPlaced (length c.args.steps.now.constants.items)) (sym c.index.ensures)
          (at_drop (IsPlaced (length c.args.steps.now.constants.items)) c.args.steps.now.instrs.items c.args.steps.now.tests (c.len-last.result - 1)
          c.index.result.now behind l.there c.requires.placed);
      readable = subst (λ j. IsReadable (length (g.V.View.sets c.args.view.now)) c.args.args.now (node_of c.args.steps.now.constants.items j))
          (sym c.index.ensures) (readable_at (length (g.V.View.sets c.args.view.now)) c.args.args.now c.args.steps.now (c.len-last.result - 1)
          c.index.result.now behind l.there c.requires.readable);
      fits = subst (λ j. CanTake (node_of c.args.steps.now.constants.items j) c.run.new.work) (sym c.index.ensures)
          (walk_takes (slot_set (g.V.View.sets c.args.view.now) c.args.args.now) (slot_integer c.args.args.now) (c.len-last.result - 1) c.args.steps.now
          c.index.result.now c.run.new.work l.there c.requires.fits c.in_ok-run.ensures.walked);
      room = subst (λ j. HasRoom (node_of c.args.steps.now.constants.items j ∷ []) c.run.new.work) (sym c.index.ensures)
          (room_there c.args.steps.now (c.len-last.result - 1) c.index.result.now c.run.new.work l.there c.in_ok-run.ensures.room);
    }

pub returns-in-Span-clause-narrowed : goal.returns-in-Span-clause-narrowed
returns-in-Span-clause-narrowed g c =
    let t = some_step c.args.steps.now c.requires.spelled in
    let l : IsLast c.args.steps.now (c.len-last.result - 1) = record {
      there = omega (arith, t, c.len-last.ensures, c.args.steps.now.instrs.ok.0);
      last = omega (arith, t, c.len-last.ensures, c.args.steps.now.instrs.ok.0);
    } in
    let ends = last_ends (slot_set (g.V.View.sets c.args.view.now) c.args.args.now) (slot_integer c.args.args.now) c.args.steps.now (c.len-last.result - 1)
    c.index.result.now c.run.new.work l (sym c.index.ensures ∙ c.in-Span.is) c.in_ok-run.ensures.walked in
    narrows_same c.narrow_to_ends.result c.args.target.now (between ends.low ends.high)
    (filled_set (slot_set (g.V.View.sets c.args.view.now) c.args.args.now) (slot_integer c.args.args.now) (spelled_range (all_steps c.args.steps.now)))
    (sym ends.set) (c.narrow_to_ends.ensures.narrowed ends.low ends.high ends.values)

pub returns-in-Outside-clause-narrowed : goal.returns-in-Outside-clause-narrowed
returns-in-Outside-clause-narrowed g c =
    let t = some_step c.args.steps.now c.requires.spelled in
    let l : IsLast c.args.steps.now (c.len-last.result - 1) = record {
      there = omega (arith, t, c.len-last.ensures, c.args.steps.now.instrs.ok.0);
      last = omega (arith, t, c.len-last.ensures, c.args.steps.now.instrs.ok.0);
    } in
    let inner = last_inner (slot_set (g.V.View.sets c.args.view.now) c.args.args.now) (slot_integer c.args.args.now) c.args.steps.now (c.len-last.result - 1)
    c.index.result.now c.run.new.work l (sym c.index.ensures ∙ c.in-Outside.is) c.in_ok-run.ensures.walked in
    narrows_same c.narrow_to_outside.result c.args.target.now (outside inner.inner)
    (filled_set (slot_set (g.V.View.sets c.args.view.now) c.args.args.now) (slot_integer c.args.args.now) (spelled_range (all_steps c.args.steps.now)))
    (sym inner.set) (c.narrow_to_outside.ensures.narrowed inner.inner inner.rest inner.sets)

pub returns-in_ok-take-in_default-clause-narrowed : goal.returns-in_ok-take-in_default-clause-narrowed
returns-in_ok-take-in_default-clause-narrowed g c =
    let t = some_step c.args.steps.now c.requires.spelled in
    let l : IsLast c.args.steps.now (c.len-last.result - 1) = record {
      there = omega (arith, t, c.len-last.ensures, c.args.steps.now.instrs.ok.0);
      last = omega (arith, t, c.len-last.ensures, c.args.steps.now.instrs.ok.0);
    } in
    let taken : IsTaken (slot_set (g.V.View.sets c.args.view.now) c.args.args.now) (slot_integer c.args.args.now)
    (node_of c.args.steps.now.constants.items (get_or c.args.steps.now.instrs.items (c.len-last.result - 1) c.index.result.now)) c.run.new.work
    c.take.new.work = subst (λ j. IsTaken (slot_set (g.V.View.sets c.args.view.now) c.args.args.now) (slot_integer c.args.args.now)
    (node_of c.args.steps.now.constants.items j) c.run.new.work c.take.new.work) c.index.ensures c.in_ok-take-in_default.ensures.taken in
    let gives = set_alone (slot_set (g.V.View.sets c.args.view.now) c.args.args.now) (slot_integer c.args.args.now) c.args.steps.now
    ((c.len-last.result - 1) + 1) c.take.new.work l.last
    (walk_step (slot_set (g.V.View.sets c.args.view.now) c.args.args.now) (slot_integer c.args.args.now) (c.len-last.result - 1) c.args.steps.now
    c.index.result.now c.run.new.work c.take.new.work l.there c.in_ok-run.ensures.walked taken) in
    c.narrow_to_set.ensures.narrowed _ [] gives
