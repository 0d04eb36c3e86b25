use Rattle.std.proofs.Common.{rules, ◌∷◌, [], arith, length, sym, subst}
use Rattle.range_code.specs.Frames.{slot_set, slot_integer}
use Rattle.range_code.specs.Heights.{HasRoom, IsCounted}
use Rattle.range_code.specs.Instructions.{node_of, IsPlaced}
use Rattle.range_code.specs.Nodes.{IsReadable}
use Rattle.range_code.specs.Work.{CanTake, IsTaken}
use Rattle.range_code.proofs.Walks.{walk_start, walk_takes, walk_step, readable_at}
use Rattle.range_code.proofs.ConstantPlaces.{at_drop}
use Rattle.range_code.proofs.Heights.{room_there, room_next, keeps_on}
use Rattle.range_code.proofs.evaluate.run.Goals as goal

pub loop-place-init : goal.loop-place-init
loop-place-init g c = record {
  behind = omega arith;
  walked = walk_start (slot_set (g.V.View.sets c.args.view.now) c.args.args.now) (slot_integer c.args.args.now) c.args.steps.now c.args.work.now c.requires.spelled c.requires.values c.requires.sets;
  room = c.requires.room;
  kept = search rules;
}

pub take-requires-clause-placed : goal.take-requires-clause-placed
take-requires-clause-placed g c = subst (IsPlaced (length c.args.steps.now.constants.items)) (sym c.index.ensures)
    (at_drop (IsPlaced (length c.args.steps.now.constants.items)) c.args.steps.now.instrs.items c.args.steps.now.tests c.loop-place.place c.index.result.now
    c.loop-place.invariant.behind (omega (arith, c.loop-place-test.true, c.requires.end)) c.requires.placed)

pub take-requires-clause-readable : goal.take-requires-clause-readable
take-requires-clause-readable g c = subst (λ j. IsReadable (length (g.V.View.sets c.args.view.now)) c.args.args.now
    (node_of c.args.steps.now.constants.items j)) (sym c.index.ensures)
    (readable_at (length (g.V.View.sets c.args.view.now)) c.args.args.now c.args.steps.now c.loop-place.place c.index.result.now c.loop-place.invariant.behind
    (omega (arith, c.loop-place-test.true, c.requires.end)) c.requires.readable)

pub take-requires-clause-fits : goal.take-requires-clause-fits
take-requires-clause-fits g c = subst (λ j. CanTake (node_of c.args.steps.now.constants.items j) c.loop-place.work) (sym c.index.ensures)
    (walk_takes (slot_set (g.V.View.sets c.args.view.now) c.args.args.now) (slot_integer c.args.args.now) c.loop-place.place c.args.steps.now c.index.result.now
    c.loop-place.work (omega (arith, c.loop-place-test.true, c.requires.end)) c.requires.fits c.loop-place.invariant.walked)

pub take-requires-clause-room : goal.take-requires-clause-room
take-requires-clause-room g c = subst (λ j. HasRoom (node_of c.args.steps.now.constants.items j ∷ []) c.loop-place.work) (sym c.index.ensures)
    (room_there c.args.steps.now c.loop-place.place c.index.result.now c.loop-place.work (omega (arith, c.loop-place-test.true, c.requires.end))
    c.loop-place.invariant.room)

pub loop-place-preserved : goal.loop-place-preserved
loop-place-preserved g c = record {
  behind = omega (arith, c.loop-place.invariant.behind);
  walked = walk_step (slot_set (g.V.View.sets c.args.view.now) c.args.args.now) (slot_integer c.args.args.now) c.loop-place.place c.args.steps.now
      c.index.result.now c.loop-place.work c.take.new.work (omega (arith, c.loop-place-test.true, c.requires.end)) c.loop-place.invariant.walked
      (subst (λ j. IsTaken (slot_set (g.V.View.sets c.args.view.now) c.args.args.now) (slot_integer c.args.args.now)
      (node_of c.args.steps.now.constants.items j) c.loop-place.work c.take.new.work) c.index.ensures c.in_ok-take.ensures.taken);
  room = room_next c.args.steps.now c.loop-place.place c.index.result.now c.loop-place.work c.take.new.work
      (omega (arith, c.loop-place-test.true, c.requires.end)) c.loop-place.invariant.room
      (subst (λ j. IsCounted (node_of c.args.steps.now.constants.items j) c.loop-place.work c.take.new.work) c.index.ensures c.in_ok-take.ensures.counted)
      c.in_ok-take.ensures.kept;
  kept = keeps_on c.args.work.now c.loop-place.work c.take.new.work c.loop-place.invariant.kept c.in_ok-take.ensures.kept;
}
