use Rattle.std.proofs.Common.{rules, subst}
use Rattle.std.proofs.lemmas.List.{take_all}
use Rattle.std.proofs.lemmas.List.Elements.{All-more}
use Rattle.unify_core.specs.OccursCheck.{IsAbsentAmong, ShowsOther}
use Rattle.unify_core.proofs.OccursCheck.{others_next}
use Rattle.unify_core.proofs.are_others.Goals as goal

pub loop-c-preserved : goal.loop-c-preserved
loop-c-preserved c =
    let k = c.is_soon_other.ensures.other (search rules) in (
      others_next c.args.heap.now.now c.is_soon_other.ensures.valid c.args.var c.args.cells.now c.loop-c.c-index _ k.0 c.loop-c-test.true c.loop-c.invariant.0 k.1 k.2 k.3,
      All-more (ShowsOther c.args.heap.now.now c.args.var) c.args.cells.now c.loop-c.c-index _ c.loop-c-test.true c.loop-c.invariant.1 (c.is_soon_other.ensures.shows.0 (search rules)),
    )

pub returns-clause-absent : goal.returns-clause-absent
returns-clause-absent c = λ t. subst (IsAbsentAmong c.args.heap.now.now c.args.var) (take_all c.loop-c.c-index c.args.cells.now c.loop-c-test.false) c.loop-c.invariant.0
