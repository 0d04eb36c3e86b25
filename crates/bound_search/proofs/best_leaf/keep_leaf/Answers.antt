use Rattle.range_code.specs.Frames.{family_of}
use Rattle.fd_language.specs.Range.{least}
use Rattle.bound_search.proofs.Values.{values_step, values_whole}
use Rattle.bound_search.proofs.best_leaf.keep_leaf.Goals as goal

pub loop-member-preserved : goal.loop-member-preserved
loop-member-preserved g c = values_step (λ x. least (family_of c.args.store.now.current.sets x)) c.args.list.now c.loop-member.best.values.items
    c.push_value.new.values.items c.loop-member.member-index _ c.loop-member-test.true c.loop-member.invariant c.in_ok-push_value.ensures

pub returns-clause-values : goal.returns-clause-values
returns-clause-values g c = values_whole (λ x. least (family_of c.args.store.now.current.sets x)) c.args.list.now c.loop-member.best.values.items
    c.loop-member.member-index c.loop-member-test.false c.loop-member.invariant
