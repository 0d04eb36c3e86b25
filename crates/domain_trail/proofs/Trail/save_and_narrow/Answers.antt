use Rattle.std.proofs.Common.{◌<◌, length, ap, arith}
use Rattle.domain_trail.proofs.Steps.{same_stores, same_length, saved_step}
use Rattle.domain_trail.proofs.Trail.save_and_narrow.Goals as goal

pub invariant_of-self-2 : goal.invariant_of-self-2
invariant_of-self-2 c =
    let t = c.self.inside in
    let within : c.args.k < length t.cells.items = omega (arith, same_length t.cells.items c.args.self.now.current (ap (λ s. s.current) c.self.view_is), c.requires) in
    let step = saved_step t.last t.marks.items t.saved.items c.reserve.new.self.items c.push_reserved.new.self.items t.cells.items t.stamp c.args.k
    c.args.domain c.replace-cell.new.dest c.index_mut.result.now c.replace-cell.result
    within c.index_mut.ensures.value c.replace-cell.ensures.value c.replace-cell.ensures.after c.reserve.ensures.items c.push_reserved.ensures.items c.self.invariant.1 c.self.invariant.0 in
    (step.trail, step.old, c.self.invariant.2)

pub returns-clause-changed : goal.returns-clause-changed
returns-clause-changed c =
    let t = c.self.inside in
    let within : c.args.k < length t.cells.items = omega (arith, same_length t.cells.items c.args.self.now.current (ap (λ s. s.current) c.self.view_is), c.requires) in
    let step = saved_step t.last t.marks.items t.saved.items c.reserve.new.self.items c.push_reserved.new.self.items t.cells.items t.stamp c.args.k
    c.args.domain c.replace-cell.new.dest c.index_mut.result.now c.replace-cell.result
    within c.index_mut.ensures.value c.replace-cell.ensures.value c.replace-cell.ensures.after c.reserve.ensures.items c.push_reserved.ensures.items c.self.invariant.1 c.self.invariant.0 in
    rw (← c.self.view_is) (same_stores step.current step.below)
