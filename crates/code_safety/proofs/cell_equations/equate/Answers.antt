use Rattle.code_safety.proofs.CellEquations.{equated}
use Rattle.code_safety.proofs.cell_equations.equate.Goals as goal

pub returns-clause-equates : goal.returns-clause-equates
returns-clause-equates g c =
    let e = rw c.if-not-branch.false at c.in_ok-unify.ensures in
    let p = c.post_touches.ensures in
    equated c.args.branch.now c.unify.new.self c.post_touches.new.self c.args.a c.args.b c.clear.new.self.items c.unify.new.touches.items c.deref.result.now
    c.clear.ensures.items c.deref.ensures.value e.equal e.heap p.heap c.post_touches.result p.posted p.none p.sound p.below
