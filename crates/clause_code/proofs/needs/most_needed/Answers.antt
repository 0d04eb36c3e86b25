use Rattle.std.proofs.Common.{ap, sym, ◌∙◌, length, arith}
use Rattle.clause_check.specs.Programs.{goals_between}
use Rattle.clause_code.specs.LevelSlots.{each_need}
use Rattle.clause_code.proofs.LevelSlots.{need_none, need_step}
use Rattle.clause_code.proofs.needs.most_needed.Goals as goal

pub loop-i-init : goal.loop-i-init
loop-i-init c = sym (need_none c.args.program.now c.args.part.from c.args.part.from (omega arith))

pub loop-i-preserved : goal.loop-i-preserved
loop-i-preserved c =
    need_step c.args.program.now c.known.ensures (length c.args.needs.now) c.args.needs.now c.requires.needs c.args.part.from c.loop-i.i c.loop-i.most
    c.greater-most.result c.loop-i.auto.i (let l = c.loop-i-test.true in let w = c.requires.within in
    omega (arith, l, w)) c.requires.goals c.loop-i.invariant c.greater-most.ensures

pub returns : goal.returns
returns c =
    let low = c.loop-i.auto.i-end c.requires.order in
    let high = c.loop-i-test.false in
    c.loop-i.invariant ∙ ap (λ k. each_need (goals_between c.args.program.now c.args.part.from k)) (omega (arith, low, high))
