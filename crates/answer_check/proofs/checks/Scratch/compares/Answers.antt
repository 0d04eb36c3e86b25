use Rattle.std.proofs.Common.{rules, SFits, to_z-of_z, ◌≤◌, ◌-◌, subst, sym, ap, length}
use mir.Syntax.{w128}
use Rattle.answer_check.specs.AnswerLines.{assigned}
use Rattle.answer_check.proofs.CheckSteps.{some_nodes, ends_hold}
use Rattle.answer_check.proofs.checks.Scratch.compares.Goals as goal

pub overflow_sub-nodes : goal.overflow_sub-nodes
overflow_sub-nodes c = subst (λ ns. 1 ≤ length ns) (sym c.nodes.ensures) (some_nodes (assigned c.args.values.now) c.args.sides.now c.requires)

pub returns : goal.returns
returns c =
    let l : SFits w128 c.pop_number-left.result = search rules in
    let r : SFits w128 c.pop_number-right.result = search rules in
    ends_hold (assigned c.args.values.now) c.args.relation c.args.sides.now (length c.nodes.result.now - 1) c.run.new.self
    c.pop_number-right.new.self.numbers.items c.pop_number-left.result c.pop_number-right.result c.holds.result c.requires
    (ap (λ ns. length ns - 1) c.nodes.ensures) c.in_ok-run.ensures c.pop_number-right.ensures.taken (λ front x e. (c.pop_number-left.ensures.taken front x e).0) (simp to_z-of_z at c.holds.ensures)
