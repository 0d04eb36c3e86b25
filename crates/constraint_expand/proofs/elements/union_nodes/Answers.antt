use Rattle.std.proofs.Common.{◌+◌, ℤ, pos, ◌++◌, get_or, ap, ◌∙◌, rules, arith, FitsSigned}
use Rattle.std.specs.Int.{w64}
use Rattle.std.proofs.lemmas.Int.{to_z-of_z}
use Rattle.std.proofs.lemmas.List.{drop_all}
use Rattle.fd_language.specs.PostfixRanges.{nodes_of}
use Rattle.constraint_expand.specs.Unions.{given_at, given_from, joined_nodes}
use Rattle.constraint_expand.proofs.Unions.{writing_turns, writing_ends}
use Rattle.constraint_expand.proofs.elements.union_nodes.Goals as goal

pub loop-index-preserved : goal.loop-index-preserved
loop-index-preserved c =
    let d = c.args.direction in
    let y = c.args.variable in
    let zs = c.args.others.now in
    let i = c.loop-index.index in
    let fits : FitsSigned w64 (get_or zs i (pos 0)) = search rules in
    writing_turns d y _ c.loop-index.nodes.items c.write_given-in-loop-index.new.nodes.items c.push.new.self.items zs i (pos 0) c.loop-index-test.true c.loop-index.invariant
    (c.in_ok-write_given-2.ensures ∙ ap (λ (z : ℤ). c.loop-index.nodes.items ++ nodes_of (given_at d y (i + 2) z)) (to_z-of_z w64 (get_or zs i (pos 0)) fits)) c.in_ok-push.ensures.items

pub returns : goal.returns
returns c =
    let d = c.args.direction in
    let y = c.args.variable in
    let zs = c.args.others.now in
    writing_ends d y _ c.loop-index.nodes.items zs c.loop-index.index (drop_all c.loop-index.index zs (omega arith)) c.loop-index.invariant
    ∙ ap (λ (z : ℤ). nodes_of (given_at d y 1 z) ++ joined_nodes (given_from d y 2 zs)) (to_z-of_z w64 c.args.first c.ranges.first)
