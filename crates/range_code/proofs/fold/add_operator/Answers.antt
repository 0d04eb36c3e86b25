use Rattle.std.proofs.Common.{rules, SFits, to_z-of_z}
use mir.Syntax.{w128}
use Rattle.range_code.proofs.FoldedRanges.{put_joined}
use Rattle.range_code.proofs.fold.add_operator.Goals as goal

pub returns-in-Some-2 : goal.returns-in-Some-2
returns-in-Some-2 c =
    let f : SFits w128 c.in-Some-2.a = search rules in
    let h : SFits w128 c.in-Some.b = search rules in
    let k : SFits w128 c.combined.result = search rules in
    put_joined c.args.node c.args.pieces.now.items c.pop_literal.new.pieces.items c.pop_literal-in-Some.new.pieces.items c.push.new.self.items c.in_ok-b.field-0
    c.in_ok-a.field-0 c.in-Some-2.a c.in-Some.b c.combined.result
    c.in_ok-b.ensures.value c.in-Some.is c.in_ok-b.ensures.left c.in_ok-a.ensures.value c.in-Some-2.is c.in_ok-a.ensures.left
    (simp to_z-of_z at c.combined.ensures) (simp to_z-of_z at c.in_ok-push.ensures.items)
