use Rattle.std.proofs.Common.{ap, SFits, to_z-of_z}
use mir.Syntax.{w64, w128}
use Rattle.domain_ranges.specs.Narrowing.{between}
use Rattle.range_code.specs.Steps.{outside}
use Rattle.range_code.proofs.Forms.{wider, narrows_same}
use Rattle.range_code.proofs.evaluate.narrow_outside.Goals as goal

pub returns : goal.returns
returns c =
    let a : SFits w64 c.args.low = c.ranges.low in
    let b : SFits w64 c.args.high = c.ranges.high in
    let f : SFits w128 c.args.low = wider c.args.low a in
    let h : SFits w128 c.args.high = wider c.args.high b in
    let i = simp to_z-of_z at c.interval-inner.ensures in
    narrows_same c.narrow_to_others.result c.args.target.now (outside c.interval-inner.result) (outside (between c.args.low c.args.high)) (ap outside i) c.narrow_to_others.ensures
