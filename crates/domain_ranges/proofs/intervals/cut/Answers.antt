use Rattle.std.proofs.Common.{rules, SFits, to_z-of_z}
use mir.Syntax.{w128}
use Rattle.fd_language.specs.declared.TheConstants.{INFINITY}
use Rattle.domain_ranges.proofs.Integers.{cut_held}
use Rattle.domain_ranges.proofs.intervals.cut.Goals as goal

pub returns-then-low-high-clause-same : goal.returns-then-low-high-clause-same
returns-then-low-high-clause-same c =
    let f : SFits w128 c.max-low.result = search rules in
    let g : SFits w128 c.min-high.result = search rules in
    cut_held INFINITY c.args.lo c.args.hi c.max-low.result c.min-high.result _ _ _ _ (to_z-of_z f) (to_z-of_z g) (to_z-of_z c.ranges.lo) (to_z-of_z c.ranges.hi)
    c.max-low.ensures.value c.min-high.ensures.value c.max-low.ensures.other_bound c.if-low-high.true
