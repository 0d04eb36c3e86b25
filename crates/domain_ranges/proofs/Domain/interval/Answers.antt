use Rattle.std.proofs.Common.{rules, ◌∙◌, sym, SFits, to_z-of_z}
use mir.Syntax.{w128}
use Rattle.fd_language.specs.declared.TheConstants.{INFINITY}
use Rattle.domain_ranges.proofs.Members.{interval_some, interval_none, members_none}
use Rattle.domain_ranges.proofs.Domain.interval.Goals as goal

pub returns-in-Some : goal.returns-in-Some
returns-in-Some c =
    let f : SFits w128 c.args.lo = search rules in
    let g : SFits w128 c.args.hi = search rules in
    c.of_span.ensures ∙ interval_some INFINITY c.in-Some.span c.args.lo c.args.hi c.in-Some.ensures.order c.in-Some.ensures.high (λ n l. simp to_z-of_z at (c.in-Some.ensures.same n l))

pub returns-in-None : goal.returns-in-None
returns-in-None c =
    let f : SFits w128 c.args.lo = search rules in
    let g : SFits w128 c.args.hi = search rules in
    c.empty.ensures ∙ sym members_none ∙ interval_none INFINITY c.args.lo c.args.hi (λ n l. simp to_z-of_z at (c.in-None.ensures.none n l))
