use Rattle.std.proofs.Common.{arith, sym}
use Rattle.domain_ranges.proofs.Places.{there, not_there, no_less}
use Rattle.fd_language.specs.declared.TheConstants.{INFINITY}
use Rattle.domain_ranges.proofs.intervals.contains.Goals as goal

pub returns-then-place-spans : goal.returns-then-place-spans
returns-then-place-spans c = sym (there INFINITY c.place_from-place.result c.args.n c.args.spans.now c.requires c.place_from-place.ensures.before
    c.if-place-spans.true (c.place_from-place.ensures.after c.place_from-place.result (0, 0) (omega arith) c.if-place-spans.true))

pub returns-else-place-spans : goal.returns-else-place-spans
returns-else-place-spans c = no_less _ _ _ c.if-place-spans.false
    (not_there c.place_from-place.result c.args.n c.args.spans.now c.place_from-place.ensures.before c.place_from-place.ensures.place c.if-place-spans.false)
