use Rattle.std.proofs.Common.{arith, ap, sym, ◌∙◌, subst, ◌≤◌}
use Rattle.fd_language.specs.declared.TheConstants.{INFINITY}
use Rattle.domain_ranges.specs.Spans.{within}
use Rattle.domain_ranges.proofs.Places.{next_least, next_there, none_from}
use Rattle.domain_ranges.proofs.intervals.next_from.Goals as goal

pub returns-then-place-spans-clause-there : goal.returns-then-place-spans-clause-there
returns-then-place-spans-clause-there c = ap (within c.args.spans.now) c.max.ensures
    ∙ next_there INFINITY c.place_from-place.result c.args.n c.args.spans.now c.requires c.place_from-place.ensures.before c.if-place-spans.true
    (c.place_from-place.ensures.after c.place_from-place.result (0, 0) (omega arith) c.if-place-spans.true)

pub returns-then-place-spans-clause-least : goal.returns-then-place-spans-clause-least
returns-then-place-spans-clause-least c = λ k h t. subst (λ m. m ≤ k) (sym c.max.ensures)
    (next_least INFINITY c.place_from-place.result c.args.n k c.args.spans.now c.requires c.place_from-place.ensures.before c.if-place-spans.true h t)

pub returns-else-place-spans-clause-none : goal.returns-else-place-spans-clause-none
returns-else-place-spans-clause-none c = λ k h. none_from c.place_from-place.result c.args.n k c.args.spans.now c.place_from-place.ensures.before
    c.place_from-place.ensures.place c.if-place-spans.false h
