use Rattle.std.proofs.Common.{rules, ◌∙◌, arith, ◌≤◌}
use Rattle.fd_language.specs.declared.TheConstants.{INFINITY}
use Rattle.domain_ranges.proofs.OtherMembers.{held_in, without_first, without_last, without_inner}
use Rattle.domain_ranges.proofs.Domain.interval_without.Goals as goal

pub of_span-requires-clause-high : goal.of_span-requires-clause-high
of_span-requires-clause-high c =
    let h = held_in c.self.inside.list.items c.args.self.now c.self.inside.ends c.self.invariant c.self.view_is c.args.n c.requires.interval c.requires.member c.requires.others in
    h.limit

pub of_span-requires-then-n-greatest-clause-high : goal.of_span-requires-then-n-greatest-clause-high
of_span-requires-then-n-greatest-clause-high c =
    let h = held_in c.self.inside.list.items c.args.self.now c.self.inside.ends c.self.invariant c.self.view_is c.args.n c.requires.interval c.requires.member c.requires.others in
    omega (arith, h.limit)

pub overflow_sub-n : goal.overflow_sub-n
overflow_sub-n c =
    let h = held_in c.self.inside.list.items c.args.self.now c.self.inside.ends c.self.invariant c.self.view_is c.args.n c.requires.interval c.requires.member c.requires.others in
    omega (arith, h.low)

pub overflow_add-n : goal.overflow_add-n
overflow_add-n c =
    let h = held_in c.self.inside.list.items c.args.self.now c.self.inside.ends c.self.invariant c.self.view_is c.args.n c.requires.interval c.requires.member c.requires.others in
    let l : c.args.n ≤ INFINITY = omega (arith, h.high, h.limit) in search rules

pub of_pair-requires-clause-first : goal.of_pair-requires-clause-first
of_pair-requires-clause-first c =
    let h = held_in c.self.inside.list.items c.args.self.now c.self.inside.ends c.self.invariant c.self.view_is c.args.n c.requires.interval c.requires.member c.requires.others in
    omega (arith, h.low)

pub of_pair-requires-clause-apart : goal.of_pair-requires-clause-apart
of_pair-requires-clause-apart c =
    let h = held_in c.self.inside.list.items c.args.self.now c.self.inside.ends c.self.invariant c.self.view_is c.args.n c.requires.interval c.requires.member c.requires.others in
    omega (arith, h.low)

pub of_pair-requires-clause-second : goal.of_pair-requires-clause-second
of_pair-requires-clause-second c =
    let h = held_in c.self.inside.list.items c.args.self.now c.self.inside.ends c.self.invariant c.self.view_is c.args.n c.requires.interval c.requires.member c.requires.others in
    omega (arith, h.high)

pub of_pair-requires-clause-high : goal.of_pair-requires-clause-high
of_pair-requires-clause-high c =
    let h = held_in c.self.inside.list.items c.args.self.now c.self.inside.ends c.self.invariant c.self.view_is c.args.n c.requires.interval c.requires.member c.requires.others in
    h.limit

pub returns-then-n-least : goal.returns-then-n-least
returns-then-n-least c =
    let h = held_in c.self.inside.list.items c.args.self.now c.self.inside.ends c.self.invariant c.self.view_is c.args.n c.requires.interval c.requires.member c.requires.others in
    c.of_span.ensures ∙ without_first c.args.self.now c.self.inside.ends.0 c.self.inside.ends.1 c.args.n h.low h.high h.limit h.is c.if-n-least.true h.more

pub returns-then-n-greatest : goal.returns-then-n-greatest
returns-then-n-greatest c =
    let h = held_in c.self.inside.list.items c.args.self.now c.self.inside.ends c.self.invariant c.self.view_is c.args.n c.requires.interval c.requires.member c.requires.others in
    c.of_span-then-n-greatest.ensures ∙ without_last c.args.self.now c.self.inside.ends.0 c.self.inside.ends.1 c.args.n h.low h.high h.limit h.is c.if-n-greatest.true h.more

pub returns-else-n-greatest : goal.returns-else-n-greatest
returns-else-n-greatest c =
    let h = held_in c.self.inside.list.items c.args.self.now c.self.inside.ends c.self.invariant c.self.view_is c.args.n c.requires.interval c.requires.member c.requires.others in
    c.of_pair.ensures ∙ without_inner c.args.self.now c.self.inside.ends.0 c.self.inside.ends.1 c.args.n h.low h.high h.limit h.is c.if-n-least.false c.if-n-greatest.false
