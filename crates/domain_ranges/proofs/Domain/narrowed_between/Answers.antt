use Rattle.std.proofs.Common.{◌≡◌, ◌<◌, ◌∙◌, sym, ap, subst, length, filter, SFits, to_z-of_z}
use mir.Syntax.{w64, w128}
use Rattle.fd_language.specs.Family.{has}
use Rattle.fd_language.specs.Range.{is_none_left}
use Rattle.domain_ranges.specs.Narrowing.{between}
use Rattle.domain_ranges.proofs.ExcludedNumbers.{wider}
use Rattle.domain_ranges.proofs.OtherMembers.{interval_some, span_some}
use Rattle.domain_ranges.proofs.Domain.narrowed_between.Goals as goal

pub returns-then-not-is_interval-clause-narrowed : goal.returns-then-not-is_interval-clause-narrowed
returns-then-not-is_interval-clause-narrowed c =
    let a : SFits w64 c.args.lo = c.ranges.lo in
    let b : SFits w64 c.args.hi = c.ranges.hi in
    let f : SFits w128 c.args.lo = wider c.args.lo a in
    let g : SFits w128 c.args.hi = wider c.args.hi b in
    simp to_z-of_z at c.narrowed_to.ensures.narrowed

pub returns-then-not-is_interval-clause-no_memory : goal.returns-then-not-is_interval-clause-no_memory
returns-then-not-is_interval-clause-no_memory c =
    let a : SFits w64 c.args.lo = c.ranges.lo in
    let b : SFits w64 c.args.hi = c.ranges.hi in
    let f : SFits w128 c.args.lo = wider c.args.lo a in
    let g : SFits w128 c.args.hi = wider c.args.hi b in
    simp to_z-of_z at c.narrowed_to.ensures.no_memory

pub part_between-requires : goal.part_between-requires
part_between-requires c = interval_some c.args.self.now (c.is_interval.ensures.0 c.if-not-is_interval.false)

pub returns-in-Nothing-clause-narrowed : goal.returns-in-Nothing-clause-narrowed
returns-in-Nothing-clause-narrowed c =
    let a : SFits w64 c.args.lo = c.ranges.lo in
    let b : SFits w64 c.args.hi = c.ranges.hi in
    simp to_z-of_z at c.in-Nothing.ensures

pub returns-in-Within-clause-narrowed : goal.returns-in-Within-clause-narrowed
returns-in-Within-clause-narrowed c =
    let a : SFits w64 c.args.lo = c.ranges.lo in
    let b : SFits w64 c.args.hi = c.ranges.hi in
    let p = simp to_z-of_z at c.in-Within.ensures in
    let set : c.of_span-left.result ≡ filter (has (between c.args.lo c.args.hi)) c.args.self.now = c.of_span-left.ensures ∙ sym (p.3 (c.is_interval.ensures.0 c.if-not-is_interval.false)) in (
      set,
      ap is_none_left c.of_span-left.ensures ∙ span_some (c.in-Within.low, c.in-Within.high) p.0 p.1,
      subst (λ ns. length ns < length c.args.self.now) (sym set) p.2,
    )
