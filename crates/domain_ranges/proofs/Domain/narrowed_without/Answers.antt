use Rattle.std.proofs.Common.{◌≡◌, ◌∙◌, ap, sym, SFits, to_z-of_z, filter}
use mir.Syntax.{w64}
use Rattle.fd_language.specs.Family.{has}
use Rattle.fd_language.specs.Range.{is_none_left}
use Rattle.fd_language.specs.declared.TheConstants.{INFINITY}
use Rattle.fd_language.proofs.Lemmas.{has_high}
use Rattle.domain_ranges.specs.Narrowing.{all_but}
use Rattle.domain_ranges.proofs.ExcludedNumbers.{keeps_all, fewer_left}
use Rattle.domain_ranges.proofs.OtherMembers.{none_but, some_left}
use Rattle.domain_ranges.proofs.Domain.narrowed_without.Goals as goal

pub returns-in-Outside-clause-narrowed : goal.returns-in-Outside-clause-narrowed
returns-in-Outside-clause-narrowed c =
    let a : SFits w64 c.args.n = c.ranges.n in
    let m = simp to_z-of_z at c.in-Outside.ensures.membership in
    keeps_all c.args.self.now c.args.n c.membership.ensures.rising m

pub returns-in-Alone-clause-narrowed : goal.returns-in-Alone-clause-narrowed
returns-in-Alone-clause-narrowed c =
    let a : SFits w64 c.args.n = c.ranges.n in
    let m = simp to_z-of_z at c.in-Alone.ensures.membership in
    none_but c.args.self.now c.args.n m.0 m.1 m.2

pub returns-in-Among-clause-narrowed : goal.returns-in-Among-clause-narrowed
returns-in-Among-clause-narrowed c =
    let a : SFits w64 c.args.n = c.ranges.n in
    let m = simp to_z-of_z at c.in-Among.ensures.membership in
    let rising = c.membership.ensures.rising in
    let made : c.interval_without.result ≡ filter (has (all_but c.args.n)) c.args.self.now = c.interval_without.ensures ∙ ap (λ z. filter (has (all_but z)) c.args.self.now) (sym m.0) in (
      made,
      ap is_none_left c.interval_without.ensures ∙ some_left c.args.self.now c.in-Among.member c.in-Among.member rising m.1 m.2,
      fewer_left c.args.self.now c.interval_without.result c.args.n c.in-Among.member made m.0 (has_high 0 INFINITY c.args.self.now c.in-Among.member rising m.1) m.1,
    )

pub returns-then-not-is_interval-clause-narrowed : goal.returns-then-not-is_interval-clause-narrowed
returns-then-not-is_interval-clause-narrowed c =
    let a : SFits w64 c.args.n = c.ranges.n in
    simp to_z-of_z at c.left_without.ensures.narrowed

pub returns-then-not-is_interval-clause-no_memory : goal.returns-then-not-is_interval-clause-no_memory
returns-then-not-is_interval-clause-no_memory c =
    let a : SFits w64 c.args.n = c.ranges.n in
    simp to_z-of_z at c.left_without.ensures.no_memory
