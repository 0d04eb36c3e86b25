use Rattle.std.proofs.Common.{rules, ◌≡◌, ◌∙◌, ap, sym, subst, inl, inr, true, pos, SFits, to_z, of_z, to_z-of_z}
use lib.Signed.{lt_z}
use lib.IntN.{nat_abs}
use mir.Syntax.{w64}
use Rattle.fd_language.specs.declared.TheConstants.{INFINITY}
use Rattle.fd_language.specs.Family.{has}
use Rattle.fd_language.specs.Range.{least as least_of, greatest as greatest_of}
use Rattle.domain_ranges.proofs.Members.{has_within, member_of}
use Rattle.domain_ranges.proofs.ExcludedNumbers.{no_member}
use Rattle.domain_ranges.proofs.Integers.{wide_number, held_between}
use Rattle.domain_ranges.proofs.OtherMembers.{rises, alone, several, interval_has}
use Rattle.domain_ranges.proofs.Domain.membership.Goals.{then-n-least-via-then-n-least, then-n-least-via-else-n-least+then-n-greatest}
use Rattle.domain_ranges.proofs.Domain.membership.Goals.{else-not-is_interval-via-then-not-is_interval+else-not-contains}
use Rattle.domain_ranges.proofs.Domain.membership.Goals.{else-not-is_interval-via-else-not-is_interval}
use Rattle.domain_ranges.proofs.Domain.membership.Goals as goal

pub returns-then-n-least-clause-membership : goal.returns-then-n-least-clause-membership
returns-then-n-least-clause-membership c =
    let a : SFits w64 c.args.n = c.ranges.n in
    let e = wide_number c.self.inside.ends.0 (search rules) in
    let f = wide_number c.self.inside.ends.1 (search rules) in
    let least = c.self.invariant.least ∙ ap least_of c.self.view_is in
    let greatest = c.self.invariant.greatest ∙ ap greatest_of c.self.view_is in
    no_member c.args.self.now c.args.n (rises c.self.inside.list.items c.args.self.now c.self.inside.ends c.self.invariant c.self.view_is) (elim c.then-n-least.branch [
      | then-n-least-via-then-n-least w ↦ let h = simp (to_z-of_z, e) at w.if-n-least.true in inl (subst (λ k. lt_z c.args.n (pos k) ≡ true) least h)
      | then-n-least-via-else-n-least+then-n-greatest w ↦ let h = simp (to_z-of_z, f) at w.if-n-greatest.true in inr (subst (λ k. lt_z (pos k) c.args.n ≡ true) greatest h)
    ])

pub returns-then-n-least-clause-rising : goal.returns-then-n-least-clause-rising
returns-then-n-least-clause-rising c =
    rises c.self.inside.list.items c.args.self.now c.self.inside.ends c.self.invariant c.self.view_is

pub returns-then-least-greatest-clause-rising : goal.returns-then-least-greatest-clause-rising
returns-then-least-greatest-clause-rising c =
    rises c.self.inside.list.items c.args.self.now c.self.inside.ends c.self.invariant c.self.view_is

pub returns-else-least-greatest-clause-rising : goal.returns-else-least-greatest-clause-rising
returns-else-least-greatest-clause-rising c =
    rises c.self.inside.list.items c.args.self.now c.self.inside.ends c.self.invariant c.self.view_is

pub returns-then-not-contains-clause-membership : goal.returns-then-not-contains-clause-membership
returns-then-not-contains-clause-membership c =
    let a : SFits w64 c.args.n = c.ranges.n in
    let e = wide_number c.self.inside.ends.0 (search rules) in
    let f = wide_number c.self.inside.ends.1 (search rules) in
    let held = held_between c.args.n c.self.inside.ends.0 c.self.inside.ends.1 a (simp (to_z-of_z, e) at c.if-n-least.false) (simp (to_z-of_z, f) at c.if-n-greatest.false) in
    sym (member_of INFINITY c.spans.result.now c.args.self.now c.args.n (nat_abs (to_z w64 (of_z w64 c.args.n))) c.contains.result c.spans.ensures.spans
    c.spans.ensures.members c.contains.ensures held.0) ∙ c.if-not-contains.true

pub returns-then-least-greatest-clause-membership : goal.returns-then-least-greatest-clause-membership
returns-then-least-greatest-clause-membership c =
    let a : SFits w64 c.args.n = c.ranges.n in
    let e = wide_number c.self.inside.ends.0 (search rules) in
    let f = wide_number c.self.inside.ends.1 (search rules) in
    let held = held_between c.args.n c.self.inside.ends.0 c.self.inside.ends.1 a (simp (to_z-of_z, e) at c.if-n-least.false) (simp (to_z-of_z, f) at c.if-n-greatest.false) in
    let there : has c.args.self.now (nat_abs (to_z w64 (of_z w64 c.args.n))) ≡ true = elim c.else-not-is_interval.branch [
      | else-not-is_interval-via-then-not-is_interval+else-not-contains w ↦ sym
          (has_within INFINITY w.spans.result.now c.args.self.now (nat_abs (to_z w64 (of_z w64 c.args.n))) w.spans.ensures.spans w.spans.ensures.members)
          ∙ (sym w.contains.ensures ∙ w.if-not-contains.false)
      | else-not-is_interval-via-else-not-is_interval w ↦ interval_has c.self.inside.list.items c.args.self.now c.self.inside.ends c.self.invariant
          c.self.view_is (nat_abs (to_z w64 (of_z w64 c.args.n))) (c.is_interval.ensures.0 w.if-not-is_interval.false) held.1 held.2
    ] in (
      nat_abs (to_z w64 (of_z w64 c.args.n)),
      held.0,
      alone c.self.inside.list.items c.args.self.now c.self.inside.ends c.self.invariant c.self.view_is
          (nat_abs (to_z w64 (of_z w64 c.args.n))) there c.if-least-greatest.true,
    )

pub returns-else-least-greatest-clause-membership : goal.returns-else-least-greatest-clause-membership
returns-else-least-greatest-clause-membership c =
    let a : SFits w64 c.args.n = c.ranges.n in
    let e = wide_number c.self.inside.ends.0 (search rules) in
    let f = wide_number c.self.inside.ends.1 (search rules) in
    let held = held_between c.args.n c.self.inside.ends.0 c.self.inside.ends.1 a (simp (to_z-of_z, e) at c.if-n-least.false) (simp (to_z-of_z, f) at c.if-n-greatest.false) in
    let there : has c.args.self.now (nat_abs (to_z w64 (of_z w64 c.args.n))) ≡ true = elim c.else-not-is_interval.branch [
      | else-not-is_interval-via-then-not-is_interval+else-not-contains w ↦ sym
          (has_within INFINITY w.spans.result.now c.args.self.now (nat_abs (to_z w64 (of_z w64 c.args.n))) w.spans.ensures.spans w.spans.ensures.members)
          ∙ (sym w.contains.ensures ∙ w.if-not-contains.false)
      | else-not-is_interval-via-else-not-is_interval w ↦ interval_has c.self.inside.list.items c.args.self.now c.self.inside.ends c.self.invariant
          c.self.view_is (nat_abs (to_z w64 (of_z w64 c.args.n))) (c.is_interval.ensures.0 w.if-not-is_interval.false) held.1 held.2
    ] in
    (held.0, there, several c.self.inside.list.items c.args.self.now c.self.inside.ends c.self.invariant c.self.view_is (nat_abs (to_z w64 (of_z w64 c.args.n))) there c.if-least-greatest.false)
