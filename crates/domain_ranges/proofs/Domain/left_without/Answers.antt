use Rattle.std.proofs.Common.{rules, subst, sym, ap, ◌∙◌, ◌≡◌, ◌<◌, SFits, to_z, of_z, to_z-of_z, pos, ◌≤◌}
use mir.Syntax.{w64, w128}
use lib.IntN.{nat_abs}
use Rattle.fd_language.specs.declared.TheConstants.{INFINITY}
use Rattle.domain_ranges.specs.Spans.{interval_count}
use Rattle.domain_ranges.proofs.Outcomes.{on_err}
use Rattle.domain_ranges.proofs.ExcludedNumbers.{wider, member_number, keeps_all, excluded, fewer_left}
use Rattle.domain_ranges.proofs.Domain.left_without.Goals as goal

pub returns-then-not-contains-clause-narrowed : goal.returns-then-not-contains-clause-narrowed
returns-then-not-contains-clause-narrowed c =
    let a : SFits w64 c.args.n = c.ranges.n in
    let f : SFits w128 c.args.n = wider c.args.n a in
    let m = simp to_z-of_z at c.contains.ensures.member in
    keeps_all c.args.self.now c.args.n c.contains.ensures.rising (sym m ∙ c.if-not-contains.true)

pub overflow_cast-n-2 : goal.overflow_cast-n-2
overflow_cast-n-2 c =
    let a : SFits w64 c.args.n = c.ranges.n in
    let f : SFits w128 c.args.n = wider c.args.n a in
    let m = simp to_z-of_z at c.contains.ensures.member in
    let k = member_number c.args.self.now c.args.n c.contains.ensures.rising (sym m ∙ c.if-not-contains.false) in
    let v : to_z w64 (of_z w64 c.args.n) ≡ pos k.0 = to_z-of_z a ∙ k.1 in
    search rules

pub without-requires-clause-number : goal.without-requires-clause-number
without-requires-clause-number c =
    let a : SFits w64 c.args.n = c.ranges.n in
    let f : SFits w128 c.args.n = wider c.args.n a in
    let m = simp to_z-of_z at c.contains.ensures.member in
    let k = member_number c.args.self.now c.args.n c.contains.ensures.rising (sym m ∙ c.if-not-contains.false) in
    let v : to_z w64 (of_z w64 c.args.n) ≡ pos k.0 = to_z-of_z a ∙ k.1 in
    subst (λ z. nat_abs z ≤ INFINITY) (sym v) k.2

pub returns-in_err-list-clause-no_memory : goal.returns-in_err-list-clause-no_memory
returns-in_err-list-clause-no_memory c =
    let a : SFits w64 c.args.n = c.ranges.n in
    let f : SFits w128 c.args.n = wider c.args.n a in
    let m = simp to_z-of_z at c.contains.ensures.member in
    let k = member_number c.args.self.now c.args.n c.contains.ensures.rising (sym m ∙ c.if-not-contains.false) in
    let v : to_z w64 (of_z w64 c.args.n) ≡ pos k.0 = to_z-of_z a ∙ k.1 in
    let is : c.args.n ≡ pos (nat_abs (to_z w64 (of_z w64 c.args.n))) = k.1 ∙ ap (λ y. pos (nat_abs y)) (sym v) in
    let set = excluded c.spans.result.now c.args.self.now c.args.n (nat_abs (to_z w64 (of_z w64 c.args.n))) c.spans.ensures.spans c.spans.ensures.members is in
    on_err c.from_residual.result _ (subst (λ ns. 2 < interval_count ns) set c.in_err-list.ensures.no_memory)

pub returns-in-None-clause-narrowed : goal.returns-in-None-clause-narrowed
returns-in-None-clause-narrowed c =
    let a : SFits w64 c.args.n = c.ranges.n in
    let f : SFits w128 c.args.n = wider c.args.n a in
    let m = simp to_z-of_z at c.contains.ensures.member in
    let k = member_number c.args.self.now c.args.n c.contains.ensures.rising (sym m ∙ c.if-not-contains.false) in
    let v : to_z w64 (of_z w64 c.args.n) ≡ pos k.0 = to_z-of_z a ∙ k.1 in
    let is : c.args.n ≡ pos (nat_abs (to_z w64 (of_z w64 c.args.n))) = k.1 ∙ ap (λ y. pos (nat_abs y)) (sym v) in
    let set = excluded c.spans.result.now c.args.self.now c.args.n (nat_abs (to_z w64 (of_z w64 c.args.n))) c.spans.ensures.spans c.spans.ensures.members is in
    sym (c.of_list-left.ensures ∙ (c.in_ok-list.ensures.set ∙ set)) ∙ c.in-None.ensures.least

pub returns-in-Some-clause-narrowed : goal.returns-in-Some-clause-narrowed
returns-in-Some-clause-narrowed c =
    let a : SFits w64 c.args.n = c.ranges.n in
    let f : SFits w128 c.args.n = wider c.args.n a in
    let m = simp to_z-of_z at c.contains.ensures.member in
    let k = member_number c.args.self.now c.args.n c.contains.ensures.rising (sym m ∙ c.if-not-contains.false) in
    let v : to_z w64 (of_z w64 c.args.n) ≡ pos k.0 = to_z-of_z a ∙ k.1 in
    let is : c.args.n ≡ pos (nat_abs (to_z w64 (of_z w64 c.args.n))) = k.1 ∙ ap (λ y. pos (nat_abs y)) (sym v) in
    let set = excluded c.spans.result.now c.args.self.now c.args.n (nat_abs (to_z w64 (of_z w64 c.args.n))) c.spans.ensures.spans c.spans.ensures.members is in
    let made = c.of_list-left.ensures ∙ (c.in_ok-list.ensures.set ∙ set) in
    (made, c.in-Some.ensures.some, fewer_left c.args.self.now _ c.args.n k.0 made k.1 k.2 k.3)
