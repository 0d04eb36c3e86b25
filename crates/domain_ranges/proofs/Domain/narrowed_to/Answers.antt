use Rattle.std.proofs.Common.{rules, subst, sym, ◌∙◌, SFits, to_z-of_z, [], ◌∷◌, ◌<◌}
use mir.Syntax.{w128}
use Rattle.fd_language.specs.declared.TheConstants.{INFINITY}
use Rattle.domain_ranges.specs.Narrowing.{between}
use Rattle.domain_ranges.proofs.Members.{interval_some, meet_is}
use Rattle.domain_ranges.specs.Spans.{IsSpans, meet}
use Rattle.domain_ranges.proofs.Spans.{spans_at}
use Rattle.domain_ranges.proofs.Intersection.{one_set}
use Rattle.std.proofs.Common.{get_or, arith, refl}
use Rattle.fd_language.specs.Family.{IsSubset}
use Rattle.domain_ranges.proofs.Inclusion.{left_one, met_spans, left_of, none_between}
use Rattle.domain_ranges.proofs.Ends.{HasOther}
use Rattle.domain_ranges.specs.Spans.{interval_count}
use Rattle.domain_ranges.proofs.Outcomes.{on_err}
use Rattle.domain_ranges.proofs.Domain.narrowed_to.Goals as goal

pub returns-in_default-clause-narrowed : goal.returns-in_default-clause-narrowed
returns-in_default-clause-narrowed c =
    let f : SFits w128 c.args.lo = search rules in
    let g : SFits w128 c.args.hi = search rules in
    none_between c.args.self.now c.args.lo c.args.hi (λ n l. simp to_z-of_z at (c.in_default.ensures.none n l))

pub returns-then-not-is_cut-clause-narrowed : goal.returns-then-not-is_cut-clause-narrowed
returns-then-not-is_cut-clause-narrowed c =
    let f : SFits w128 c.args.lo = search rules in
    let g : SFits w128 c.args.hi = search rules in
    subst (IsSubset c.args.self.now)
    (interval_some INFINITY c.in-Some.bounds c.args.lo c.args.hi c.in-Some.ensures.order c.in-Some.ensures.high (λ n l. simp to_z-of_z at (c.in-Some.ensures.same n l)))
    (c.is_cut.ensures.no c.if-not-is_cut.true)

pub returns-in-None-clause-narrowed : goal.returns-in-None-clause-narrowed
returns-in-None-clause-narrowed c =
    let f : SFits w128 c.args.lo = search rules in
    let g : SFits w128 c.args.hi = search rules in
    sym (c.of_list-left.ensures ∙ c.in_ok-list.ensures.set ∙ meet_is INFINITY c.spans-spans.result.now (c.in-Some.bounds ∷ []) c.args.self.now
    (between c.args.lo c.args.hi) c.spans-spans.ensures.spans (search rules) c.spans-spans.ensures.members
    (interval_some INFINITY c.in-Some.bounds c.args.lo c.args.hi c.in-Some.ensures.order c.in-Some.ensures.high (λ n l. simp to_z-of_z at (c.in-Some.ensures.same n l)))) ∙ c.in-None.ensures.least

pub returns-in-Some-min-clause-narrowed : goal.returns-in-Some-min-clause-narrowed
returns-in-Some-min-clause-narrowed c =
    let f : SFits w128 c.args.lo = search rules in
    let g : SFits w128 c.args.hi = search rules in
    let same = interval_some INFINITY c.in-Some.bounds c.args.lo c.args.hi c.in-Some.ensures.order c.in-Some.ensures.high (λ n l. simp to_z-of_z at (c.in-Some.ensures.same n l)) in
    let set = c.of_list-left.ensures ∙ c.in_ok-list.ensures.set ∙ meet_is INFINITY c.spans-spans.result.now (c.in-Some.bounds ∷ []) c.args.self.now
    (between c.args.lo c.args.hi) c.spans-spans.ensures.spans (search rules) c.spans-spans.ensures.members same in
    (set, c.in-Some-min.ensures.some, left_of c.args.self.now (between c.args.lo c.args.hi) _ set (subst (HasOther c.args.self.now) same (c.is_cut.ensures.yes c.if-not-is_cut.false)))

pub returns-in_err-list-clause-no_memory : goal.returns-in_err-list-clause-no_memory
returns-in_err-list-clause-no_memory c =
    let f : SFits w128 c.args.lo = search rules in
    let g : SFits w128 c.args.hi = search rules in
    on_err c.from_residual.result _ (subst (λ ns. 2 < interval_count ns)
    (meet_is INFINITY c.spans-spans.result.now (c.in-Some.bounds ∷ []) c.args.self.now (between c.args.lo c.args.hi) c.spans-spans.ensures.spans
    (search rules) c.spans-spans.ensures.members
    (interval_some INFINITY c.in-Some.bounds c.args.lo c.args.hi c.in-Some.ensures.order c.in-Some.ensures.high
    (λ n l. simp to_z-of_z at (c.in-Some.ensures.same n l)))) c.in_err-list.ensures.no_memory)

pub returns-then-spans-eq1-clause-narrowed : goal.returns-then-spans-eq1-clause-narrowed
returns-then-spans-eq1-clause-narrowed c =
    let f : SFits w128 c.args.lo = search rules in
    let g : SFits w128 c.args.hi = search rules in
    let ss = c.spans-spans.result.now in
    let bounds : IsSpans 0 INFINITY (c.in-Some.bounds ∷ []) = search rules in
    let same = interval_some INFINITY c.in-Some.bounds c.args.lo c.args.hi c.in-Some.ensures.order c.in-Some.ensures.high (λ n l. simp to_z-of_z at (c.in-Some.ensures.same n l)) in
    let x = get_or ss 0 (0, 0) in
    let set = one_set INFINITY ss c.in-Some.bounds c.spans-spans.ensures.spans bounds (sym c.if-spans-eq1.true) (meet x c.in-Some.bounds) refl
    ∙ meet_is INFINITY ss (c.in-Some.bounds ∷ []) c.args.self.now (between c.args.lo c.args.hi) c.spans-spans.ensures.spans bounds
    c.spans-spans.ensures.members same in
    left_one c.args.self.now (between c.args.lo c.args.hi) (meet x c.in-Some.bounds) c.narrow_one.result set
    (met_spans x c.in-Some.bounds (spans_at 0 INFINITY 0 ss (0, 0) c.spans-spans.ensures.spans (omega arith)).1)
    (subst (HasOther c.args.self.now) same (c.is_cut.ensures.yes c.if-not-is_cut.false)) c.narrow_one.ensures

pub of_list-left-requires : goal.of_list-left-requires
of_list-left-requires c = c.in_ok-list.ensures.spans

pub meet_all-requires-clause-first : goal.meet_all-requires-clause-first
meet_all-requires-clause-first c = c.spans-spans.ensures.spans

pub meet_all-requires-clause-second : goal.meet_all-requires-clause-second
meet_all-requires-clause-second c = (omega arith, c.in-Some.ensures.order, c.in-Some.ensures.high, tt)

pub bounds-spans-0 : goal.bounds-spans-0
bounds-spans-0 c = let one = c.if-spans-eq1.true in omega arith
