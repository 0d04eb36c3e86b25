use Rattle.std.proofs.Common.{subst, sym, ap, ◌∙◌, ◌<◌, ◌≤◌, ◌≡◌, to_z-of_z, filter, not, pos, arith, OnErr}
use Rattle.std.proofs.lemmas.Result.{IfOk-weaker}
use Rattle.fd_language.specs.Family.{universe}
use Rattle.fd_language.specs.declared.TheConstants.{INFINITY}
use Rattle.domain_ranges.specs.Spans.{interval_count}
use Rattle.domain_ranges.specs.Sets.{is_scaled}
use Rattle.domain_ranges.proofs.Members.{has_within}
use Rattle.domain_ranges.proofs.Images.{zero_set, negative_zero, negative_none, zero_zero, zero_none, one_same, scale_set, code_factor, spans_none}
use Rattle.domain_ranges.proofs.Integers.{code_negative, code_is, code_two, code_low, one_low}
use Rattle.domain_ranges.proofs.Outcomes.{on_err}
use Rattle.domain_ranges.proofs.Domain.scale.Goals as goal

pub returns-then-c-lt0-clause-set : goal.returns-then-c-lt0-clause-set
returns-then-c-lt0-clause-set c =
    let low = code_negative c.args.c _ (to_z-of_z c.ranges.c) c.if-c-lt0.true in
    c.zero_if.ensures ∙ zero_set INFINITY c.contains.result (is_scaled INFINITY c.args.self.now c.args.c)
    (c.contains.ensures ∙ has_within INFINITY c.spans-spans.result.now c.args.self.now 0 c.spans-spans.ensures.spans c.spans-spans.ensures.members
    ∙ negative_zero INFINITY c.args.self.now c.args.c low) (λ n g. negative_none INFINITY c.args.self.now c.args.c n low g)

pub returns-then-c-eq0-clause-set : goal.returns-then-c-eq0-clause-set
returns-then-c-eq0-clause-set c =
    let zero : c.args.c ≡ pos 0 = code_is c.args.c 0 c.ranges.c c.if-c-eq0.true in
    c.zero_if-then-c-eq0.ensures ∙ zero_set INFINITY (not c.is_empty.result) (is_scaled INFINITY c.args.self.now (pos 0))
    (spans_none INFINITY c.spans-spans.result.now c.args.self.now c.spans-spans.ensures.spans c.spans-spans.ensures.members c.is_empty.result c.is_empty.ensures
    ∙ zero_zero INFINITY c.args.self.now c.spans-spans.ensures.rising) (λ n g. zero_none INFINITY c.args.self.now n g)
    ∙ ap (λ z. filter (is_scaled INFINITY c.args.self.now z) (universe INFINITY)) (sym zero)

pub returns-then-c-eq1-clause-set : goal.returns-then-c-eq1-clause-set
returns-then-c-eq1-clause-set c =
    let one : c.args.c ≡ pos 1 = code_is c.args.c 1 c.ranges.c c.if-c-eq1.true in
    IfOk-weaker c.copy.result (λ copy. copy ≡ c.args.self.now) (λ copy. copy ≡ filter (is_scaled INFINITY c.args.self.now c.args.c) (universe INFINITY))
    (λ copy e. e ∙ one_same INFINITY c.args.self.now c.spans-spans.ensures.rising ∙ ap (λ z. filter (is_scaled INFINITY c.args.self.now z) (universe INFINITY)) (sym one))
    c.copy.ensures.set

pub returns-then-c-eq1-clause-no_memory : goal.returns-then-c-eq1-clause-no_memory
returns-then-c-eq1-clause-no_memory c =
    let one : c.args.c ≡ pos 1 = code_is c.args.c 1 c.ranges.c c.if-c-eq1.true in
    subst (λ ns. OnErr c.copy.result (2 < interval_count ns)) (one_same INFINITY c.args.self.now c.spans-spans.ensures.rising
    ∙ ap (λ z. filter (is_scaled INFINITY c.args.self.now z) (universe INFINITY)) (sym one)) c.copy.ensures.no_memory

pub returns-in_err-list-clause-no_memory : goal.returns-in_err-list-clause-no_memory
returns-in_err-list-clause-no_memory c =
    let two = code_two c.args.c _ (to_z-of_z c.ranges.c) c.if-c-lt0.false c.if-c-eq0.false c.if-c-eq1.false in
    let more : 2 ≤ c.factor.result = c.factor.ensures.several (code_low c.args.c _ (pos 2) (to_z-of_z c.ranges.c) two) in
    on_err c.from_residual.result _ (subst (λ ns. 2 < interval_count ns)
    (scale_set INFINITY c.factor.result c.spans-spans.result.now c.args.self.now c.args.c c.spans-spans.ensures.spans c.spans-spans.ensures.members
    (omega arith) (one_low c.args.c two) (code_factor INFINITY c.args.c _ c.factor.result (to_z-of_z c.ranges.c) c.factor.ensures.same))
    c.in_err-list.ensures.no_memory)

pub returns-clause-set : goal.returns-clause-set
returns-clause-set c =
    let two = code_two c.args.c _ (to_z-of_z c.ranges.c) c.if-c-lt0.false c.if-c-eq0.false c.if-c-eq1.false in
    let more : 2 ≤ c.factor.result = c.factor.ensures.several (code_low c.args.c _ (pos 2) (to_z-of_z c.ranges.c) two) in
    c.of_list.ensures ∙ c.in_ok-list.ensures.set ∙ scale_set INFINITY c.factor.result c.spans-spans.result.now c.args.self.now c.args.c
    c.spans-spans.ensures.spans c.spans-spans.ensures.members (omega arith) (one_low c.args.c two)
    (code_factor INFINITY c.args.c _ c.factor.result (to_z-of_z c.ranges.c) c.factor.ensures.same)
