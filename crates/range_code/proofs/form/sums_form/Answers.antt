use Rattle.std.proofs.Common.{◌≡◌, pos, subst, length, arith}
use Rattle.fd_language.specs.declared.range_node.RangeNode.TheVariants as node
use Rattle.range_code.specs.Forms.{IsBound}
use Rattle.range_code.proofs.Forms.{only_one, only_two, interval_form, complement_form, exception_form}
use Rattle.range_code.proofs.form.sums_form.Goals as goal

pub returns-then-is_complement-clause-form : goal.returns-then-is_complement-clause-form
returns-then-is_complement-clause-form c r e =
    let b = rw (c.in-Some.is) at c.in_ok-low.ensures.bound in
    let w = rw (c.in-Some.is) at c.in_ok-low.ensures.width in
    let two : length c.in-Some.rest.now ≡ 2 = omega arith in
    exception_form c.args.nodes.now r e _ _ c.in-Some.low (subst (IsBound c.args.nodes.now c.in-Some.low) (only_two c.in-Some.rest.now (node.Int (pos 0)) two) b)
    (c.is_single.ensures c.if-is_single.true) (c.is_complement.ensures c.if-is_complement.true) w

pub returns-in-len1-clause-form : goal.returns-in-len1-clause-form
returns-in-len1-clause-form c r e =
    let b = rw (c.in-Some.is) at c.in_ok-low.ensures.bound in
    let w = rw (c.in-Some.is) at c.in_ok-low.ensures.width in
    let d = rw (c.in-Some-2.is) at c.in_ok-high.ensures.bound in
    let v = rw (c.in-Some-2.is) at c.in_ok-high.ensures.width in
    let one : length c.in-Some-2.rest.now ≡ 1 = omega arith in
    c.between_form.ensures.form r (interval_form c.args.nodes.now r e c.in-Some.rest.now _ c.in-Some.low c.in-Some-2.high b
    (subst (IsBound c.in-Some.rest.now c.in-Some-2.high) (only_one c.in-Some-2.rest.now (node.Int (pos 0)) one) d)
    (c.is_span.ensures c.if-is_span.true) w v)

pub returns-in-len2-rest-clause-form : goal.returns-in-len2-rest-clause-form
returns-in-len2-rest-clause-form c r e =
    let b = rw (c.in-Some.is) at c.in_ok-low.ensures.bound in
    let w = rw (c.in-Some.is) at c.in_ok-low.ensures.width in
    let d = rw (c.in-Some-2.is) at c.in_ok-high.ensures.bound in
    let v = rw (c.in-Some-2.is) at c.in_ok-high.ensures.width in
    let two : length c.in-Some-2.rest.now ≡ 2 = omega arith in
    c.outside_form.ensures.form r (complement_form c.args.nodes.now r e c.in-Some.rest.now _ _ c.in-Some.low c.in-Some-2.high b
    (subst (IsBound c.in-Some.rest.now c.in-Some-2.high) (only_two c.in-Some-2.rest.now (node.Int (pos 0)) two) d)
    (c.is_span-then-rest-lt3-2.ensures c.if-is_span-2.true) (c.is_complement-then-is_span-2.ensures c.if-is_complement-2.true) w v)

pub returns-in-len2-rest-clause-shifted : goal.returns-in-len2-rest-clause-shifted
returns-in-len2-rest-clause-shifted c h = absurd (c.outside_form.ensures.unshifted h)
