use Rattle.std.proofs.Common.{◌≡◌, ◌-◌, length, drop, Some, None, refl, ap, ◌∙◌, arith}
use Rattle.code_control.proofs.RetriedChoices.{point_pair}
use Rattle.code_control.proofs.retries.keep_point.Goals as goal

pub drop_marks-requires : goal.drop_marks-requires
drop_marks-requires g c = record { sound = c.requires.safe.sound; some = point_pair c.args.code.now c.args.branch.now c.args.other c.args.areas.now c.requires.safe c.requires.some }

pub returns-in-Some : goal.returns-in-Some
returns-in-Some g c = record { at = Some c.in-Some.later; out = c.in-Some.ensures.out; kept = (c.in-Some.ensures.later, c.in-Some.ensures.may, refl, c.set_point_place.ensures) }

pub returns-in-None : goal.returns-in-None
returns-in-None g c =
    let n = c.points.ensures in
    let some = c.requires.some in
    let one : length c.args.areas.now.points - (c.points.result - 1) ≡ 1 = omega (arith, n, some) in
    record { at = None; out = c.in-None.ensures.out; kept = (c.drop_marks.ensures.dropped, c.drop_points.ensures ∙ ap (λ k. record c.args.areas.now { points = drop k c.args.areas.now.points }) one) }
