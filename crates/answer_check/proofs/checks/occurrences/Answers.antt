use Rattle.std.proofs.Common.{rules, SFits, to_z-of_z, ◌≡◌, ◌≤◌, ◌+◌, cond, sym, ap, ◌∙◌, arith}
use mir.Syntax.{w64}
use Rattle.std.specs.Ordering.{int_eq}
use Rattle.answer_check.specs.AnswerLines.{assigned}
use Rattle.answer_check.proofs.CheckSteps.{occurrences_step}
use Rattle.answer_check.proofs.checks.occurrences.Goals as goal
use Rattle.answer_check.proofs.checks.occurrences.Goals.{then-is_same, else-is_same}

pub loop-member-preserved : goal.loop-member-preserved
loop-member-preserved c =
    let z : SFits w64 c.args.integer = c.ranges.integer in
    let f : SFits w64 c.worth.result = search rules in
    let same : c.is_same.result ≡ int_eq c.worth.result c.args.integer = simp to_z-of_z at c.is_same.ensures in
    let count : c.if-is_same.count ≡ cond c.is_same.result (c.loop-member.count + 1) c.loop-member.count = elim c.if-is_same.branch [
      | then-is_same w ↦ w.count-is ∙ ap (λ b. cond b (c.loop-member.count + 1) c.loop-member.count) (sym w.if-is_same.true)
      | else-is_same w ↦ w.count-is ∙ ap (λ b. cond b (c.loop-member.count + 1) c.loop-member.count) (sym w.if-is_same.false)
    ] in
    let few : c.if-is_same.count ≤ c.loop-member.member-index + 1 = elim c.if-is_same.branch [
      | then-is_same w ↦ (let k = w.count-is in let l = c.loop-member.invariant.few in omega (arith, k, l))
      | else-is_same w ↦ (let k = w.count-is in let l = c.loop-member.invariant.few in omega (arith, k, l))
    ] in
    let counted = simp to_z-of_z at c.loop-member.invariant.counted in
    record {
      few = few;
      counted = simp to_z-of_z (occurrences_step _ (assigned c.args.values.now) c.args.members.now c.loop-member.member-index c.worth.result
          c.loop-member-test.true c.worth.ensures c.args.integer c.loop-member.count c.if-is_same.count c.is_same.result same counted count);
    }
