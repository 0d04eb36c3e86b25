use Rattle.std.proofs.Common.{rules, SFits, to_z-of_z, ◌≡◌, ◌∙◌, ◌++◌, [], ◌∷◌, not, cond, sym, ap}
use mir.Syntax.{w64}
use Rattle.std.specs.List.{list_any}
use Rattle.std.specs.Ordering.{int_eq}
use Rattle.answer_check.specs.AnswerLines.{assigned}
use Rattle.answer_check.proofs.Lists.{not_false, not_true}
use Rattle.answer_check.proofs.CheckSteps.{none_true, different_step, different_stop, worths_step}
use Rattle.answer_check.proofs.checks.Scratch.are_different.Goals as goal

pub returns-then-not-branch : goal.returns-then-not-branch
returns-then-not-branch c =
    let f : SFits w64 c.worth.result = search rules in
    let a = assigned c.args.values.now in
    let ms = c.args.members.now in
    let i = c.loop-member.member-index in
    let w = c.worth.result in
    let added : c.in_ok-insert.field-0 ≡ not (list_any (int_eq w) c.loop-member.self.seen.keys) = simp to_z-of_z at c.in_ok-insert.ensures.added in
    let any = ap (list_any (int_eq w)) (sym c.loop-member.invariant.seen) ∙ not_false (list_any (int_eq w) c.loop-member.self.seen.keys) (sym added ∙ c.if-not-branch.true) in
    none_true (different_stop _ a ms i w c.loop-member-test.true c.worth.ensures any)

pub loop-member-preserved : goal.loop-member-preserved
loop-member-preserved c =
    let f : SFits w64 c.worth.result = search rules in
    let a = assigned c.args.values.now in
    let ms = c.args.members.now in
    let i = c.loop-member.member-index in
    let w = c.worth.result in
    let old = c.loop-member.self.seen.keys in
    let added : c.in_ok-insert.field-0 ≡ not (list_any (int_eq w) old) = simp to_z-of_z at c.in_ok-insert.ensures.added in
    let keys : c.insert.new.self.keys ≡ cond (list_any (int_eq w) old) old (old ++ w ∷ []) = simp to_z-of_z at c.in_ok-insert.ensures.keys in
    let none = not_true (list_any (int_eq w) old) (sym added ∙ c.if-not-branch.false) in
    record {
      seen = keys ∙ ap (λ b. cond b old (old ++ w ∷ [])) none ∙ ap (λ zs. zs ++ w ∷ []) c.loop-member.invariant.seen ∙ sym (worths_step _ a ms i w c.loop-member-test.true c.worth.ensures);
      different = different_step _ a ms i w c.loop-member-test.true c.worth.ensures c.loop-member.invariant.different (ap (list_any (int_eq w)) (sym c.loop-member.invariant.seen) ∙ none);
    }
