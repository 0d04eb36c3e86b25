use Rattle.std.proofs.Common.{rules, SFits, to_z-of_z, ◌≡◌, ◌∙◌, ap, ◌<◌, ◌≤◌, ◌-◌, length, get_or}
use mir.Syntax.{w64}
use Rattle.std.specs.Ordering.{int_eq}
use Rattle.answer_check.specs.AnswerLines.{assigned}
use Rattle.answer_check.specs.Members.{worth_of, worths_of}
use Rattle.answer_check.proofs.CheckSteps.{none_true, none_at_0, none_behind, element_there}
use Rattle.answer_check.proofs.checks.is_element.Goals as goal

pub returns-then-index-eq0 : goal.returns-then-index-eq0
returns-then-index-eq0 c = none_true (none_at_0 (worths_of (assigned c.args.values.now) c.args.members.now) c.args.index c.args.integer c.if-index-eq0.true)

pub returns-in-Some : goal.returns-in-Some
returns-in-Some c =
    let z : SFits w64 c.args.integer = c.ranges.integer in
    let f : SFits w64 c.worth.result = search rules in
    let l : c.args.index - 1 < length c.args.members.now = search rules in
    let is : c.in-Some.member.now ≡ get_or c.args.members.now (c.args.index - 1) c.in-Some.member.now = search rules in
    let w : c.worth.result ≡ worth_of (assigned c.args.values.now) (get_or c.args.members.now (c.args.index - 1) c.in-Some.member.now) = c.worth.ensures
    ∙ ap (worth_of (assigned c.args.values.now)) is in
    let same : c.is_same.result ≡ int_eq c.args.integer c.worth.result = simp to_z-of_z at c.is_same.ensures in
    element_there c.in-Some.member.now (assigned c.args.values.now) c.args.members.now c.args.index c.args.integer c.worth.result c.is_same.result c.if-index-eq0.false l w same

pub returns-in-None : goal.returns-in-None
returns-in-None c =
    let l : length c.args.members.now ≤ c.args.index - 1 = search rules in
    none_true (none_behind (assigned c.args.values.now) c.args.members.now c.args.index c.args.integer l c.if-index-eq0.false)
