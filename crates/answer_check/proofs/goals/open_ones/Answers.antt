use Rattle.std.proofs.Common.{rules, ◌≡◌, ◌++◌, [], ◌∷◌, get_or}
use Rattle.answer_check.specs.Members.{open_in}
use Rattle.answer_check.specs.declared.members.Member.{Member}
use Rattle.answer_check.specs.declared.members.Member.TheVariants.{Open}
use Rattle.answer_check.proofs.CheckSteps.{open_step}
use Rattle.answer_check.proofs.goals.open_ones.Goals as goal
use Rattle.answer_check.proofs.goals.open_ones.Goals.{in-Open+in_ok-push, in_default}

pub loop-member-preserved : goal.loop-member-preserved
loop-member-preserved c =
    let ms = c.args.members.now in
    let i = c.loop-member.member-index in
    let d : Member = Open 0 in
    let more : c.match-member.open.items ≡ c.loop-member.open.items ++ open_in (get_or ms i d ∷ []) = elim c.match-member.branch [
      | in-Open+in_ok-push w ↦ search rules
      | in_default w ↦ search rules
    ] in
    open_step d ms i c.loop-member.open.items c.match-member.open.items c.loop-member-test.true c.loop-member.invariant more
