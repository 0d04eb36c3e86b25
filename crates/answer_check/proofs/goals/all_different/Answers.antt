use Rattle.std.proofs.Common.{◌≡◌, ◌∙◌, sym, ap, Some, None, Vec, Global}
use Rattle.std.specs.Prelude.{option_map}
use Rattle.term_pool.specs.Terms.{term_of}
use Rattle.answer_check.specs.declared.goals.Constraint.TheVariants as constraint
use Rattle.answer_check.specs.declared.members.Member.{Member}
use Rattle.answer_check.specs.Members.{members_in}
use Rattle.answer_check.proofs.Constraints.{different_says}
use Rattle.answer_check.proofs.MemberTerms.{members_listed, members_unlisted}
use Rattle.answer_check.proofs.goals.all_different.Goals as goal

pub returns-in-Some : goal.returns-in-Some
returns-in-Some c =
    let l = term_of c.args.pool.now c.args.list in
    let ms = c.in-Some.members.items in
    let e : Some ms ≡ members_in l = ap (option_map (λ (v : Vec Member Global). v.items)) (sym c.in-Some.is) ∙ c.in_ok-members.ensures in
    (members_listed l ms (sym e), different_says l ms (constraint.AllDifferent c.in-Some.members) e (λ a x. x) (λ a x. x) tt)

pub returns-in-None : goal.returns-in-None
returns-in-None c =
    let l = term_of c.args.pool.now c.args.list in
    let e : None ≡ members_in l = ap (option_map (λ (v : Vec Member Global). v.items)) (sym c.in-None.is) ∙ c.in_ok-members.ensures in
    members_unlisted l (sym e)
