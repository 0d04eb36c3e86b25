use Rattle.std.proofs.Common.{◌≡◌, ◌∙◌, sym, ap, Some, Vec, Global, true}
use Rattle.std.specs.List.{list_all}
use Rattle.std.specs.Prelude.{option_map}
use Rattle.term_pool.specs.Terms.{term_of}
use Rattle.answer_check.specs.declared.goals.Constraint.TheVariants as constraint
use Rattle.answer_check.specs.declared.members.Member.{Member}
use Rattle.answer_check.specs.Members.{is_known, member_in, members_in}
use Rattle.answer_check.proofs.Constraints.{element_test, element_says, no_integers, unknown_element}
use Rattle.answer_check.proofs.MemberTerms.{known_listed}
use Rattle.answer_check.proofs.goals.element.Goals as goal
use Rattle.answer_check.proofs.goals.element.Goals.{in_default-2-via-in-Some-2+else-are_known, in_default-2-via-in_default-2}

pub returns-in-Some-2 : goal.returns-in-Some-2
returns-in-Some-2 c =
    let i = term_of c.args.pool.now c.args.index in
    let l = term_of c.args.pool.now c.args.list in
    let x = term_of c.args.pool.now c.args.element in
    let ms = c.in-Some-2.members.items in
    let e : member_in i ≡ Some c.in-Some.index = sym c.member_of.ensures ∙ c.in-Some.is in
    let f : member_in x ≡ Some c.in-Some-member_of.element = sym c.member_of-2.ensures ∙ c.in-Some-member_of.is in
    let g : Some ms ≡ members_in l = ap (option_map (λ (v : Vec Member Global). v.items)) (sym c.in-Some-2.is) ∙ c.in_ok-members.ensures in
    let known : list_all is_known ms ≡ true = ap (list_all is_known) (sym c.deref.ensures.value) ∙ sym c.are_known.ensures ∙ c.if-are_known.true in (
      element_test i l x c.in-Some.index c.in-Some-member_of.element ms e f g known,
      element_says i l x c.in-Some.index c.in-Some-member_of.element ms e f g known
          (constraint.Element c.in-Some.index c.in-Some-2.members c.in-Some-member_of.element) (λ a y. y) (λ a y. y) tt,
    )

pub returns-in_default-2 : goal.returns-in_default-2
returns-in_default-2 c =
    let pool = c.args.pool.now in
    let l = term_of pool c.args.list in
    let items = option_map (λ (v : Vec Member Global). v.items) in
    unknown_element (term_of pool c.args.index) l (term_of pool c.args.element) (elim c.in_default-2.branch [
      | in_default-2-via-in-Some-2+else-are_known w ↦ (
          let e : Some w.in-Some-2.members.items ≡ members_in l = ap items (sym w.in-Some-2.is) ∙ c.in_ok-members.ensures in
          known_listed l w.in-Some-2.members.items (sym e) ∙ ap (list_all is_known) (sym w.deref.ensures.value) ∙ sym w.are_known.ensures ∙ w.if-are_known.false
          )
      | in_default-2-via-in_default-2 w ↦ no_integers l (sym c.in_ok-members.ensures ∙ ap items w.in_default-2.is)
    ])
