use Rattle.std.proofs.Common.{◌≡◌, ◌∙◌, sym, ap, Some, None, Vec, Global}
use Rattle.std.specs.Prelude.{option_map}
use Rattle.term_pool.specs.Terms.{term_of}
use Rattle.answer_check.specs.declared.goals.Constraint.TheVariants as constraint
use Rattle.answer_check.specs.declared.members.Member.{Member}
use Rattle.answer_check.specs.Members.{known_in, members_in}
use Rattle.answer_check.proofs.Constraints.{no_list, atmost_test, atmost_says}
use Rattle.answer_check.proofs.goals.atmost.Goals as goal

pub returns-in-Some-2 : goal.returns-in-Some-2
returns-in-Some-2 c =
    let n = term_of c.args.pool.now c.args.most in
    let l = term_of c.args.pool.now c.args.list in
    let v = term_of c.args.pool.now c.args.value in
    let ms = c.in-Some-2.members.items in
    let e : known_in n ≡ Some c.in-Some.most = sym c.integer_of.ensures ∙ c.in-Some.is in
    let f : known_in v ≡ Some c.in-Some-integer_of.value = sym c.integer_of-2.ensures ∙ c.in-Some-integer_of.is in
    let g : Some ms ≡ members_in l = ap (option_map (λ (w : Vec Member Global). w.items)) (sym c.in-Some-2.is) ∙ c.in_ok-members.ensures in (
      atmost_test n l v c.in-Some.most c.in-Some-integer_of.value ms e f g,
      atmost_says n l v c.in-Some.most c.in-Some-integer_of.value ms e f g (constraint.Atmost c.in-Some.most c.in-Some-2.members c.in-Some-integer_of.value)
          (λ a y. y) (λ a y. y) tt,
    )

pub returns-in-None : goal.returns-in-None
returns-in-None c =
    let l = term_of c.args.pool.now c.args.list in
    let g : None ≡ members_in l = ap (option_map (λ (w : Vec Member Global). w.items)) (sym c.in-None.is) ∙ c.in_ok-members.ensures in
    no_list (term_of c.args.pool.now c.args.most) l (term_of c.args.pool.now c.args.value) (sym g)
