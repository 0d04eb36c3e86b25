use Rattle.std.proofs.Common.{◌≡◌, ◌∙◌, sym, ap, refl, Some, Vec, Global, true, false}
use Rattle.std.specs.List.{list_all}
use Rattle.std.specs.Prelude.{option_map}
use Rattle.fd_language.specs.Family.{has, count_up}
use Rattle.term_pool.specs.Terms.{term_of}
use Rattle.answer_check.specs.declared.members.Member.{Member}
use Rattle.answer_check.specs.Members.{members_in, open_in}
use Rattle.answer_check.proofs.Labels.{labels_none, labels_some, labels_short}
use Rattle.answer_check.proofs.goals.labelling_by.Goals as goal

pub returns-in_default : goal.returns-in_default
returns-in_default c =
    let list = term_of c.args.pool.now c.args.list in
    labels_none c.args.count list (sym c.in_ok-members.ensures ∙ ap (option_map (λ (v : Vec Member Global). v.items)) c.in_default.is)

pub returns-then-branch : goal.returns-then-branch
returns-then-branch c =
    let list = term_of c.args.pool.now c.args.list in
    let ms = c.in-Some.members.items in
    let xs = c.in_ok-labelled.labelled.items in
    let e : Some ms ≡ members_in list = ap (option_map (λ (v : Vec Member Global). v.items)) (sym c.in-Some.is) ∙ c.in_ok-members.ensures in
    let opened : xs ≡ open_in ms = c.in_ok-labelled.ensures ∙ ap open_in c.deref.ensures.value in
    let all : list_all (has xs) (count_up 0 c.args.count) ≡ true = ap (λ ys. list_all (has ys) (count_up 0 c.args.count)) (sym c.deref-2.ensures.value)
    ∙ sym c.in_ok-has_below.ensures ∙ c.if-branch.true in
    labels_some c.args.count c.args.order list ms xs _ e opened all refl refl

pub returns : goal.returns
returns c =
    let list = term_of c.args.pool.now c.args.list in
    let ms = c.in-Some.members.items in
    let xs = c.in_ok-labelled.labelled.items in
    let e : Some ms ≡ members_in list = ap (option_map (λ (v : Vec Member Global). v.items)) (sym c.in-Some.is) ∙ c.in_ok-members.ensures in
    let opened : xs ≡ open_in ms = c.in_ok-labelled.ensures ∙ ap open_in c.deref.ensures.value in
    let all : list_all (has xs) (count_up 0 c.args.count) ≡ false = ap (λ ys. list_all (has ys) (count_up 0 c.args.count)) (sym c.deref-2.ensures.value)
    ∙ sym c.in_ok-has_below.ensures ∙ c.if-branch.false in
    labels_short c.args.count list ms xs e opened all
