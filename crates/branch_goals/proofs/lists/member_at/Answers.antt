use Rattle.std.proofs.Common.{◌≡◌, ◌∙◌, ap, sym, subst, Ok, Some, None, pos, rules, w64, of_z, to_z}
use Rattle.std.proofs.lemmas.Int.{to_z-of_z}
use borrow.Author.Rules.{sfits_of}
use Rattle.range_code.specs.Frames.{family_of}
use Rattle.branch_lemmas.specs.Frames.{link_of}
use Rattle.fd_language.specs.SingleValues.{only}
use Rattle.label_search.specs.declared.Member.TheVariants.{Fixed}
use Rattle.branch_goals.specs.Lists.{IsMemberOf}
use Rattle.branch_goals.proofs.ListNodes.{member_free, member_fixed, member_variable, member_int, member_default}
use Rattle.branch_goals.proofs.lists.member_at.Goals as goal

pub domain-requires : goal.domain-requires
domain-requires g c = let s = c.in-Constrained.ensures.seen in c.requires.linked c.in-Constrained.field-0 c.in-Constrained.k (ap link_of s.1)

pub returns-in-Open : goal.returns-in-Open
returns-in-Open g c = λ name.
    let s = c.in-Open.ensures.seen in
    member_free name c.args.heap.now.now c.deref.ensures.valid (g.V.View.sets c.args.view.now) c.args.at c.in-Open.field-0 s.1 s.2

pub returns-in-Some : goal.returns-in-Some
returns-in-Some g c = λ name.
    let s = c.in-Constrained.ensures.seen in
    let is : only (family_of (g.V.View.sets c.args.view.now) c.in-Constrained.k) ≡ Some c.in-Some.value = ap only (sym c.domain.ensures) ∙ sym c.only_value.ensures ∙ c.in-Some.is in
    let fits : to_z w64 (of_z w64 c.from.result) ≡ pos c.in-Some.value = search rules in
    subst (λ z. IsMemberOf name c.args.heap.now.now (g.V.View.sets c.args.view.now) c.args.at (Ok (Fixed z))) (sym fits)
    (member_fixed name c.args.heap.now.now c.deref.ensures.valid (g.V.View.sets c.args.view.now) c.args.at c.in-Constrained.field-0 c.in-Constrained.k c.in-Some.value s.1 s.2 is)

pub returns-in-None : goal.returns-in-None
returns-in-None g c = λ name.
    let s = c.in-Constrained.ensures.seen in
    let is : only (family_of (g.V.View.sets c.args.view.now) c.in-Constrained.k) ≡ None = ap only (sym c.domain.ensures) ∙ sym c.only_value.ensures ∙ c.in-None.is in
    member_variable name c.args.heap.now.now c.deref.ensures.valid (g.V.View.sets c.args.view.now) c.args.at c.in-Constrained.field-0 c.in-Constrained.k s.1 s.2
    (c.requires.linked c.in-Constrained.field-0 c.in-Constrained.k (ap link_of s.1)) c.requires.some is

pub returns-in-Int : goal.returns-in-Int
returns-in-Int g c = λ name.
    subst (λ z. IsMemberOf name c.args.heap.now.now (g.V.View.sets c.args.view.now) c.args.at (Ok (Fixed z)))
    (sym (to_z-of_z w64 c.in-Int.z (sfits_of (rw c.in-Int.is at c.deref.type_inv).1.1.1.1.0.1)))
    (member_int name c.args.heap.now.now c.deref.ensures.valid (g.V.View.sets c.args.view.now) c.args.at c.in-Int.z c.in-Int.ensures.seen)

pub returns-in_default : goal.returns-in_default
returns-in_default g c = λ name.
    member_default name c.args.heap.now.now c.deref.ensures.valid (g.V.View.sets c.args.view.now) c.args.at c.deref.result c.deref.ensures.seen
    c.in_default.not-Open c.in_default.not-Constrained c.in_default.not-Int
