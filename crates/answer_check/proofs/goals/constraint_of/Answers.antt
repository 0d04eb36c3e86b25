use Rattle.std.proofs.Common.{◌∙◌, ◌&&◌, Some, sym, ap, length, get_or}
use Rattle.fd_language.specs.declared.TheConstants.{INFINITY}
use Rattle.fd_language.specs.PlacedTerm.{comp, place}
use Rattle.fd_language.specs.Spelling.{read_range}
use Rattle.fd_language.specs.Term.{Name}
use Rattle.fd_model.specs.FlatConstraints.{is_place}
use Rattle.fd_model.specs.FlatQueries.{IsSatisfied}
use Rattle.fd_model.specs.Forms.{form_named}
use Rattle.fd_model.specs.Queries.{goal_of}
use Rattle.fd_model.specs.Satisfaction.{InRange}
use Rattle.term_pool.specs.declared.TermId.{TermId}
use Rattle.term_pool.specs.Contents.{atom_name}
use Rattle.term_pool.specs.PlacedTerms.{placed_of, parts_by}
use Rattle.term_pool.specs.Terms.{term_of, terms_by}
use Rattle.term_pool.proofs.Lemmas.{two_parts}
use Rattle.answer_check.specs.FlatForm.{is_flat_goal, is_flat_range}
use Rattle.answer_check.specs.Forms.{flat_form}
use Rattle.answer_check.specs.Goals.{Keeps, KeepsKind}
use Rattle.answer_check.proofs.GoalForms.{kind_says, other_is, posting_says}
use Rattle.answer_check.proofs.SideTerms.{weaker}
use Rattle.answer_check.proofs.goals.constraint_of.Goals as goal

pub returns-in-len2 : goal.returns-in-len2
returns-in-len2 c =
    let pool = c.args.pool.now in
    let ids = c.in-Comp.parts.now in
    let d : TermId = record { number = 0 } in
    let a = get_or ids 0 d in
    let b = get_or ids 1 d in
    let x = placed_of pool c.args.t in
    let f = atom_name pool c.in-Comp.name in
    let two = two_parts ids d d c.in-len2.len_at_least c.in-len2.len_below in
    let form = ap (λ n. flat_form (form_named f n)) (sym (ap (λ ts. length ts) two)) ∙ ap (λ (g : Name). flat_form (form_named g (length ids))) (sym c.name_of.ensures.name)
    ∙ sym c.form_named.ensures ∙ c.in-Some-Posting.is ∙ ap (λ g. Some g) c.in-Some-Posting.field-0-is in
    let r = (read_range INFINITY (placed_of pool b)).tree in
    weaker (Keeps (is_place (term_of pool a) && is_flat_range INFINITY (placed_of pool b) r) (λ s. InRange INFINITY INFINITY s (term_of pool a) r))
    (Keeps (is_flat_goal INFINITY x (goal_of INFINITY x)) (λ s. IsSatisfied INFINITY INFINITY s (goal_of INFINITY x))) c.posting.result
    (posting_says pool x f (place x) a b (c.in-Comp.ensures.placed ∙ ap (λ ts. comp f (place x) (parts_by (placed_of pool) ts)) two) form) c.posting.ensures

pub returns-in-Some-Constraint : goal.returns-in-Some-Constraint
returns-in-Some-Constraint c =
    let pool = c.args.pool.now in
    let ids = c.in-Comp.parts.now in
    let x = placed_of pool c.args.t in
    let f = atom_name pool c.in-Comp.name in
    let k = c.in-Some-Constraint.kind in
    let form = ap (λ (g : Name). flat_form (form_named g (length ids))) (sym c.name_of.ensures.name) ∙ sym c.form_named.ensures ∙ c.in-Some-Constraint.is
    ∙ ap (λ g. Some g) c.in-Some-Constraint.field-0-is in
    weaker (KeepsKind k (terms_by (term_of pool) ids)) (Keeps (is_flat_goal INFINITY x (goal_of INFINITY x)) (λ s. IsSatisfied INFINITY INFINITY s (goal_of INFINITY x))) c.constraint_by.result
    (kind_says pool x f (place x) ids c.in-Comp.ensures.placed k form) c.constraint_by.ensures

pub returns-in-Some-Labelling : goal.returns-in-Some-Labelling
returns-in-Some-Labelling c =
    let pool = c.args.pool.now in
    let ids = c.in-Comp.parts.now in
    let x = placed_of pool c.args.t in
    let f = atom_name pool c.in-Comp.name in
    let is = sym c.in-Some-Labelling.field-0-is in
    let form = ap (λ g. Some g) is ∙ sym c.in-Some-Labelling.is ∙ c.form_named.ensures ∙ ap (λ (g : Name). flat_form (form_named g (length ids))) c.name_of.ensures.name in
    other_is pool x f (place x) ids c.in-Comp.ensures.placed (λ k g. let q = form ∙ g in cc (q)) (λ g. let q = form ∙ g in cc (q))

pub returns-in-None : goal.returns-in-None
returns-in-None c =
    let pool = c.args.pool.now in
    let ids = c.in-Comp.parts.now in
    let x = placed_of pool c.args.t in
    let f = atom_name pool c.in-Comp.name in
    let form = sym c.in-None.is ∙ c.form_named.ensures ∙ ap (λ (g : Name). flat_form (form_named g (length ids))) c.name_of.ensures.name in
    other_is pool x f (place x) ids c.in-Comp.ensures.placed (λ k g. let q = form ∙ g in cc (q)) (λ g. let q = form ∙ g in cc (q))
