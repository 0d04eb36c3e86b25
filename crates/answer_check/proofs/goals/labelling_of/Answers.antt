use Rattle.std.proofs.Common.{◌∙◌, Some, sym, ap, length, get_or}
use Rattle.fd_language.specs.declared.TheConstants.{INFINITY}
use Rattle.fd_language.specs.PlacedTerm.{comp, place}
use Rattle.fd_language.specs.Term.{Name}
use Rattle.fd_model.specs.Forms.{form_named}
use Rattle.fd_model.specs.Queries.{goal_of}
use Rattle.term_pool.specs.declared.TermId.{TermId}
use Rattle.term_pool.specs.Contents.{atom_name}
use Rattle.term_pool.specs.PlacedTerms.{placed_of, parts_by}
use Rattle.term_pool.specs.Terms.{term_of}
use Rattle.term_pool.proofs.Lemmas.{one_part}
use Rattle.answer_check.specs.Forms.{flat_form}
use Rattle.answer_check.specs.Goals.{FindsLabels, FindsLabelling}
use Rattle.answer_check.proofs.GoalForms.{labels_say, no_labels}
use Rattle.answer_check.proofs.SideTerms.{weaker}
use Rattle.answer_check.proofs.goals.labelling_of.Goals as goal

pub returns-in-len1 : goal.returns-in-len1
returns-in-len1 c =
    let pool = c.args.pool.now in
    let ids = c.in-Comp.parts.now in
    let d : TermId = record { number = 0 } in
    let a = get_or ids 0 d in
    let x = placed_of pool c.args.t in
    let f = atom_name pool c.in-Comp.name in
    let n = c.args.count in
    let k = c.in-Some-Labelling.order in
    let one = one_part ids d c.in-len1.len_at_least c.in-len1.len_below in
    let form = ap (λ m. flat_form (form_named f m)) (sym (ap (λ ts. length ts) one)) ∙ ap (λ (g : Name). flat_form (form_named g (length ids))) (sym c.name_of.ensures.name)
    ∙ sym c.form_named.ensures ∙ c.in-Some-Labelling.is ∙ ap (λ g. Some g) c.in-Some-Labelling.field-0-is in
    weaker (FindsLabels n k (term_of pool a)) (FindsLabelling n (place x) (goal_of INFINITY x)) c.labelling_by.result
    (labels_say pool x f (place x) a (c.in-Comp.ensures.placed ∙ ap (λ ts. comp f (place x) (parts_by (placed_of pool) ts)) one) n (place x) k form) c.labelling_by.ensures

pub returns-in-Some-Posting : goal.returns-in-Some-Posting
returns-in-Some-Posting c =
    let pool = c.args.pool.now in
    let is = sym c.in-Some-Posting.field-0-is in
    let form = ap (λ g. Some g) is ∙ sym c.in-Some-Posting.is ∙ c.form_named.ensures ∙ ap (λ (g : Name). flat_form (form_named g (length c.in-Comp.parts.now))) c.name_of.ensures.name in
    no_labels pool (placed_of pool c.args.t) (atom_name pool c.in-Comp.name) (place (placed_of pool c.args.t)) c.in-Comp.parts.now c.in-Comp.ensures.placed
    c.args.count (place (placed_of pool c.args.t)) (λ k g. let q = form ∙ g in cc (q))

pub returns-in-Some-Constraint : goal.returns-in-Some-Constraint
returns-in-Some-Constraint c =
    let pool = c.args.pool.now in
    let is = sym c.in-Some-Constraint.field-0-is in
    let form = ap (λ g. Some g) is ∙ sym c.in-Some-Constraint.is ∙ c.form_named.ensures ∙ ap (λ (g : Name). flat_form (form_named g (length c.in-Comp.parts.now))) c.name_of.ensures.name in
    no_labels pool (placed_of pool c.args.t) (atom_name pool c.in-Comp.name) (place (placed_of pool c.args.t)) c.in-Comp.parts.now c.in-Comp.ensures.placed
    c.args.count (place (placed_of pool c.args.t)) (λ k g. let q = form ∙ g in cc (q))

pub returns-in-None : goal.returns-in-None
returns-in-None c =
    let pool = c.args.pool.now in
    let form = sym c.in-None.is ∙ c.form_named.ensures ∙ ap (λ (g : Name). flat_form (form_named g (length c.in-Comp.parts.now))) c.name_of.ensures.name in
    no_labels pool (placed_of pool c.args.t) (atom_name pool c.in-Comp.name) (place (placed_of pool c.args.t)) c.in-Comp.parts.now c.in-Comp.ensures.placed
    c.args.count (place (placed_of pool c.args.t)) (λ k g. let q = form ∙ g in cc (q))
