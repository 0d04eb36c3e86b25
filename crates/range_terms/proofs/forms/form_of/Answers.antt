use Rattle.std.proofs.Common.{◌≡◌, sym, subst, ap, ◌∙◌, List, [], ℕ, rules, to_z, of_z}
use Rattle.std.specs.Prelude.{codes, ℤ, pos, FitsSigned}
use Rattle.std.specs.Int.{w64}
use Rattle.std.proofs.lemmas.Int.{to_z-of_z}
use Rattle.term_pool.specs.PoolInvariant.{IsStorable}
use Rattle.term_pool.proofs.Lemmas.{term_is_storable}
use Rattle.fd_language.specs.declared.range_node.RangeNode.TheVariants as node
use Rattle.std.specs.Str.{bytes_eq}
use Rattle.fd_language.specs.Term.{Name}
use Rattle.fd_language.specs.PlacedTerm.{var, int, atom, comp}
use Rattle.term_pool.specs.Contents as pool
use Rattle.term_pool.specs.Contents.{Contents, atom_name}
use Rattle.term_pool.specs.PlacedTerms.{placed_of, parts_by}
use Rattle.range_terms.specs.TermNodes.{Wanted, wanted}
use Rattle.range_terms.specs.Forms.{IsRangeForm, IsNumber}
use Rattle.range_terms.specs.declared.forms.RangeForm.TheVariants as form
use Rattle.range_terms.proofs.Steps.{at_shape}
use Rattle.range_terms.proofs.Positions.{a_parameter, an_integer, the_infinity, no_atom}
use Rattle.range_terms.proofs.forms.form_of.Goals as goal

pub returns-in-Var : goal.returns-in-Var
returns-in-Var c = λ s p shape place.
    let l = c.args.operand.position in
    at_shape c.args.infinity c.args.pool.now c.in-Var.ensures.valid c.args.operand s (pool.var c.in-Var.variable) p c.number_form.result c.in-Var.ensures.shape shape place
    (c.number_form.ensures c.args.infinity c.args.pool.now (wanted c.args.infinity l (var c.in-Var.variable p)) p (a_parameter c.args.infinity l c.in-Var.variable p))

pub returns-in-Int : goal.returns-in-Int
returns-in-Int c = λ s p shape place.
    let l = c.args.operand.position in
    let fits : FitsSigned w64 c.in-Int.integer = subst IsStorable c.in-Int.ensures.term (term_is_storable c.args.pool.now c.in-Int.ensures.valid c.args.operand.term c.requires) in
    at_shape c.args.infinity c.args.pool.now c.in-Int.ensures.valid c.args.operand s (pool.int c.in-Int.integer) p c.number_form-in-Int.result c.in-Int.ensures.shape shape place
    (subst (λ (z : ℤ). ((k : ℕ) (x : Contents) (w : Wanted) (q : ℕ) → IsNumber l (node.Int z) q w → IsRangeForm k x w q [] c.number_form-in-Int.result)
    → IsRangeForm c.args.infinity c.args.pool.now (wanted c.args.infinity l (int c.in-Int.integer p)) p [] c.number_form-in-Int.result)
    (sym (to_z-of_z w64 c.in-Int.integer fits))
    (λ f. f c.args.infinity c.args.pool.now (wanted c.args.infinity l (int c.in-Int.integer p)) p (an_integer c.args.infinity l c.in-Int.integer p)) c.number_form-in-Int.ensures)

pub returns-then-eq : goal.returns-then-eq
returns-then-eq c = λ s p shape place.
    let l = c.args.operand.position in
    let name = atom_name c.args.pool.now c.in-Atom.atom in
    let fits : to_z w64 (of_z w64 c.from.result) ≡ pos c.args.infinity = search rules in
    at_shape c.args.infinity c.args.pool.now c.in-Atom.ensures.valid c.args.operand s (pool.atom c.in-Atom.atom) p c.number_form-then-eq.result c.in-Atom.ensures.shape shape place
    (c.number_form-then-eq.ensures c.args.infinity c.args.pool.now (wanted c.args.infinity l (atom name p)) p
    (subst (λ (z : ℤ). IsNumber l (node.Int z) p (wanted c.args.infinity l (atom name p))) (sym fits)
    (the_infinity c.args.infinity l name p (ap (λ (n : List ℕ). bytes_eq n (codes "infinity")) (sym c.name_of.ensures.name) ∙ sym c.eq.ensures
    ∙ c.if-eq.true))))

pub returns-else-eq : goal.returns-else-eq
returns-else-eq c = λ s p shape place.
    let l = c.args.operand.position in
    let name = atom_name c.args.pool.now c.in-Atom.atom in
    at_shape c.args.infinity c.args.pool.now c.in-Atom.ensures.valid c.args.operand s (pool.atom c.in-Atom.atom) p form.Misfit c.in-Atom.ensures.shape shape place
    (no_atom c.args.infinity l name p (ap (λ (n : List ℕ). bytes_eq n (codes "infinity")) (sym c.name_of.ensures.name) ∙ sym c.eq.ensures ∙ c.if-eq.false))

pub returns-in-Comp : goal.returns-in-Comp
returns-in-Comp c = λ s p shape place.
    let l = c.args.operand.position in
    let now = c.args.pool.now in
    at_shape c.args.infinity now c.in-Comp.ensures.valid c.args.operand s (pool.comp c.in-Comp.atom c.in-Comp.parts.now) p c.compound_form.result c.in-Comp.ensures.shape shape place
    (subst (λ (n : Name). IsRangeForm c.args.infinity now (wanted c.args.infinity l (comp n p (parts_by (placed_of now) c.in-Comp.parts.now))) p c.in-Comp.parts.now
    c.compound_form.result) c.name_of-in-Comp.ensures.name (c.compound_form.ensures c.args.infinity p))
