use Rattle.std.proofs.Common.{◌∙◌, sym, subst, ap, List, ℕ, ◌<◌, length, arith}
use Rattle.std.specs.Prelude.{codes}
use Rattle.std.specs.Str.{bytes_eq}
use Rattle.std.proofs.lemmas.List.Elements.{All-weaker}
use Rattle.fd_language.specs.Term.{Name}
use Rattle.term_writer.specs.declared.pieces.CompoundForm.TheVariants as form
use Rattle.term_writer.specs.Pieces.{IsCompoundForm}
use Rattle.term_pool.specs.Contents.{atom_name}
use Rattle.term_writer.proofs.Rests.{rest_var, rest_int, rest_nil, rest_atom, rest_curly, rest_operation, rest_call, rest_list}
use Rattle.term_writer.proofs.terms.rest_of.Goals as goal

pub returns-in-Var : goal.returns-in-Var
returns-in-Var c = rest_var c.args.pool.now c.args.t c.in-Var.field-0 c.in-Var.ensures.term

pub returns-in-Int : goal.returns-in-Int
returns-in-Int c = rest_int c.args.pool.now c.args.t c.in-Int.field-0 c.in-Int.ensures.term

pub returns-then-eq : goal.returns-then-eq
returns-then-eq c = rest_nil c.args.pool.now c.args.t (atom_name c.args.pool.now c.in-Atom.atom) c.in-Atom.ensures.term
    (ap (λ (n : List ℕ). bytes_eq n (codes "[]")) (sym c.name_of.ensures.name) ∙ sym c.eq.ensures ∙ c.if-eq.true)

pub returns-else-eq : goal.returns-else-eq
returns-else-eq c = rest_atom c.args.pool.now c.args.t (atom_name c.args.pool.now c.in-Atom.atom) c.in-Atom.ensures.term
    (ap (λ (n : List ℕ). bytes_eq n (codes "[]")) (sym c.name_of.ensures.name) ∙ sym c.eq.ensures ∙ c.if-eq.false)

pub returns-in-Cell : goal.returns-in-Cell
returns-in-Cell c =
    let n = length c.args.pool.now.entries in
    let all = All-weaker (λ t. t.number < c.args.t.number) (λ t. t.number < n) (λ t h. omega arith) c.in-Comp.parts.now c.in-Comp.ensures.within.1 in
    rest_list c.args.pool.now c.args.t (atom_name c.args.pool.now c.in-Comp.atom) c.in-Comp.parts.now c.in-Comp.ensures.term c.in-Cell.first c.in-Cell.rest all
    (subst (λ (n : Name). IsCompoundForm n c.in-Comp.parts.now (form.Cell c.in-Cell.first c.in-Cell.rest)) c.name_of-in-Comp.ensures.name c.in-Cell.ensures)

pub returns-in-Curly : goal.returns-in-Curly
returns-in-Curly c = rest_curly c.args.pool.now c.args.t (atom_name c.args.pool.now c.in-Comp.atom) c.in-Comp.parts.now c.in-Comp.ensures.term
    c.in-Curly.field-0 (subst (λ (n : Name). IsCompoundForm n c.in-Comp.parts.now (form.Curly c.in-Curly.field-0)) c.name_of-in-Comp.ensures.name c.in-Curly.ensures)

pub returns-in-Infix : goal.returns-in-Infix
returns-in-Infix c = rest_operation c.args.pool.now c.args.t (atom_name c.args.pool.now c.in-Comp.atom) c.in-Comp.parts.now c.in-Comp.ensures.term
    c.in-Infix.field-0 c.in-Infix.field-1 c.in-Infix.field-2
    (subst (λ (n : Name). IsCompoundForm n c.in-Comp.parts.now (form.Infix c.in-Infix.field-0 c.in-Infix.field-1 c.in-Infix.field-2)) c.name_of-in-Comp.ensures.name
    c.in-Infix.ensures)

pub returns-in-Call : goal.returns-in-Call
returns-in-Call c = rest_call c.args.pool.now c.args.t (atom_name c.args.pool.now c.in-Comp.atom) c.in-Comp.parts.now c.in-Comp.ensures.term
    (subst (λ (n : Name). IsCompoundForm n c.in-Comp.parts.now (form.Call)) c.name_of-in-Comp.ensures.name c.in-Call.ensures)
