use Rattle.std.proofs.Common.{refl, sym, ap, ◌∙◌, subst, List, ℕ, ◌+◌, true, false, ◌≡◌, Some}
use Rattle.std.specs.Prelude.{codes}
use Rattle.std.specs.Str.{bytes_eq}
use Rattle.fd_language.specs.Term.{Name}
use Rattle.fd_language.specs.Operators.{infix_of}
use Rattle.fd_language.specs.TermTexts.{spelled_compound, spelled_each}
use Rattle.term_pool.specs.Contents.{atom_name}
use Rattle.term_pool.specs.Terms.{term_of, terms_by}
use Rattle.name_syntax.specs.Operators.{operator_of}
use Rattle.term_writer.specs.Pieces.{operator_text, piece_text, piece_weight, weights, Replaces}
use Rattle.term_writer.specs.Views.{mode_of}
use Rattle.term_writer.proofs.Steps.{curly, cell, operation, call}
use Rattle.term_writer.proofs.terms.open_compound.Goals as goal

pub returns-in_ok-extend_from_slice-in-Curly : goal.returns-in_ok-extend_from_slice-in-Curly
unfolding piece_text piece_weight
returns-in_ok-extend_from_slice-in-Curly c = λ vars.
    let pool = c.args.pool.now in
    let name = atom_name pool c.args.atom in
    let is : bytes_eq name (codes "{}") ≡ true = ap (λ (n : List ℕ). bytes_eq n (codes "{}")) (sym c.name_of-name.ensures.name) ∙ c.in-Curly.ensures.1 in
    curly pool (mode_of c.args.mode) vars name c.args.parts.now c.in-Curly.only c.args.limit c.args.text.now.items c.args.ahead.now.items
    c.extend_from_slice.new.self.items _ _ c.in_ok-extend_from_slice-in-Curly.ensures.items
    (record { text = refl; light = refl; within = tt }) (record { text = refl; light = refl; within = tt }) c.requires.parts c.in-Curly.ensures.0 is

pub returns-in_ok-extend_from_slice-in-Cell : goal.returns-in_ok-extend_from_slice-in-Cell
unfolding piece_text piece_weight
returns-in_ok-extend_from_slice-in-Cell c = λ vars.
    let pool = c.args.pool.now in
    let name = atom_name pool c.args.atom in
    let is : bytes_eq name (codes ".") ≡ true = ap (λ (n : List ℕ). bytes_eq n (codes ".")) (sym c.name_of-name.ensures.name) ∙ c.in-Cell.ensures.1 in
    cell pool (mode_of c.args.mode) vars name c.args.parts.now c.in-Cell.first c.in-Cell.rest c.args.limit c.args.text.now.items c.args.ahead.now.items
    c.extend_from_slice-in-Cell.new.self.items _ _ c.in_ok-extend_from_slice-in-Cell.ensures.items
    (record { text = refl; light = refl; within = tt }) (record { text = refl; light = refl; within = tt }) c.requires.parts c.in-Cell.ensures.0 is

pub returns-in_ok-extend_from_slice-in-Infix : goal.returns-in_ok-extend_from_slice-in-Infix
unfolding piece_text piece_weight
returns-in_ok-extend_from_slice-in-Infix c = λ vars.
    let pool = c.args.pool.now in
    let name = atom_name pool c.args.atom in
    let is : bytes_eq name (codes ".") ≡ false = ap (λ (n : List ℕ). bytes_eq n (codes ".")) (sym c.name_of-name.ensures.name) ∙ c.in-Infix.ensures.1 in
    let found : infix_of name ≡ Some (operator_of name c.in-Infix.operator) = subst (λ (n : List ℕ). infix_of n ≡ Some (operator_of n c.in-Infix.operator))
    c.name_of-name.ensures.name c.in-Infix.ensures.2 in
    operation pool (mode_of c.args.mode) vars name c.args.parts.now c.in-Infix.operator c.in-Infix.left c.in-Infix.right c.args.limit c.left_limit.result
    c.right_limit.result c.args.text.now.items c.parentheses.result.0.now c.parentheses.result.1.now
    c.args.ahead.now.items c.extend_from_slice-in-Infix.new.self.items _ _ _ c.in_ok-extend_from_slice-in-Infix.ensures.items
    (record { text = refl; light = refl; within = tt }) (record { text = ap operator_text c.name_of-name.ensures.name; light = refl; within = tt }) (record { text = refl; light = refl; within = tt })
    c.parentheses.ensures.behind c.parentheses.ensures.before c.left_limit.ensures c.right_limit.ensures c.requires.parts c.in-Infix.ensures.0 is found

pub returns-in_ok-extend_from_slice-in-Call : goal.returns-in_ok-extend_from_slice-in-Call
unfolding piece_text piece_weight
returns-in_ok-extend_from_slice-in-Call c = λ vars.
    let pool = c.args.pool.now in
    let mode = mode_of c.args.mode in
    subst (λ (f : Name). Replaces pool mode vars ((spelled_compound mode f (spelled_each mode vars (terms_by (term_of pool) c.args.parts.now))).at c.args.limit)
    (8 + weights (terms_by (term_of pool) c.args.parts.now))
    c.args.text.now.items c.args.ahead.now.items c.append_name.new.text.items c.extend_from_slice-in-Call.new.self.items) c.name_of-name.ensures.name
    (call pool mode vars c.name_of-name.result.now c.args.parts.now c.args.limit c.args.text.now.items c.append_name.new.text.items c.args.ahead.now.items
    c.extend_from_slice-in-Call.new.self.items _ _ _ c.in_ok-extend_from_slice-in-Call.ensures.items
    (record { text = refl; light = refl; within = tt }) (record { text = refl; light = refl; within = tt }) c.in_ok-append_name-in-Call.ensures refl refl
    c.requires.parts (c.in-Call.ensures mode vars (term_of pool)))
