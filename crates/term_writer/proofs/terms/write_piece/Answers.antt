use Rattle.std.proofs.Common.{sym, ap, subst, ◌∙◌, arith}
use Rattle.std.specs.Prelude.{OnOk}
use Rattle.std.proofs.lemmas.Result.{on_ok_weaker}
use Rattle.term_writer.specs.declared.pieces.Piece.{Piece}
use Rattle.term_writer.specs.Pieces.{piece_text, piece_weight, operator_text, joined, IsOf, Replaces}
use Rattle.term_writer.specs.Views.{mode_of, text_in}
use Rattle.term_writer.proofs.Steps.{done}
use Rattle.term_writer.proofs.terms.write_piece.Goals as goal

pub returns-in-Term : goal.returns-in-Term
unfolding piece_text piece_weight
returns-in-Term c =
    subst (λ (p : Piece). OnOk c.open_term.result (Replaces c.args.pool.now (mode_of c.args.mode) (text_in c.args.names.now)
    (piece_text c.args.pool.now (mode_of c.args.mode) (text_in c.args.names.now) p) (piece_weight c.args.pool.now p)
    c.args.text.now.items c.args.ahead.now.items c.open_term.new.text.items c.open_term.new.ahead.items)) (sym c.in-Term.is) c.open_term.ensures

pub returns-in-Rest : goal.returns-in-Rest
unfolding piece_text piece_weight
returns-in-Rest c =
    subst (λ (p : Piece). OnOk c.open_rest.result (Replaces c.args.pool.now (mode_of c.args.mode) (text_in c.args.names.now)
    (piece_text c.args.pool.now (mode_of c.args.mode) (text_in c.args.names.now) p) (piece_weight c.args.pool.now p)
    c.args.text.now.items c.args.ahead.now.items c.args.text.now.items c.open_rest.new.ahead.items)) (sym c.in-Rest.is)
    (on_ok_weaker c.open_rest.result (λ h. h (mode_of c.args.mode) (text_in c.args.names.now) c.args.text.now.items) c.open_rest.ensures)

pub returns-in-Arguments : goal.returns-in-Arguments
unfolding piece_text piece_weight
returns-in-Arguments c =
    subst (λ (p : Piece). OnOk c.open_arguments.result
    (Replaces c.args.pool.now (mode_of c.args.mode) (text_in c.args.names.now)
    (piece_text c.args.pool.now (mode_of c.args.mode) (text_in c.args.names.now) p) (piece_weight c.args.pool.now p)
    c.args.text.now.items c.args.ahead.now.items c.args.text.now.items c.open_arguments.new.ahead.items)) (sym c.in-Arguments.is)
    (on_ok_weaker c.open_arguments.result (λ h. h c.args.pool.now (mode_of c.args.mode) (text_in c.args.names.now) c.args.text.now.items
    (subst (IsOf c.args.pool.now) c.in-Arguments.is c.requires)) c.open_arguments.ensures)

pub returns-in-Operator : goal.returns-in-Operator
unfolding piece_text piece_weight
returns-in-Operator c =
    subst (λ (p : Piece). OnOk c.append_operator.result
    (Replaces c.args.pool.now (mode_of c.args.mode) (text_in c.args.names.now)
    (piece_text c.args.pool.now (mode_of c.args.mode) (text_in c.args.names.now) p) (piece_weight c.args.pool.now p)
    c.args.text.now.items c.args.ahead.now.items c.append_operator.new.text.items c.args.ahead.now.items)) (sym c.in-Operator.is)
    (on_ok_weaker c.append_operator.result (λ e. done c.args.pool.now (mode_of c.args.mode) (text_in c.args.names.now) (operator_text c.in-Operator.name.now) 1
    c.args.text.now.items c.append_operator.new.text.items c.args.ahead.now.items (omega arith) e) c.append_operator.ensures)

pub returns-in-Text : goal.returns-in-Text
unfolding piece_text piece_weight
returns-in-Text c =
    subst (λ (p : Piece). OnOk c.append.result (Replaces c.args.pool.now (mode_of c.args.mode) (text_in c.args.names.now)
    (piece_text c.args.pool.now (mode_of c.args.mode) (text_in c.args.names.now) p) (piece_weight c.args.pool.now p)
    c.args.text.now.items c.args.ahead.now.items c.append.new.text.items c.args.ahead.now.items)) (sym c.in-Text.is)
    (on_ok_weaker c.append.result (λ e. done c.args.pool.now (mode_of c.args.mode) (text_in c.args.names.now) c.in-Text.token.now 1 c.args.text.now.items
    c.append.new.text.items c.args.ahead.now.items (omega arith) (e ∙ ap (joined c.args.text.now.items) c.as_bytes.ensures.value)) c.append.ensures)
