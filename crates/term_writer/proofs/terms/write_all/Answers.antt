use Rattle.std.proofs.Common.{◌≡◌, ◌∙◌, ◌<◌, List, [], sym, ap, subst, arith}
use Rattle.std.specs.Prelude.{Some}
use Rattle.std.proofs.lemmas.List.{nil_from_length}
use Rattle.std.proofs.lemmas.List.Elements.{All-pop}
use Rattle.fd_language.specs.TermTexts.{term_text}
use Rattle.term_pool.specs.Terms.{term_of}
use Rattle.term_writer.specs.declared.pieces.Piece.{Piece}
use Rattle.term_writer.specs.declared.pieces.Piece.TheVariants as piece
use Rattle.term_writer.specs.Pieces.{joined, finished, load, piece_text, piece_weight, IsOf}
use Rattle.term_writer.specs.Views.{mode_of, text_in}
use Rattle.term_writer.proofs.PendingPieces.{finished-push, same_whole, whole_kept, smaller_load, still_within}
use Rattle.term_writer.proofs.terms.write_all.Goals as goal

pub loop-piece-init : goal.loop-piece-init
unfolding piece_text piece_weight
loop-piece-init c =
    let pool = c.args.pool.now in
    let mode = mode_of c.args.mode in
    let names = text_in c.args.names.now in
    let first : Piece = piece.Term c.args.t c.args.limit in
    record {
      within = still_within pool mode names (piece_text pool mode names first) (piece_weight pool first) c.args.text.now.items c.open_term.new.text.items
          c.args.ahead.now.items c.open_term.new.ahead.items c.in_ok-open_term.ensures c.requires.pieces;
      whole = same_whole pool mode names first c.args.text.now.items c.open_term.new.text.items c.args.ahead.now.items c.open_term.new.ahead.items c.in_ok-open_term.ensures
          ∙ finished-push pool mode names c.args.text.now.items c.args.ahead.now.items first;
    }

pub write_piece-requires : goal.write_piece-requires
write_piece-requires c =
    (All-pop (IsOf c.args.pool.now) c.loop-piece.ahead.items c.pop.new.self.items (Some c.in-Some.piece) c.in-Some.ensures.items c.loop-piece.invariant.within).1

pub loop-piece-smaller : goal.loop-piece-smaller
loop-piece-smaller c =
    let pool = c.args.pool.now in
    subst (λ (ps : List Piece). load pool c.write_piece.new.ahead.items < load pool ps) (sym c.in-Some.ensures.items)
    (smaller_load pool (mode_of c.args.mode) (text_in c.args.names.now) c.in-Some.piece c.loop-piece.text.items c.write_piece.new.text.items
    c.pop.new.self.items c.write_piece.new.ahead.items c.in_ok-write_piece.ensures)

pub loop-piece-preserved : goal.loop-piece-preserved
loop-piece-preserved c =
    let pool = c.args.pool.now in
    let mode = mode_of c.args.mode in
    let names = text_in c.args.names.now in
    let popped = All-pop (IsOf pool) c.loop-piece.ahead.items c.pop.new.self.items (Some c.in-Some.piece) c.in-Some.ensures.items c.loop-piece.invariant.within in
    record {
      within = still_within pool mode names (piece_text pool mode names c.in-Some.piece) (piece_weight pool c.in-Some.piece) c.loop-piece.text.items
          c.write_piece.new.text.items c.pop.new.self.items c.write_piece.new.ahead.items c.in_ok-write_piece.ensures popped.0;
      whole = whole_kept pool mode names c.in-Some.piece c.loop-piece.text.items c.write_piece.new.text.items c.pop.new.self.items c.write_piece.new.ahead.items c.loop-piece.ahead.items
          (finished pool mode names (joined c.args.text.now.items (term_text mode names c.args.limit (term_of pool c.args.t))) c.args.ahead.now.items)
          c.in_ok-write_piece.ensures c.in-Some.ensures.items c.loop-piece.invariant.whole;
    }

pub returns : goal.returns
unfolding finished
returns c =
    let pool = c.args.pool.now in
    let mode = mode_of c.args.mode in
    let names = text_in c.args.names.now in
    let empty : c.loop-piece.ahead.items ≡ [] = nil_from_length c.loop-piece.ahead.items (omega (arith, c.in_default.ensures.cases.0)) in
    ◌∙◌ {c = finished pool mode names (joined c.args.text.now.items (term_text mode names c.args.limit (term_of pool c.args.t))) c.args.ahead.now.items}
    (sym (ap (finished pool mode names c.loop-piece.text.items) empty)) c.loop-piece.invariant.whole
