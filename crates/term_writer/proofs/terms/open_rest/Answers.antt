use Rattle.std.proofs.Common.{refl}
use Rattle.term_writer.specs.Pieces.{piece_text, piece_weight}
use Rattle.term_writer.proofs.Steps.{rest_ends, rest_cell, rest_tail}
use Rattle.term_writer.proofs.terms.open_rest.Goals as goal

pub returns-in-Nothing : goal.returns-in-Nothing
returns-in-Nothing c = λ mode vars text. rest_ends c.args.pool.now mode vars c.args.t text c.args.ahead.now.items (c.in-Nothing.ensures mode vars)

pub returns-in_ok-extend_from_slice-in-Cell : goal.returns-in_ok-extend_from_slice-in-Cell
unfolding piece_text piece_weight
returns-in_ok-extend_from_slice-in-Cell c = λ mode vars text.
    rest_cell c.args.pool.now mode vars c.args.t c.in-Cell.first c.in-Cell.rest text c.args.ahead.now.items c.extend_from_slice.new.self.items _ c.in_ok-extend_from_slice-in-Cell.ensures.items
    (record { text = refl; light = refl; within = tt }) c.in-Cell.ensures

pub returns-in_ok-extend_from_slice-in-Tail : goal.returns-in_ok-extend_from_slice-in-Tail
unfolding piece_text piece_weight
returns-in_ok-extend_from_slice-in-Tail c = λ mode vars text.
    rest_tail c.args.pool.now mode vars c.args.t text c.args.ahead.now.items c.extend_from_slice-in-Tail.new.self.items _ c.in_ok-extend_from_slice-in-Tail.ensures.items
    (record { text = refl; light = refl; within = tt }) c.requires (c.in-Tail.ensures mode vars)
