use Rattle.std.proofs.Common.{◌∙◌, ◌++◌, ap, map, length}
use Rattle.fd_language.proofs.Lemmas.{two}
use Rattle.range_code.specs.Pieces.{piece_node}
use Rattle.range_code.specs.Instructions.{instr_of}
use Rattle.range_code.proofs.instr.steps_of.Goals as goal

pub returns : goal.returns
returns c = record {
  instrs = c.in_ok-put_pieces.ensures ∙ two (λ a t. a ++ map (instr_of t) (map piece_node c.args.pieces.now)) c.in_ok-instrs.ensures c.in_ok-table.ensures.places;
  tests = c.len-tests.ensures ∙ (c.in_ok-instrs.instrs.ok.0 ∙ ap length c.in_ok-instrs.ensures);
  constants = c.in_ok-table.ensures.values ∙ c.in_ok-table.ensures.places;
}
