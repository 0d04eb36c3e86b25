use Rattle.std.proofs.Common.{rules, SFits, to_z-of_z, ◌∙◌, sym, ap}
use mir.Syntax.{w128}
use Rattle.range_code.specs.declared.instr.RangeInstr.TheVariants as instr
use Rattle.range_code.specs.Pieces.{piece_node}
use Rattle.range_code.specs.Instructions.{instr_of}
use Rattle.range_code.proofs.instr.instr_of_piece.Goals as goal

pub returns-in-Literal : goal.returns-in-Literal
returns-in-Literal c =
    let f : SFits w128 c.in-Literal.value = search rules in
    ap instr.PushConst (simp to_z-of_z at c.place.ensures) ∙ ap (λ p. instr_of c.args.table.now.places.keys (piece_node p)) (sym c.in-Literal.is)
