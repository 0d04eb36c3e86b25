use Rattle.std.proofs.Common.{rules, SFits, to_z-of_z, ◌∙◌, sym, ap}
use mir.Syntax.{w64, w128}
use Rattle.range_code.specs.declared.instr.RangeInstr.TheVariants as instr
use Rattle.range_code.specs.Instructions.{instr_of}
use Rattle.range_code.proofs.Forms.{wider}
use Rattle.range_code.proofs.instr.instr_of.Goals as goal

pub returns-in-Int : goal.returns-in-Int
returns-in-Int c =
    let a : SFits w64 c.in-Int.value = search rules in
    let f : SFits w128 c.in-Int.value = wider c.in-Int.value a in
    ap instr.PushConst (simp to_z-of_z at c.place.ensures) ∙ ap (instr_of c.args.table.now.places.keys) (sym c.in-Int.is)
