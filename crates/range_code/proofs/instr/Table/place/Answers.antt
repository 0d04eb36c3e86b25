use Rattle.std.proofs.Common.{SFits, to_z-of_z, sym, ◌∙◌}
use mir.Syntax.{w128}
use Rattle.std.specs.Ordering.{int_eq}
use Rattle.range_code.proofs.CompiledRanges.{none_passes, one_passes}
use Rattle.range_code.proofs.instr.Table.place.Goals as goal

pub returns-in-Some : goal.returns-in-Some
returns-in-Some c =
    let f : SFits w128 c.args.value = c.ranges.value in
    one_passes (int_eq c.args.value) c.args.self.now.places.keys c.in-Some.place (sym (simp to_z-of_z at c.get_index_of.ensures.index) ∙ c.in-Some.is)

pub returns-in-None : goal.returns-in-None
returns-in-None c =
    let f : SFits w128 c.args.value = c.ranges.value in
    none_passes (int_eq c.args.value) c.args.self.now.places.keys c.len.result (sym (simp to_z-of_z at c.get_index_of.ensures.index) ∙ c.in-None.is) c.len.ensures.len
