use Rattle.std.proofs.Common.{rules, ◌∙◌, SFits, to_z-of_z}
use mir.Syntax.{w64}
use Rattle.range_code.specs.Forms.{IsNumber}
use Rattle.range_code.specs.SpelledRanges.{counted_range}
use Rattle.range_code.proofs.Forms.{spelled_same}
use Rattle.range_code.proofs.spelled_forms.counted_form.Goals as goal

pub returns-clause-form : goal.returns-clause-form
returns-clause-form c r e =
    let f : SFits w64 c.in-Int.value = search rules in
    let n : IsNumber c.in-Int.value = search rules in
    simp to_z-of_z (
      spelled_same c.args.nodes.now (counted_range c.in-Int.value c.in-Max.slot)
          (c.are_same_nodes.ensures.0 c.if-not-are_same_nodes.false ∙ simp to_z-of_z at c.counted_nodes.ensures) r e,
      n,
    )
