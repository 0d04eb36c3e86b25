use Rattle.std.proofs.Common.{◌∙◌, ap, arith}
use Rattle.clause_compiler.specs.Sections.{placed_code}
use Rattle.clause_compiler.proofs.Vectors.{change_more}
use Rattle.clause_compiler.proofs.choices.place_choices.Goals as goal

pub loop-i-preserved : goal.loop-i-preserved
loop-i-preserved c = change_more (placed_code c.args.places.now) c.args.code.now.items c.loop-i.code.items c.loop-i.i c.placed.result c.index.result.now
    (omega arith) c.loop-i.invariant (c.placed.ensures ∙ ap (placed_code c.args.places.now) c.index.ensures)
