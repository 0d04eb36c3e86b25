use Rattle.std.proofs.Common.{◌∙◌, sym, ap}
use mir.Syntax.{w128}
use Rattle.std.proofs.lemmas.Int.{wrapping_add_is, wrapping_sub_is, wrapping_mul_is}
use Rattle.range_code.specs.Pieces.{combined}
use Rattle.range_code.proofs.fold.combined.Goals as goal

pub returns-in-Add : goal.returns-in-Add
returns-in-Add c = wrapping_add_is w128 c.args.a c.args.b c.ranges.a c.ranges.b ∙ ap (λ n. combined n c.args.a c.args.b) (sym c.in-Add.is)

pub returns-in-Sub : goal.returns-in-Sub
returns-in-Sub c = wrapping_sub_is w128 c.args.a c.args.b c.ranges.a c.ranges.b ∙ ap (λ n. combined n c.args.a c.args.b) (sym c.in-Sub.is)

pub returns-in-Mul : goal.returns-in-Mul
returns-in-Mul c = wrapping_mul_is w128 c.args.a c.args.b c.ranges.a c.ranges.b ∙ ap (λ n. combined n c.args.a c.args.b) (sym c.in-Mul.is)
