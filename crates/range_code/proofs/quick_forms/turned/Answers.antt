use Rattle.std.proofs.Common.{rules, SFits, to_z-of_z}
use mir.Syntax.{w64}
use Rattle.range_code.proofs.QuickSets.{turned_quick}
use Rattle.range_code.proofs.quick_forms.turned.Goals as goal

pub returns : goal.returns
returns c r a v h =
    let f : SFits w64 c.in_ok-least.least.constant = search rules in
    simp to_z-of_z (turned_quick r c.args.args.now a v c.args.low.now c.args.high.now h c.in_ok-least.least c.in_ok-greatest.greatest c.in_ok-variable.variable
    c.in_ok-variable.ensures (search rules) (search rules) c.in_ok-greatest.ensures c.in_ok-least.ensures)
