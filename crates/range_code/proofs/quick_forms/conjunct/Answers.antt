use Rattle.std.proofs.Common.{rules}
use Rattle.range_code.proofs.QuickSets.{conjunct_quick}
use Rattle.range_code.proofs.quick_forms.conjunct.Goals as goal

pub returns : goal.returns
returns c r a v h = conjunct_quick r c.args.args.now a v c.args.low.now c.args.high.now h c.in_ok-least.least c.in_ok-rest.rest c.in_ok-one.one c.in_ok-other.other
    c.in_ok-one.ensures c.in_ok-other.ensures (search rules) (search rules) (search rules) c.in_ok-least.ensures c.in_ok-rest.ensures
