use Rattle.std.proofs.Common.{rules}
use Rattle.range_code.proofs.QuickSets.{disjunct_quick}
use Rattle.range_code.proofs.quick_forms.disjunct.Goals as goal

pub returns : goal.returns
returns c r a v h = disjunct_quick r c.args.args.now a v c.args.low.now c.args.high.now h c.in_ok-greatest.greatest c.in_ok-rest.rest c.in_ok-one.one c.in_ok-other.other
    c.in_ok-one.ensures c.in_ok-other.ensures (search rules) (search rules) (search rules) c.in_ok-rest.ensures c.in_ok-greatest.ensures
