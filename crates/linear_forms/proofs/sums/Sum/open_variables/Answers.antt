use Rattle.std.proofs.Common.{arith}
use Rattle.std.specs.Map.{values_of}
use Rattle.std.proofs.lemmas.Map.Entries.{length-values_of}
use Rattle.linear_forms.proofs.Loops.{count_short}
use Rattle.linear_forms.proofs.sums.Sum.open_variables.Goals as goal

pub overflow_add-open : goal.overflow_add-open
overflow_add-open c =
    let es = c.args.self.now.terms.entries in
    omega (arith, count_short (values_of es), length-values_of es, c.values-share-items.ensures.fits)
