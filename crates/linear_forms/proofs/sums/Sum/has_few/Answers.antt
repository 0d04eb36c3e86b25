use Rattle.std.proofs.Common.{arith}
use Rattle.std.specs.Map.{values_of}
use Rattle.std.proofs.lemmas.Map.Entries.{length-values_of}
use Rattle.std.proofs.lemmas.Bool.Decides.{nat_tests}
use Rattle.linear_forms.proofs.Loops.{count_short}
use Rattle.linear_forms.proofs.sums.Sum.has_few.Goals as goal

pub returns-then-len-most : goal.returns-then-len-most
returns-then-len-most c =
    let es = c.args.self.now.terms.entries in
    let short = count_short (values_of es) in
    let same = length-values_of es in
    grind (arith, nat_tests)
