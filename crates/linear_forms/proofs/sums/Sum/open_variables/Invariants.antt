use Rattle.std.proofs.Common.{◌≡◌, ◌+◌}
use Rattle.std.specs.Map.{values_of}
use Rattle.linear_forms.specs.Shares.{open_count}
use Rattle.linear_forms.proofs.sums.Sum.open_variables.Given as goal

abbrev pub invariant-loop-share : goal.invariant-loop-share
invariant-loop-share l = l.open + open_count l.share-iterator ≡ open_count (values_of l.self.terms.entries)
