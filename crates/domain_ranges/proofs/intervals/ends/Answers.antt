use Rattle.std.proofs.Common.{refl}
use Rattle.domain_ranges.proofs.Ends.{no_ends, some_ends}
use Rattle.domain_ranges.proofs.intervals.ends.Goals as goal

pub returns-in-empty : goal.returns-in-empty
returns-in-empty c = no_ends c.args.spans.now c.requires c.in-empty.len_below

pub returns-in-len1-up : goal.returns-in-len1-up
returns-in-len1-up c = some_ends c.args.spans.now _ _ c.requires c.in-len1-up.len_at_least refl refl
