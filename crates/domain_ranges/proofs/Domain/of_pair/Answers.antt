use Rattle.domain_ranges.proofs.Ends.{pair_ends}
use Rattle.domain_ranges.proofs.Domain.of_pair.Goals as goal

pub invariant_of-result : goal.invariant_of-result
invariant_of-result c = pair_ends c.args.first c.args.second _ c.requires.first c.requires.apart c.requires.second c.requires.high c.from_buf_and_len.ensures.items
