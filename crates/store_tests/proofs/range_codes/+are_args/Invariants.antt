use Rattle.std.proofs.Common.{length}
use Rattle.store_tests.proofs.range_codes.+are_args.Given as goal

abbrev pub decreases-are_args : goal.decreases-are_args
decreases-are_args l = length l.needs.now
