use Rattle.domain_ranges.proofs.Inclusion.{left_of}
use Rattle.domain_ranges.proofs.Domain.narrowed_by.Goals as goal

pub returns-in-Some-clause-narrowed : goal.returns-in-Some-clause-narrowed
returns-in-Some-clause-narrowed c = (
  c.in_ok-left.ensures.set,
  c.in-Some.ensures.some,
  left_of c.args.self.now c.args.other.now c.in_ok-left.left c.in_ok-left.ensures.set (c.is_inside.ensures.outside c.if-is_inside.false),
)
