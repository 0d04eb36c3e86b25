use Rattle.std.proofs.Common.{map, drop}
use Rattle.constraint_expand.specs.Lists.{member_of, Placing}
use Rattle.constraint_expand.proofs.members.place_all.Given as goal

abbrev pub invariant-loop-member : goal.invariant-loop-member
invariant-loop-member l = Placing l.fresh (map member_of l.members) l.placed (map member_of (drop l.member-index l.members))
