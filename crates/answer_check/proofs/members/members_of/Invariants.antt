use Rattle.std.proofs.Common.{◌≡◌, ◌<◌, length}
use Rattle.term_pool.specs.Terms.{term_of}
use Rattle.answer_check.specs.Members.{members_in}
use Rattle.answer_check.proofs.MemberTerms.{behind_members}
use Rattle.answer_check.proofs.members.members_of.Given as goal

abbrev pub invariant-loop-head : goal.invariant-loop-head
invariant-loop-head l = record {
  within : l.rest.number < length l.pool.entries;
  members : behind_members l.members.items (members_in (term_of l.pool l.rest)) ≡ members_in (term_of l.pool l.fn.list);
}

abbrev pub decreases-loop-head : goal.decreases-loop-head
decreases-loop-head l = l.rest.number
