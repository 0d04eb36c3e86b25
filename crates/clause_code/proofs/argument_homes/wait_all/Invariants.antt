use Rattle.std.proofs.Common.{◌≡◌, ◌+◌, [], length}
use Rattle.clause_code.proofs.ArgumentHomes.{HeadWaiting}
use Rattle.clause_code.proofs.argument_homes.wait_all.Given as goal

abbrev pub invariant-loop-id : goal.invariant-loop-id
invariant-loop-id l = record {
  waiting : HeadWaiting l.pool (length l.ids) l.first l.ids l.fn.homes.items l.homes.items l.register l.id-index;
  register : l.register ≡ l.id-index + 1;
  terms : l.terms.items ≡ [];
}
