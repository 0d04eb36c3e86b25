use Rattle.std.proofs.Common.{◌≡◌, ◌++◌, take}
use Rattle.wam_code.specs.VerifiedCode.{arms}
use Rattle.code_flow.proofs.successor_places.put_arms.Given as goal

abbrev pub invariant-loop-index : goal.invariant-loop-index
invariant-loop-index l = l.named.items ≡ l.initial.named.items ++ arms (take l.index l.rows)
