use Rattle.std.proofs.Common.{take}
use Rattle.text_warnings.proofs.ReachedNumbers.{HasPut}
use Rattle.text_warnings.proofs.reach.insert_all.Given as goal

abbrev pub invariant-loop-number : goal.invariant-loop-number
invariant-loop-number l = HasPut l.initial.reached.keys (take l.number-index l.numbers) l.reached.keys
