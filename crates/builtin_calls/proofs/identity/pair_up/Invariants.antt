use Rattle.std.proofs.Common.{◌++◌, drop}
use Rattle.std.specs.Prelude.{reverse, option_to_list}
use Rattle.fd_language.specs.Family.{Family}
use Rattle.builtin_calls.specs.Identity.{paired, IsSettled}
use Rattle.builtin_calls.proofs.identity.pair_up.Given as goal

abbrev pub invariant-loop-i : goal.invariant-loop-i
invariant-loop-i l = (G : Family) → IsSettled l.heap.now G (l.fn.work.items ++ reverse (paired (drop l.i l.left) (drop l.i l.right))) (l.work.items ++ option_to_list l.next)
