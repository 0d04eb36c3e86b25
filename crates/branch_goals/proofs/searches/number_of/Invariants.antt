use Rattle.std.proofs.Common.{◌≡◌, false, take}
use Rattle.fd_language.specs.Family.{has}
use Rattle.branch_goals.specs.Searches.{firsts}
use Rattle.branch_goals.proofs.searches.number_of.Given as goal

abbrev pub invariant-loop-own : goal.invariant-loop-own
invariant-loop-own l = has (firsts (take l.own-index l.fn.open_ones)) l.fn.variable ≡ false
