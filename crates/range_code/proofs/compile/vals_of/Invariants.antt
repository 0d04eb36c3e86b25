use Rattle.std.proofs.Common.{◌≡◌, nat_eq, filter}
use Rattle.std.specs.List.{list_any}
use Rattle.fd_language.specs.Family.{count_up}
use Rattle.range_code.proofs.compile.vals_of.Given as goal

abbrev pub invariant-loop-slot : goal.invariant-loop-slot
invariant-loop-slot l = l.vals.items ≡ filter (λ s. list_any (nat_eq s) l.val.keys) (count_up 0 l.slot-counter)
