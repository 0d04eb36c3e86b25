use Rattle.std.proofs.Common.{ℕ, ◌<◌, ◌≡◌, get_or, false}
use Rattle.fd_language.specs.declared.TheConstants.{INFINITY}
use Rattle.fd_language.specs.Family.{IsRising, universe}
use Rattle.fd_language.specs.Range.{is_none_left}
use Rattle.store_tests.proofs.range_codes.are_some.Given as goal

abbrev pub invariant-loop-domain : goal.invariant-loop-domain
invariant-loop-domain l = (k : ℕ) → k < l.domain-index → (is_none_left (get_or l.domains k (universe INFINITY)) ≡ false) × IsRising 0 INFINITY (get_or l.domains k (universe INFINITY))
