use Rattle.std.proofs.Common.{◌≡◌, ◌≤◌, ℕ, length}
use Rattle.fd_language.specs.declared.TheConstants.{INFINITY}
use Rattle.domain_ranges.specs.Spans.{within, IsSpans}
use Rattle.range_code.proofs.choice.spans_from.Given as goal

abbrev pub invariant-skipping : goal.invariant-skipping
invariant-skipping l = record {
  spans : IsSpans 0 INFINITY l.rest;
  same : (n : ℕ) → l.number ≤ n → within l.rest n ≡ within l.spans n;
}

abbrev pub decreases-skipping : goal.decreases-skipping
decreases-skipping l = length l.rest
