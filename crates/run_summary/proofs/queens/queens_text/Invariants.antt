use Rattle.std.proofs.Common.{◌≡◌, ◌++◌, ◌+◌, ◌-◌, codes, string_bytes}
use Rattle.run_summary.proofs.QueensText.{before_names, more_names}
use Rattle.run_summary.proofs.queens.queens_text.Given as goal

-- the names so far, and those still to come
abbrev pub invariant-loop-k : goal.invariant-loop-k
invariant-loop-k l =
    string_bytes l.text ++ more_names l.k (l.fn.n + 1 - l.k) ≡ before_names ++ (codes "_Q1" ++ more_names 2 (l.fn.n - 1))
