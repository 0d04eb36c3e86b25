-- The number of a line by that of a line before it.
use Rattle.std.proofs.Common.{◌≡◌, ℕ, ◌+◌, ◌≤◌, cond, List, take, drop, sym, ap, ◌∙◌, arith}
use Rattle.std.specs.Prelude.{count_by}
use Rattle.std.proofs.lemmas.List.{take-append-drop, take-take}
use Rattle.std.proofs.lemmas.List.Sums.{sum_by-append}
use Rattle.byte_ports.specs.Lines.{is_newline}
use Rattle.clpwhere.specs.Places.{line_number}

-- The newlines between two places are more.
pub lines_between : (bytes : List ℕ) (from to : ℕ) → from ≤ to → line_number bytes from + count_by is_newline (drop from (take to bytes)) ≡ line_number bytes to
lines_between bytes from to h =
    let front : take from (take to bytes) ≡ take from bytes = take-take from to bytes h in
    let split : count_by is_newline (take to bytes) ≡ count_by is_newline (take from bytes) + count_by is_newline (drop from (take to bytes)) =
    ap (count_by is_newline) (sym (take-append-drop from (take to bytes)))
    ∙ sum_by-append (λ b. cond (is_newline b) 1 0) (take from (take to bytes)) (drop from (take to bytes))
    ∙ ap (λ l. count_by is_newline l + count_by is_newline (drop from (take to bytes))) front in
    omega (arith, split)
