-- The lines that are neither a listing nor the output of queries.
use Rattle.std.specs.Prelude.{ℕ, List, ◌++◌, codes, decimal}
use Rattle.fd_model.specs.Lines.{line}

-- the line that refused words have
abbrev pub usage : List ℕ
usage = line (codes "usage: clpcode list|load")

-- the line of a listing that is refused: the number of its first bad line, from 1 on, and why
abbrev pub refusal_line : ℕ → List ℕ → List ℕ
refusal_line number reason = codes "refused at line " ++ (decimal number ++ (codes ": " ++ (reason ++ codes "\n")))
