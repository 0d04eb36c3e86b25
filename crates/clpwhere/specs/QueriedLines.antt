-- What is written of lines, where the number of the query that the first of them belongs to is known.
use Rattle.std.specs.Prelude.{◌||◌, ℕ, Bool, false, List, [], ◌∷◌, ◌++◌, Option}
use Rattle.std.specs.Option.{option_or}
use Rattle.byte_ports.specs.Lines.{lines_of}
use Rattle.clpwhere.specs.Parts.{QueriedParts}
use Rattle.clpwhere.specs.FaultLines.{query_number}
use Rattle.clpwhere.specs.MarkedLines.{is_explained, marked_line}

-- the number of the query that the line behind this one belongs to
abbrev pub query_after : Option ℕ → List ℕ → Option ℕ
query_after query line = option_or (query_number line) query

abbrev pub marked_lines : QueriedParts → Option ℕ → List (List ℕ) → List ℕ
marked_lines t query [] = []
marked_lines t query (line ∷ lines) = marked_line t query line ++ marked_lines t (query_after query line) lines

-- of bytes
abbrev pub marked_from : QueriedParts → Option ℕ → List ℕ → List ℕ
marked_from t query bytes = marked_lines t query (lines_of bytes)

abbrev pub tells_lines : QueriedParts → Option ℕ → List (List ℕ) → Bool
tells_lines t query [] = false
tells_lines t query (line ∷ lines) = is_explained t query line || tells_lines t (query_after query line) lines

abbrev pub tells_from : QueriedParts → Option ℕ → List ℕ → Bool
tells_from t query bytes = tells_lines t query (lines_of bytes)
