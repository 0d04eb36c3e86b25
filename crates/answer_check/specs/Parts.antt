-- The two parts of an input: a query's text, and behind the line `query 1` what was written for it.
use Rattle.std.specs.Prelude.{ℕ, ◌+◌, List, [], ◌∷◌, ◌++◌, length, Option, Some, None, option_map, codes, if◌then◌else◌}
use Rattle.std.specs.Str.{bytes_eq}
use Rattle.byte_ports.specs.Lines.{lines_of}

pub record Parts : Type 0 where
  pub text : List ℕ
  pub lines : List (List ℕ)

-- the line that begins the second part
abbrev pub query_line : List ℕ
query_line = codes "query 1\n"

abbrev pub with_line : List ℕ → Parts → Parts
with_line l p = record { text = l ++ p.text; lines = p.lines }

-- the lines in front of the first that is that line, and those behind it
abbrev pub parts_in : List (List ℕ) → Option Parts
parts_in [] = None
parts_in (l ∷ ls) = if bytes_eq l query_line then Some (record { text = []; lines = ls }) else option_map (with_line l) (parts_in ls)

abbrev pub parts_of : List ℕ → Option Parts
parts_of input = parts_in (lines_of input)

-- the place of the first line of the second part behind that line
abbrev pub place_behind : Parts → ℕ
place_behind p = length p.text + length query_line
