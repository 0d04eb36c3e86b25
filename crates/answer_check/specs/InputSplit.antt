-- An input split at the line that begins its second part.
use Rattle.std.specs.Prelude.{◌≡◌, ℕ, ◌+◌, ◌≤◌, List, ◌++◌, length, take, drop, Some}
use Rattle.byte_ports.specs.Lines.{lines_of}
use Rattle.answer_check.specs.Parts.{parts_of, query_line}

-- the line stands at this place
pub record IsSplitAt (input : List ℕ) (at : ℕ) : Type 0 where
  pub stands : drop at input ≡ query_line ++ drop (at + length query_line) input
  pub within : at + length query_line ≤ length input
  pub parts : parts_of input ≡ Some (record { text = take at input; lines = lines_of (drop (at + length query_line) input) })
