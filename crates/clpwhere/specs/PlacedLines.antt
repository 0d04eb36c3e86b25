-- The line of a place, as the program keeps it.
use Rattle.std.specs.Prelude.{◌≡◌, ◌≤◌, ℕ, ◌-◌, true, false, List, length, take, drop}
use Rattle.std.specs.List.{list_any}
use Rattle.std.specs.Str.{IsUtf8}
use Rattle.byte_ports.specs.Lines.{is_newline}
use Rattle.clpwhere.specs.declared.placed_line.PlacedLine.{PlacedLine}
use Rattle.clpwhere.specs.Places.{line_number, before_place, from_place, characters}

-- the line of the place of a text: its number, its characters before the place and those from it on
pub record IsLineOf (bytes : List ℕ) (place : ℕ) (line : PlacedLine) : Type 0 where
  pub number : line.number ≡ line_number bytes place
  pub within : line.at ≤ length line.characters.items
  pub before : take line.at line.characters.items ≡ characters (before_place bytes place)
  pub rest : drop line.at line.characters.items ≡ characters (from_place bytes place)
  pub text : line.is_text ≡ true → IsUtf8 (before_place bytes place) × IsUtf8 (from_place bytes place)

-- what stands between two places of one line that is UTF-8
pub record IsPart (bytes : List ℕ) (from place : ℕ) (line : PlacedLine) (part : List ℕ) : Type 0 where
  pub text : line.is_text ≡ true
  pub within : place ≤ length bytes
  pub is : part ≡ take (place - from) (drop from bytes)
  pub whole : list_any is_newline part ≡ false
  pub utf8 : IsUtf8 part
