-- A line of a text of bytes.
use Rattle.std.specs.Prelude.{ℕ, List}
use Rattle.std.specs.List.{before_first}
use Rattle.byte_ports.specs.Lines.{is_newline}

-- a line without the newline that ends it
abbrev pub without_newline : List ℕ → List ℕ
without_newline line = before_first is_newline line
