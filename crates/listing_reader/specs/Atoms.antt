-- The names of atoms as they stand in a line.
use Rattle.std.specs.Prelude.{ℕ, List, if◌then◌else◌}
use Rattle.fd_language.specs.Characters.{starts_with}
use Rattle.fd_language.specs.Term.{Name}
use Rattle.fd_language.specs.Tokens.{unquoted}

-- The name that a line writes, in quotes or bare, if it writes one.
abbrev pub written_name : List ℕ → Name
written_name line = if starts_with 39 line then unquoted line else line
