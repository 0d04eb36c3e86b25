-- What quotes keep.
use Rattle.std.specs.Prelude.{◌≡◌, ℕ, List, ◌++◌, false, length, IsUtf8}
use Rattle.std.specs.Str.{chars}
use Rattle.fd_language.specs.Term.{Name}
use Rattle.fd_language.specs.Characters.{starts_with}
use Rattle.fd_language.specs.Tokens.{Token, Quoted, front_of, unquoted}
use Rattle.fd_language.specs.TermTexts.{quoted_name}

-- A name in quotes is one token, unless a quote follows it, and spells the name.
pub record QuotedIsRead : Type 0 where
  pub token : (a : Name) (r : List ℕ) → IsUtf8 a → starts_with 39 (chars r) ≡ false → front_of (quoted_name a ++ r) ≡ Token Quoted (length (quoted_name a))
  pub name : (a : Name) → IsUtf8 a → unquoted (quoted_name a) ≡ a
