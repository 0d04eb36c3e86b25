-- The statements of the laws of the grammar.
use Rattle.std.specs.Prelude.{◌≡◌, ℕ, List}
use Rattle.fd_language.specs.PlacedTerm.{PlacedTerm}
use Rattle.fd_language.specs.Terminals.{Terminal}
use Rattle.fd_language.specs.Grammar.{IsText}
use Rattle.fd_language.specs.Reading.{Reading, IsReading}

-- a list of tokens is at most one list of terms
abbrev pub OneReading : Type 0
OneReading = (ts : List Terminal) (xs ys : List PlacedTerm) → IsText ts xs → IsText ts ys → xs ≡ ys

-- a text is one thing
abbrev pub OneVerdictOfReading : Type 0
OneVerdictOfReading = (text : List ℕ) (v w : Reading) → IsReading text v → IsReading text w → v ≡ w
