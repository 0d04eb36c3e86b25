-- The statements of the laws of the reader.
use Rattle.std.specs.Prelude.{ℕ, List}
use Rattle.fd_language.specs.Reading.{Reading, IsReading}

-- each text is sentences, or has a first fault
abbrev pub EachIsRead : Type 0
EachIsRead = (text : List ℕ) → (v : Reading) × IsReading text v
