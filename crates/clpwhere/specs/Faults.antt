-- Why a text isn't read, as the code tells it.
use Rattle.std.specs.Prelude.{◌≡◌, ℕ, List, Some}
use Rattle.fd_language.specs.Reading.{Reading, IsReading}
use Rattle.fd_model.specs.Refusals.{refused_at}
use Rattle.clpwhere.specs.declared.warnings.Unread.{Unread}
use Rattle.clpwhere.specs.declared.warnings.Unread.TheVariants.{Refused, NoMemory}
use Rattle.clpwhere.specs.WarnedLines.{reading_fault, IsUnread}

-- the first fault of a text of characters, or want of memory
abbrev pub IsGrammarFault : List ℕ → Unread → Type 0
IsGrammarFault text (Refused place reason) = (v : Reading) × IsReading text v × (reading_fault v ≡ Some (refused_at place reason.now))
IsGrammarFault text NoMemory = Unit {0}

-- the fault of a text of bytes, or want of memory
abbrev pub IsUnreadBy : List ℕ → Unread → Type 0
IsUnreadBy text (Refused place reason) = IsUnread text (refused_at place reason.now)
IsUnreadBy text NoMemory = Unit {0}
