-- The place of a byte in a text: its line, its column, and what is shown of its line. Places count from 0, lines and columns from 1.
-- A place past the text's end is the text's end.
use Rattle.std.specs.Prelude.{ℕ, ◌+◌, ◌-◌, false, List, [], ◌++◌, length, take, drop, map, count_by, nat_lt, replicate, chars, encode_utf8_all, codes}
use Rattle.std.specs.Prelude.{if◌then◌else◌}
use Rattle.std.specs.Char.{is_control}
use Rattle.std.specs.List.{after_last, before_first}
use Rattle.std.specs.Str.Lossy.{utf8_lossy}
use Rattle.unicode_width.specs.Width.{str_width}
use Rattle.byte_ports.specs.Lines.{is_newline}

-- one more than the newlines before the place
abbrev pub line_number : List ℕ → ℕ → ℕ
line_number text place = 1 + count_by is_newline (take place text)

-- what stands in the place's line before the place
abbrev pub before_place : List ℕ → ℕ → List ℕ
before_place text place = after_last is_newline (take place text)

-- what stands in it from the place on
abbrev pub from_place : List ℕ → ℕ → List ℕ
from_place text place = before_first is_newline (drop place text)

-- bytes as characters; each sequence that isn't UTF-8 is the one character U+FFFD
abbrev pub characters : List ℕ → List ℕ
characters bytes = chars (utf8_lossy bytes)

-- one more than the characters of the line before the place
abbrev pub column_number : List ℕ → ℕ → ℕ
column_number text place = 1 + length (characters (before_place text place))

-- ---- what is shown of the line

-- a control character is shown as a space, a tab too
abbrev pub shown_character : ℕ → ℕ
shown_character c = if is_control c then 32 else c

abbrev pub shown_characters : List ℕ → List ℕ
shown_characters cs = encode_utf8_all (map shown_character cs)

-- the most characters that are shown on either side of the place
abbrev pub shown_limit : ℕ
shown_limit = 60

-- where more than so many stand there
abbrev pub cut_mark : ℕ → List ℕ
cut_mark count = if nat_lt shown_limit count then codes "..." else []

-- of the characters before the place the last
abbrev pub shown_before : List ℕ → List ℕ
shown_before cs = cut_mark (length cs) ++ shown_characters (drop (length cs - shown_limit) cs)

-- of those from the place on the first
abbrev pub shown_from : List ℕ → List ℕ
shown_from cs = shown_characters (take shown_limit cs) ++ cut_mark (length cs)

-- as many spaces as a text takes columns of a terminal
abbrev pub indent : List ℕ → List ℕ
indent shown = replicate (str_width false (chars shown)) 32
