use Rattle.std.proofs.Common.{◌≡◌, ◌++◌, length}
use denote.Text.{Utf8}
use denote.Shadow.{shadow}
use Rattle.std.specs.Str.{chars, encode_utf8_all}
use Rattle.std.specs.String.{string_bytes}
use Rattle.fd_language.specs.Tokens.{quoted_spells, unquoted}
use Rattle.char_tokens.specs.Views.{inside_of, IsHeld}
use Rattle.char_tokens.proofs.quotation.unquote.Given as goal

abbrev pub invariant-loop-c : goal.invariant-loop-c
invariant-loop-c l = record {
  utf8 : shadow (Utf8 l.rest);
  held : IsHeld 0 l.place;
  same : string_bytes l.spelling ++ encode_utf8_all (quoted_spells (inside_of l.place) (chars l.rest)) ≡ unquoted l.text;
}

abbrev pub decreases-loop-c : goal.decreases-loop-c
decreases-loop-c l = length l.rest
