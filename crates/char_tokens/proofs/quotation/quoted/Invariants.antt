use Rattle.std.proofs.Common.{◌≡◌, length}
use denote.Text.{Utf8}
use denote.Shadow.{shadow}
use Rattle.std.specs.Str.{chars}
use Rattle.fd_language.specs.Tokens.{Between, quoted_front}
use Rattle.char_tokens.specs.Views.{inside_of, IsHeld}
use Rattle.char_tokens.proofs.Runs.{IsAt}
use Rattle.char_tokens.proofs.quotation.quoted.Given as goal

abbrev pub invariant-loop-c : goal.invariant-loop-c
invariant-loop-c l = record {
  utf8 : shadow (Utf8 l.rest);
  at : IsAt l.text l.size l.rest;
  held : IsHeld l.size l.place;
  same : quoted_front (inside_of l.place) l.size (chars l.rest) ≡ quoted_front Between 1 (chars l.behind);
}

abbrev pub decreases-loop-c : goal.decreases-loop-c
decreases-loop-c l = length l.rest
