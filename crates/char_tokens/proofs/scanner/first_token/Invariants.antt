use Rattle.std.proofs.Common.{◌≡◌, ◌+◌, length, true}
use denote.Text.{Utf8}
use denote.Shadow.{shadow}
use Rattle.char_tokens.specs.NextTokens.{AreGaps}
use Rattle.char_tokens.proofs.scanner.first_token.Given as goal

abbrev pub invariant-loop-cause : goal.invariant-loop-cause
invariant-loop-cause l = record {
  utf8 : shadow (Utf8 l.rest);
  within : l.place + length l.rest ≡ l.from + length l.text;
  gaps : AreGaps l.from true l.text l.place l.tight l.rest;
}

abbrev pub decreases-loop-cause : goal.decreases-loop-cause
decreases-loop-cause l = length l.rest
