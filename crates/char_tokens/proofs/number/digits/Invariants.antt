use Rattle.std.proofs.Common.{◌≡◌, ◌+◌, length}
use denote.Text.{Utf8}
use denote.Shadow.{shadow}
use Rattle.std.specs.Str.{chars}
use Rattle.fd_language.specs.Characters.{is_digit_of, run_size, past_run}
use Rattle.char_tokens.proofs.Runs.{IsAt}
use Rattle.char_tokens.proofs.Digits.{SoFar}
use Rattle.char_tokens.proofs.number.digits.Given as goal

abbrev pub invariant-loop-c : goal.invariant-loop-c
invariant-loop-c l = record {
  utf8 : shadow (Utf8 l.rest);
  at : IsAt l.text l.size l.rest;
  size : l.size + run_size (is_digit_of l.base) (chars l.rest) ≡ run_size (is_digit_of l.base) (chars l.text);
  past : past_run (is_digit_of l.base) (chars l.rest) ≡ past_run (is_digit_of l.base) (chars l.text);
  value : SoFar l.base l.value (chars l.rest) (chars l.text);
}

abbrev pub decreases-loop-c : goal.decreases-loop-c
decreases-loop-c l = length l.rest
