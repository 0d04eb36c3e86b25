use Rattle.std.proofs.Common.{◌≡◌, ◌+◌, length}
use denote.Text.{Utf8}
use denote.Shadow.{shadow}
use Rattle.std.specs.Str.{chars}
use Rattle.fd_language.specs.Characters.{run_size}
use Rattle.char_tokens.specs.Views.{passes}
use Rattle.char_tokens.proofs.Runs.{IsAt}
use Rattle.char_tokens.proofs.characters.run.Given as goal

abbrev pub invariant-loop-c : goal.invariant-loop-c
invariant-loop-c l = record {
  utf8 : shadow (Utf8 l.rest);
  at : IsAt l.text l.size l.rest;
  so_far : l.size + run_size (passes l.class) (chars l.rest) ≡ run_size (passes l.class) (chars l.text);
}

abbrev pub decreases-loop-c : goal.decreases-loop-c
decreases-loop-c l = length l.rest
