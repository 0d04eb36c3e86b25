use Rattle.std.proofs.Common.{◌≡◌, length}
use denote.Text.{Utf8}
use denote.Shadow.{shadow}
use Rattle.std.specs.Str.{chars}
use Rattle.fd_language.specs.Characters.{tail}
use Rattle.fd_language.specs.Tokens.{comment_front}
use Rattle.char_tokens.proofs.Runs.{IsAt}
use Rattle.char_tokens.proofs.comment.comment.Given as goal

abbrev pub invariant-loop-c : goal.invariant-loop-c
invariant-loop-c l = record {
  utf8 : shadow (Utf8 l.rest);
  at : IsAt l.text l.size l.rest;
  same : comment_front l.size (chars l.rest) ≡ comment_front 2 (tail (chars l.behind));
}

abbrev pub decreases-loop-c : goal.decreases-loop-c
decreases-loop-c l = length l.rest
