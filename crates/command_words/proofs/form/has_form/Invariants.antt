use Rattle.std.proofs.Common.{◌≡◌, map, string_bytes, length}
use Rattle.command_words.specs.Words as form
use Rattle.command_words.proofs.form.has_form.Given as goal

abbrev pub invariant-loop-left : goal.invariant-loop-left
invariant-loop-left l = form.has_form (map string_bytes l.left) ≡ form.has_form (map string_bytes l.words)

abbrev pub decreases-loop-left : goal.decreases-loop-left
decreases-loop-left l = length l.left
