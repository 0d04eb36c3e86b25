use Rattle.std.proofs.Common.{◌≡◌, map, string_bytes, length}
use Rattle.command_words.specs.Words as form
use Rattle.command_words.proofs.form.is_named.Given as goal

abbrev pub invariant-loop-left : goal.invariant-loop-left
invariant-loop-left l = form.value_behind l.name (map string_bytes l.left) ≡ form.value_behind l.name (map string_bytes l.words)

abbrev pub decreases-loop-left : goal.decreases-loop-left
decreases-loop-left l = length l.left
