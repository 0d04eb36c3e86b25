use Rattle.std.proofs.Common.{◌<◌, length}
use Rattle.std.specs.Prelude.{All}
use Rattle.text_tests.proofs.sentences.show_term.Given as goal

abbrev pub invariant-loop : goal.invariant-loop
invariant-loop l = All (λ t. t.number < length l.pool.entries) l.ahead.items
