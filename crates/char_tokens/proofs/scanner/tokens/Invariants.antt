use Rattle.std.proofs.Common.{length}
use Rattle.char_tokens.specs.Views.{lexemes}
use Rattle.char_tokens.proofs.NextTokens.{Completes}
use Rattle.char_tokens.proofs.scanner.tokens.Given as goal

abbrev pub invariant-loop-found : goal.invariant-loop-found
invariant-loop-found l = Completes l.text l.scanner (lexemes l.found.items)

abbrev pub decreases-loop-found : goal.decreases-loop-found
decreases-loop-found l = length l.scanner.bytes
