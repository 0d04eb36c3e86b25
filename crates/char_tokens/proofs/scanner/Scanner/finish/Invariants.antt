use Rattle.std.proofs.Common.{length}
use Rattle.char_tokens.proofs.NextTokens.{Decides}
use Rattle.char_tokens.proofs.scanner.Scanner.finish.Given as goal

abbrev pub invariant-loop : goal.invariant-loop
invariant-loop l = Decides l.fn.self l.scanner

abbrev pub decreases-loop : goal.decreases-loop
decreases-loop l = length l.scanner.bytes
