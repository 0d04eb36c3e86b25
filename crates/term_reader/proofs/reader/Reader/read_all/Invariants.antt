use Rattle.std.proofs.Common.{length}
use Rattle.term_reader.proofs.Texts.{ReadUpTo}
use Rattle.term_reader.proofs.reader.Reader.read_all.Given as goal

abbrev pub invariant-loop-token : goal.invariant-loop-token
invariant-loop-token l = ReadUpTo l.text l.scanner l.depth l.self

abbrev pub decreases-loop-token : goal.decreases-loop-token
decreases-loop-token l = length l.scanner.bytes
