use Rattle.std.proofs.Common.{take, map}
use Rattle.term_reader.specs.Sentences.{sentence_of}
use Rattle.text_warnings.specs.OpenVariables.{open_variables}
use Rattle.text_warnings.specs.WarningViews.{Adds}
use Rattle.text_warnings.proofs.open_variables.put_open_variables.Given as goal

abbrev pub invariant-loop-sentence : goal.invariant-loop-sentence
invariant-loop-sentence l = Adds l.sentences.pool (open_variables (map (sentence_of l.sentences.pool) (take l.sentence-index l.sentences.list.items))) l.initial.warnings.items l.warnings.items
