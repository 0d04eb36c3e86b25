use Rattle.std.proofs.Common.{take, map}
use Rattle.term_reader.specs.Sentences.{sentence_of}
use Rattle.text_warnings.specs.SilentLosses.{losses}
use Rattle.text_warnings.specs.WarningViews.{Adds}
use Rattle.text_warnings.proofs.losses.put_losses.Given as goal

abbrev pub invariant-loop-sentence : goal.invariant-loop-sentence
invariant-loop-sentence l = Adds l.sentences.pool (losses (map (sentence_of l.sentences.pool) (take l.sentence-index l.sentences.list.items))) l.initial.warnings.items l.warnings.items
