use Rattle.std.proofs.Common.{◌≡◌, take, map}
use Rattle.std.specs.Prelude.{All}
use Rattle.term_reader.specs.Sentences.{sentence_of}
use Rattle.text_warnings.specs.Clauses.{clauses_in}
use Rattle.text_warnings.specs.WarningViews.{clause_in, IsOwn}
use Rattle.text_warnings.proofs.clauses.clauses_of.Given as goal

abbrev pub invariant-loop-sentence : goal.invariant-loop-sentence
invariant-loop-sentence l = record {
  own : All (IsOwn l.sentences.pool) l.clauses.items;
  kept : map (clause_in l.sentences.pool) l.clauses.items ≡ clauses_in (map (sentence_of l.sentences.pool) (take l.sentence-index l.sentences.list.items));
}
