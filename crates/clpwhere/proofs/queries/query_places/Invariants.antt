use Rattle.std.proofs.Common.{◌≡◌, take, map}
use Rattle.term_reader.specs.Sentences.{sentence_of}
use Rattle.clpwhere.specs.Queries.{query_places}
use Rattle.clpwhere.proofs.queries.query_places.Given as goal

abbrev pub invariant-loop-sentence : goal.invariant-loop-sentence
invariant-loop-sentence l = l.places.items ≡ query_places (map (sentence_of l.sentences.pool) (take l.sentence-index l.sentences.list.items))
