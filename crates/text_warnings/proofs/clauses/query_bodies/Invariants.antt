use Rattle.std.proofs.Common.{◌≡◌, ◌<◌, take, map, length}
use Rattle.std.specs.Prelude.{All}
use Rattle.std.specs.List.{flat_map}
use Rattle.term_pool.specs.PlacedTerms.{placed_of}
use Rattle.term_reader.specs.Sentences.{sentence_of}
use Rattle.text_warnings.specs.Clauses.{calls_of, query_calls}
use Rattle.text_warnings.proofs.clauses.query_bodies.Given as goal

abbrev pub invariant-loop-sentence : goal.invariant-loop-sentence
invariant-loop-sentence l = record {
  own : All (λ b. b.number < length l.sentences.pool.entries) l.bodies.items;
  kept : flat_map (λ b. calls_of (placed_of l.sentences.pool b)) l.bodies.items ≡ query_calls (map (sentence_of l.sentences.pool) (take l.sentence-index l.sentences.list.items));
}
