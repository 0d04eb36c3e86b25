use Rattle.std.proofs.Common.{take, map}
use Rattle.term_pool.specs.PlacedTerms.{placed_of}
use Rattle.clause_check.specs.Heads.{AreHeadsOf}
use Rattle.clause_check.proofs.heads.collect_heads.Given as goal

abbrev pub invariant-loop-sentence : goal.invariant-loop-sentence
invariant-loop-sentence l = AreHeadsOf l.sentences.pool (map (λ x. placed_of l.sentences.pool x.term) (take l.sentence-index l.sentences.list.items)) l.heads.keys
