use Rattle.std.proofs.Common.{◌≡◌, take}
use Rattle.std.specs.List.{flat_map}
use Rattle.term_pool.specs.PlacedTerms.{placed_of}
use Rattle.text_warnings.specs.Clauses.{calls_of}
use Rattle.text_warnings.specs.Graphs.{numbers_in}
use Rattle.text_warnings.proofs.calls.starts_of.Given as goal

abbrev pub invariant-loop-body : goal.invariant-loop-body
invariant-loop-body l = l.starts.items ≡ numbers_in l.pool l.functors.keys (flat_map (λ b. calls_of (placed_of l.pool b)) (take l.body-index l.bodies))
