use Rattle.std.proofs.Common.{length}
use Rattle.range_code.specs.Choices.{IsChoosing}
use Rattle.range_code.proofs.choice.read_choice.Given as goal

abbrev pub invariant-parts : goal.invariant-parts
invariant-parts l = IsChoosing l.nodes l.slot l.pairs.items l.rest

abbrev pub decreases-parts : goal.decreases-parts
decreases-parts l = length l.rest
