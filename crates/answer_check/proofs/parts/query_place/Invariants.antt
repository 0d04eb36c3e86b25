use Rattle.std.proofs.Common.{◌≡◌, ◌-◌, ◌≤◌, length}
use Rattle.answer_check.specs.Parts.{parts_of}
use Rattle.answer_check.proofs.Lines.{parts_from}
use Rattle.answer_check.proofs.parts.query_place.Given as goal

abbrev pub invariant-loop-at : goal.invariant-loop-at
invariant-loop-at l = record { within : l.at ≤ length l.input; parts : parts_of l.input ≡ parts_from l.input l.at }

abbrev pub decreases-loop-at : goal.decreases-loop-at
decreases-loop-at l = length l.input - l.at
