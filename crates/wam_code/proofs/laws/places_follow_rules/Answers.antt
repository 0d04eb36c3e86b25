use Rattle.wam_code.proofs.Steps.{at_place, from_rule, from_learning, from_restating}
use Rattle.wam_code.proofs.laws.places_follow_rules.Goals as goal

pub returns : goal.returns
returns c = record { there = at_place; back = from_rule; learning = from_learning; restating = from_restating }
