use Rattle.wam_code.proofs.Effect.{step_safe}
use Rattle.wam_code.proofs.CodeRegions.{entry_covered, query_covered, has_state}
use Rattle.wam_code.proofs.laws.steps_are_safe.Goals as goal

pub returns : goal.returns
returns c = record { step = step_safe; entry = entry_covered; query = query_covered; state = has_state }
