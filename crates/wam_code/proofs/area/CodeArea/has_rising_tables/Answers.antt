use Rattle.std.proofs.Common.{◌↔◌, IsTrue, subst}
use Rattle.wam_code.specs.Area.{Area}
use Rattle.wam_code.specs.Keys.{HasRisingTables}
use Rattle.wam_code.proofs.area.CodeArea.has_rising_tables.Goals as goal

pub returns : goal.returns
returns c = subst (λ (a : Area). IsTrue c.self.inside.rising ↔ HasRisingTables a) c.self.view_is c.self.invariant.1
