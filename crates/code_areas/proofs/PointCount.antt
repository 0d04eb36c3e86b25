-- How many choice points are seen.
use Rattle.std.proofs.Common.{◌≡◌, suc, List, [], ◌∷◌, length, take, refl, ap}
use Rattle.code_areas.specs.declared.Frame.{Frame}
use Rattle.code_areas.specs.declared.Mark.{Mark}
use Rattle.code_areas.specs.Areas.{Places}
use Rattle.code_areas.specs.AreaFields.{points_of}

pub count : (ms : List Mark) (saved slots : Places) (frames : List Frame) → length (points_of ms saved slots frames) ≡ length ms
count [] saved slots frames = refl
count (m ∷ ms) saved slots frames = ap suc (count ms (take m.first saved) (take m.slots slots) (take m.frames frames))
