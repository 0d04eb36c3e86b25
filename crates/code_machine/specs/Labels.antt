-- What is left at each choice point: the values of a labelling, or the place to come back to.
use Rattle.std.specs.Prelude.{◌≡◌, ◌⊎◌, ℕ, ◌<◌, ◌+◌, ◌==◌, ltb, if◌then◌else◌, List, [], ◌∷◌, length}
use Rattle.heap_cells.specs.Cells.{Cells}
use Rattle.wam_code.specs.Area.{Area}
use Rattle.code_areas.specs.Areas.{Point, Contents}
use Rattle.code_meaning.specs.MachineStates.{Left, resume}
use Rattle.code_safety.specs.Work.{work_at, work_back, values_work}
use Rattle.code_goals.specs.Values.{IsOpen, left_of}
use Rattle.code_machine.specs.declared.run.Label.{Label}

-- The points and the labels are the newest first. A label belongs to the point with so many older ones.
abbrev pub lefts_by : List Point → List Label → List Left
lefts_by [] ls = []
lefts_by (p ∷ ps) [] = resume p.place ∷ lefts_by ps []
lefts_by (p ∷ ps) (l ∷ ls) =
    if l.point == length ps then left_of p.place l.values ∷ lefts_by ps ls else resume p.place ∷ lefts_by ps (l ∷ ls)

-- Each label has a point of its own, and its variable is open on the point's heap. The heaps are those of the points, in the same order.
abbrev pub AreLabels : Area → List Point → List Cells → List Label → Type 0
AreLabels area ps hs [] = Unit {0}
AreLabels area [] hs (l ∷ ls) = ⊥
AreLabels area (p ∷ ps) [] (l ∷ ls) = ⊥
AreLabels area (p ∷ ps) (h ∷ hs) (l ∷ ls) =
    ((l.point ≡ length ps) × IsOpen area h l.values × AreLabels area ps hs ls) ⊎ ((l.point < length ps) × AreLabels area ps hs (l ∷ ls))

-- those of the points that are left, where so many of the oldest are
abbrev pub labels_below : ℕ → List Label → List Label
labels_below n [] = []
labels_below n (l ∷ ls) = if ltb l.point n then l ∷ ls else labels_below n ls

-- ---- the work that takes no reduction

-- of the labellings' values
abbrev pub labels_work : Area → Contents → List Label → ℕ
labels_work area c ls = values_work area c.points (lefts_by c.points ls)

-- in all, at a place
abbrev pub whole_at : Area → ℕ → Contents → List Label → ℕ
whole_at area at c ls = work_at area at c + labels_work area c ls

-- and on the way back
abbrev pub whole_back : Area → Contents → List Label → ℕ
whole_back area c ls = work_back area c + labels_work area c ls
