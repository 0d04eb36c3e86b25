-- A number that falls with each instruction that spends no reduction, and with each way back.
use Rattle.std.specs.Prelude.{ℕ, zero, suc, ◌+◌, ◌*◌, ◌<◌, List, ◌∷◌, length, map}
use Rattle.wam_code.specs.Area.{Area}
use Rattle.wam_code.specs.CodeRegions.{distance}
use Rattle.wam_code.specs.WorkMeasure.{weight, Thread, thread_work, work}
use Rattle.code_areas.specs.Areas.{Return, Point, Contents}
use Rattle.code_meaning.specs.MachineStates.{Left, resume, values}
use Rattle.code_safety.specs.Queries.{StaysInside}
use Rattle.code_safety.specs.declared.instruction_outcomes.Went.{Went}
use Rattle.code_safety.specs.declared.instruction_outcomes.Went.TheVariants.{On, Back}

-- a place and its continuations
abbrev pub thread_of : Area → ℕ → List Return → Thread
thread_of area at rs = record { distance = distance area at; returns = map (λ r. distance area r.to) rs }

abbrev pub point_threads : Area → List Point → List Thread
point_threads area ps = map (λ p. thread_of area p.place p.returns) ps

-- the work of a machine that goes on at a place
abbrev pub work_at : Area → ℕ → Contents → ℕ
work_at area at c = work (thread_of area at c.returns ∷ point_threads area c.points)

-- and of one that goes back
abbrev pub work_back : Area → Contents → ℕ
work_back area c = work (point_threads area c.points)

abbrev pub work_then : Area → Contents → Went → ℕ
work_then area c (On to) = work_at area to c
work_then area c Back = work_back area c

-- An instruction leads to a later place, of the same query, or back.
abbrev pub LeadsOn : Area → ℕ → Went → Type 0
LeadsOn area at (On to) = (at < to) × StaysInside area at to
LeadsOn area at Back = Unit {0}

-- So much at most is to be done behind a call, with so much before it.
abbrev pub most_work : Area → ℕ → ℕ
most_work area w = weight (length area.code) * suc w

-- Each value that is left at a choice point of a labelling brings the point's work once more.
abbrev pub values_work : Area → List Point → List Left → ℕ
values_work area (p ∷ ps) (resume to ∷ ls) = values_work area ps ls
values_work area (p ∷ ps) (values ns v at ∷ ls) = length ns * suc (thread_work (thread_of area p.place p.returns)) + values_work area ps ls
values_work area _ _ = 0

-- What n reductions and this much work can take in all, where a reduction makes at most m times so much and m more of the work.
abbrev pub left_by : ℕ → ℕ → ℕ → ℕ
left_by m zero w = w
left_by m (suc n) w = suc (w + left_by m n (m * suc w))
