-- What is left to be done falls with each instruction, with each reduction and with each value of a labelling that is tried.
use Rattle.std.proofs.Common.{◌≡◌, ℕ, zero, suc, ◌+◌, ◌*◌, ◌<◌, ◌≤◌, List, ◌∷◌, length, sym, subst, arith}
use Rattle.std.proofs.lemmas.Nat.{mul-le}
use Rattle.wam_code.specs.Area.{Area}
use Rattle.wam_code.specs.WorkMeasure.{thread_work, work}
use Rattle.code_areas.specs.Areas.{Point, Contents}
use Rattle.code_meaning.specs.MachineStates.{Left, values}
use Rattle.code_safety.specs.Choices.{point_of}
use Rattle.code_safety.specs.Work.{thread_of, point_threads, work_at, values_work, left_by}

-- more work, more left
pub left_up : (m n w v : ℕ) → w ≤ v → left_by m n w ≤ left_by m n v
left_up m zero w v l = l
left_up m (suc n) w v l =
    let k = left_up m n (m * suc w) (m * suc v) (mul-le m (suc w) m (suc v) (omega arith) (omega (arith, l))) in
    omega (arith, l, k)

-- less work, less left
pub left_falls : (m n w v : ℕ) → w < v → left_by m n w < left_by m n v
left_falls m zero w v l = l
left_falls m (suc n) w v l =
    let k = left_up m n (m * suc w) (m * suc v) (mul-le m (suc w) m (suc v) (omega arith) (omega (arith, l))) in
    omega (arith, l, k)

-- A reduction is spent, and brings no more than the most.
pub left_spent : (m n w v : ℕ) → v ≤ m * suc w → left_by m n v < left_by m (suc n) w
left_spent m n w v l = let k = left_up m n v (m * suc w) l in omega (arith, k)

pub one_more : (k x : ℕ) → suc k * suc x ≡ suc x + k * suc x
one_more k x = grind arith

module _ (area : Area) (at : ℕ) (c : Contents) (old : List Point) (is : old ≡ point_of c at ∷ c.points) (n : ℕ) (ns : List ℕ) (v : ℕ) (ls : List Left) where
  abbrev point : ℕ
  point = thread_work (thread_of area at c.returns)

  abbrev Before : List Point → ℕ
  Before ps = work (point_threads area ps) + values_work area ps (values (n ∷ ns) v at ∷ ls)

  -- A value is tried at the labelling's place, and others stay with a new choice point.
  pub value_falls : work_at area at (record c { points = point_of c at ∷ c.points }) + values_work area (point_of c at ∷ c.points) (values ns v at ∷ ls) < Before old
  value_falls =
      let k = one_more (length ns) point in
      subst (λ ps. work_at area at (record c { points = point_of c at ∷ c.points }) + values_work area (point_of c at ∷ c.points) (values ns v at ∷ ls) < Before ps) (sym is)
      (omega (arith, k))

  -- or the last one
  pub last_value_falls : work_at area at c + values_work area c.points ls < Before old
  last_value_falls =
      let k = one_more (length ns) point in
      subst (λ ps. work_at area at c + values_work area c.points ls < Before ps) (sym is)
      (omega (arith, k))
