-- The work that is left falls.
use Rattle.std.proofs.Common.{◌≡◌, ℕ, suc, ◌+◌, ◌*◌, ◌<◌, ◌≤◌, IsTrue, List, [], ◌∷◌, length, map, drop, refl, sym, subst, arith}
use Rattle.std.proofs.lemmas.List.{drop-map}
use Rattle.std.proofs.lemmas.Nat.{mul-le}
use Rattle.fd_language.specs.Family.{has}
use Rattle.wam_code.specs.declared.instruction.Code.{Code}
use Rattle.wam_code.specs.Area.{State, Area, Holds}
use Rattle.wam_code.specs.WorkMeasure.{weight, return_work, Thread, work}
use Rattle.wam_code.specs.CodeRegions.{distance}
use Rattle.wam_code.specs.VerifiedCode.{named, goes_on, IsVerifiedBy}
use Rattle.wam_code.proofs.Lemmas.{cut_less, fork_falls, step_falls, proceed_falls, back_falls, names_nearer, falls_nearer, weight_up, weight_some}
use Rattle.code_areas.specs.Areas.{Places, Return, Point, Contents}
use Rattle.code_safety.specs.Choices.{point_of}
use Rattle.code_safety.specs.Work.{thread_of, point_threads, work_at, work_back, most_work}

-- twice as much of the most
most_split : (m x t : ℕ) → m * suc (x + t) ≡ m * suc x + m * t
most_split m x t = grind arith

-- a thread of so little work, beside others
most_with : (m n x t : ℕ) → 1 ≤ m → n ≤ m * suc x → n + t ≤ m * suc (x + t)
most_with m n x t some l =
    let k = mul-le 1 t m t some (omega arith) in
    let one : 1 * t ≡ t = omega arith in
    let s = most_split m x t in
    omega (arith, l, k, one, s)

module _ (area : Area) (ss : List State) (v : IsVerifiedBy area ss) (at : ℕ) (c : Contents) where
  abbrev after : List Return → List ℕ
  after rs = map (λ r. distance area r.to) rs

  abbrev others : List Thread
  others = point_threads area c.points

  module _ (i : Code) (holds : Holds area at i) where
    pub named_near : (to : ℕ) → IsTrue (has (named area i) to) → distance area to < distance area at
    named_near to n = names_nearer area ss v at to (i, holds, n)

    pub next_near : IsTrue (goes_on i) → distance area (suc at) < distance area at
    next_near on = falls_nearer area ss v at (suc at) (i, holds, on, refl)

  pub moved_falls : (to : ℕ) → distance area to < distance area at → work_at area to c < work_at area at c
  moved_falls to near = step_falls (distance area at) (distance area to) (after c.returns) others near

  pub left_falls : (to other : ℕ) → distance area to < distance area at → distance area other < distance area at
      → work_at area to (record c { points = point_of c other ∷ c.points }) < work_at area at c
  left_falls to other near near_too = fork_falls (distance area at) (distance area to) (distance area other) (after c.returns) others near near_too

  -- fewer choice points bring no more work
  pub cut_falls : (to k : ℕ) → distance area to < distance area at → work_at area to (record c { points = drop k c.points }) < work_at area at c
  cut_falls to k near =
      let less = subst (λ ts. work (thread_of area to c.returns ∷ ts) ≤ work (thread_of area to c.returns ∷ others))
      (drop-map (λ (p : Point). thread_of area p.place p.returns) k c.points) (cut_less (thread_of area to c.returns) others k) in
      let falls = moved_falls to near in
      omega (arith, less, falls)

  pub returned_falls : (r : Return) (later : List Return) → c.returns ≡ r ∷ later → work_at area r.to (record c { slots = r.slots; returns = later }) < work_at area at c
  returned_falls r later is = subst (λ l. work (thread_of area r.to later ∷ others) < work (thread_of area at l ∷ others)) (sym is)
      (proceed_falls (distance area at) (distance area r.to) (after later) others)

  pub back_less : work_back area c < work_at area at c
  back_less = back_falls (distance area at) (after c.returns) others

  -- a call brings no more than the most
  module _ (to : ℕ) where
    abbrev before : ℕ
    before = weight (distance area at) * suc (return_work (after c.returns))

    most_near : weight (distance area to) ≤ weight (length area.code)
    most_near = weight_up (distance area to) (length area.code) (omega arith)

    pub called_most : (registers slots : Places) → work_at area to
        (record c { registers = registers; slots = []; returns = record { to = suc at; slots = slots } ∷ c.returns }) ≤ most_work area (work_at area at c)
    called_most registers slots =
        let next = mul-le (weight (distance area (suc at))) (suc (return_work (after c.returns))) (weight (distance area at))
        (suc (return_work (after c.returns))) (weight_up (distance area (suc at)) (distance area at) (omega arith)) (omega arith) in
        most_with (weight (length area.code)) (weight (distance area to) * suc (weight (distance area (suc at)) * suc (return_work (after c.returns)))) before
        (work others) (weight_some (length area.code))
        (mul-le (weight (distance area to)) (suc (weight (distance area (suc at)) * suc (return_work (after c.returns)))) (weight (length area.code)) (suc before) most_near (omega (arith, next)))

    pub executed_most : (registers : Places) → work_at area to (record c { registers = registers }) ≤ most_work area (work_at area at c)
    executed_most registers =
        let one = mul-le 1 (suc (return_work (after c.returns))) (weight (distance area at)) (suc (return_work (after c.returns))) (weight_some (distance area at)) (omega arith) in
        let is : 1 * suc (return_work (after c.returns)) ≡ suc (return_work (after c.returns)) = omega arith in
        most_with (weight (length area.code)) (weight (distance area to) * suc (return_work (after c.returns))) before (work others) (weight_some (length area.code))
        (mul-le (weight (distance area to)) (suc (return_work (after c.returns))) (weight (length area.code)) (suc before) most_near (omega (arith, one, is)))
