-- What is left to be done, where a goal was taken or a choice point come back to.
use Rattle.std.proofs.Common.{◌≡◌, ℕ, suc, ◌+◌, ◌*◌, ◌<◌, ◌≤◌, List, ◌∷◌, length, map, ap, ◌∙◌, arith}
use Rattle.std.proofs.lemmas.Nat.{mul-le}
use Rattle.std.proofs.Math.Nat.{add-mul}
use Rattle.wam_code.proofs.Lemmas.{weight_up, weight_some}
use Rattle.fd_language.specs.declared.TheConstants.{INFINITY}
use Rattle.wam_code.specs.Area.{Area}
use Rattle.wam_code.specs.WorkMeasure.{weight, return_work, thread_work, work}
use Rattle.wam_code.specs.CodeRegions.{distance}
use Rattle.code_areas.specs.Areas.{Return, Contents}
use Rattle.code_meaning.specs.MachineStates.{resume}
use Rattle.code_safety.specs.declared.instruction_outcomes.Went.{Went}
use Rattle.code_safety.specs.declared.instruction_outcomes.Went.TheVariants.{On, Back}
use Rattle.code_safety.specs.Choices.{point_of}
use Rattle.code_safety.specs.Work.{thread_of, point_threads, work_at, work_back, most_work, values_work}
use Rattle.code_goals.specs.declared.labels.ValuesLeft.{ValuesLeft}
use Rattle.code_goals.specs.declared.goal_outcomes.Next.{Next}
use Rattle.code_goals.specs.declared.goal_outcomes.Next.TheVariants as next
use Rattle.code_goals.specs.Values.{left_of, pointed, work_left}
use Rattle.code_machine.specs.declared.run.Label.{Label}
use Rattle.code_machine.specs.Labels.{lefts_by, labels_work, whole_at, whole_back}
use Rattle.code_machine.specs.States.{most}
use Rattle.code_machine.specs.Steps.{next_work, next_of, NoMore}
use Rattle.code_machine.proofs.Labelling.{lefts_values}

module _ (area : Area) where
  abbrev all : ℕ
  all = weight (length area.code)

  abbrev behind : List Return → ℕ
  behind rs = suc (return_work (map (λ r. distance area r.to) rs))

  -- at any place a thread has no more work than its continuations can bring
  thread_most : (at : ℕ) (rs : List Return) → thread_work (thread_of area at rs) ≤ all * behind rs
  thread_most at rs = mul-le (weight (distance area at)) (behind rs) all (behind rs) (weight_up (distance area at) (length area.code) (omega arith)) (omega arith)

  -- and no less than these
  thread_some : (at : ℕ) (rs : List Return) → behind rs ≤ thread_work (thread_of area at rs)
  thread_some at rs =
      let k = mul-le 1 (behind rs) (weight (distance area at)) (behind rs) (weight_some (distance area at)) (omega arith) in
      let one : 1 * behind rs ≡ behind rs = omega arith in
      omega (arith, k, one)

  -- what a reduction brings at most
  most_is : (x : ℕ) → most area * x ≡ all * x + (INFINITY + 3) * x
  most_is x = add-mul all (INFINITY + 3) x

  -- a call
  pub called_most : (w v x : ℕ) → w ≤ most_work area x → w + v ≤ most area * suc (x + v)
  called_most w v x l =
      let m = most_is (suc (x + v)) in
      let k = mul-le all (suc x) all (suc (x + v)) (omega arith) (omega arith) in
      omega (arith, l, m, k)

  -- less is left
  pub less_most : (w x : ℕ) → w ≤ x → w ≤ most area * suc x
  less_most w x l = let m = most_is (suc x) in omega (arith, l, m)

  module _ (at : ℕ) (c : Contents) where
    -- some place
    pub goal_most : (ls : List Label) (to : ℕ) → whole_at area to c ls ≤ most area * suc (whole_at area at c ls)
    goal_most ls to =
        let t = thread_most to c.returns in
        let u = thread_some at c.returns in
        let k = mul-le all (behind c.returns) all (suc (whole_at area at c ls)) (omega arith) (omega (arith, u)) in
        let m = most_is (suc (whole_at area at c ls)) in
        omega (arith, t, k, m)

    pub back_most : (ls : List Label) → whole_back area c ls ≤ most area * suc (whole_at area at c ls)
    back_most ls = less_most (whole_back area c ls) (whole_at area at c ls) (omega arith)

    -- where the machine goes on behind a goal
    pub next_most : (ls : List Label) (x : Next) → next_work area c ls x ≤ most area * suc (whole_at area at c ls)
    next_most ls (next.On to) = goal_most ls to
    next_most ls next.Back = back_most ls
    next_most ls (next.Fault f) = omega arith
    next_most ls (next.Write to) = goal_most ls to
    next_most ls (next.Newline to) = goal_most ls to

    -- ---- values of labellings

    -- A value was tried, and others may be left.
    pub tried_most : (ls ls' : List Label) (c' : Contents) (w : Went)
        → work_left area c' w (lefts_by c'.points ls') ≤ suc (suc INFINITY) * suc (whole_at area at c ls)
        → next_work area c' ls' (next_of w) ≤ most area * suc (whole_at area at c ls)
    tried_most ls ls' c' (On to) l = let m = most_is (suc (whole_at area at c ls)) in omega (arith, l, m)
    tried_most ls ls' c' Back l = let m = most_is (suc (whole_at area at c ls)) in omega (arith, l, m)

    -- ---- of a choice point that was come back to

    module _ (old : Contents) (is : old.points ≡ point_of c at ∷ c.points) where
      -- one to be resumed
      pub resumed_work : (ls : List Label) → lefts_by old.points ls ≡ resume at ∷ lefts_by c.points ls → whole_at area at c ls ≤ whole_back area old ls
      resumed_work ls left =
          let a : work_back area old ≡ work_at area at c = ap (λ ps. work (point_threads area ps)) is in
          let b : labels_work area old ls ≡ labels_work area c ls = ap (values_work area old.points) left ∙ ap (λ ps. values_work area ps (resume at ∷ lefts_by c.points ls)) is in
          omega (arith, a, b)

      -- one with values, of which one was tried
      pub tried_less : (v : ValuesLeft) (ls ls' : List Label) (c' : Contents) (w : Went)
          → work_left area c' w (lefts_by c'.points ls') < work_left area (pointed c at) Back (left_of at v ∷ lefts_by c.points ls)
          → NoMore area c' ls' w (whole_back area old (record { point = length c.points; values = v } ∷ ls))
      tried_less v ls ls' c' w l =
          let a : work_back area old ≡ work_back area (pointed c at) = ap (λ ps. work (point_threads area ps)) is in
          let b : labels_work area old (record { point = length c.points; values = v } ∷ ls) ≡ values_work area (point_of c at ∷ c.points) (left_of at v ∷ lefts_by c.points ls) =
          ap (λ ps. values_work area ps (lefts_by ps (record { point = length c.points; values = v } ∷ ls))) is
          ∙ ap (values_work area (point_of c at ∷ c.points)) (lefts_values (point_of c at) c.points v ls) in
          by w l a b
        where
          by : (w : Went) → work_left area c' w (lefts_by c'.points ls') < work_left area (pointed c at) Back (left_of at v ∷ lefts_by c.points ls) → work_back area old ≡ work_back area (pointed c at)
              → labels_work area old (record { point = length c.points; values = v } ∷ ls) ≡ values_work area (point_of c at ∷ c.points)
              (left_of at v ∷ lefts_by c.points ls) → NoMore area c' ls' w (whole_back area old (record { point = length c.points; values = v } ∷ ls))
          by (On to) l a b = omega (arith, l, a, b)
          by Back l a b = omega (arith, l, a, b)
