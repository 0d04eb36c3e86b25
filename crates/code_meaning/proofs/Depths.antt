-- Depths while choice points come and go, and where a test finds one.
use Rattle.std.proofs.Common.{◌≡◌, ◌⊎◌, ℕ, suc, ◌+◌, ◌-◌, ◌≤◌, List, [], ◌∷◌, Option, Some, length, ap, sym, ◌∙◌, inl, inr, arith}
use Rattle.std.proofs.lemmas.Bool.{cases_lt}
use Rattle.branch_meaning.specs.RemainingEvents.{at_level, at_top, oldest}
use Rattle.branch_meaning.proofs.Lemmas.{level_stays, level_top, oldest_all, oldest_fewer}
use Rattle.wam_code.specs.Places.{Depth, no_depth, deeper, one_deeper, Places, IsDeepest}
use Rattle.code_meaning.specs.Depths.{IsDepth, depth_of, AreDepths}

-- What is there at a call, and what a test finds.
pub depth_here : (marks : List ℕ) → IsDepth marks (depth_of marks)
depth_here marks = record { points = omega arith; branches = level_top marks }

-- A choice point comes: each depth still is one.
pub depth_pushed : (n : ℕ) (marks : List ℕ) (d : Depth) → IsDepth marks d → IsDepth (n ∷ marks) d
depth_pushed n marks d h = let l = h.points in record { points = omega (arith, l); branches = level_stays n marks d.points l ∙ h.branches }

-- And so is the one that counts it, where it stands for one branch.
pub depth_deeper : (n : ℕ) (marks : List ℕ) → n ≡ suc (at_top marks) → IsDepth (n ∷ marks) (one_deeper (depth_of marks))
depth_deeper n marks e = record { points = omega arith; branches = level_top (n ∷ marks) ∙ e }

-- It goes: a depth that doesn't count it still is one.
pub depth_popped : (n : ℕ) (marks : List ℕ) (d : Depth) → IsDepth (n ∷ marks) d → d.points ≤ length marks → IsDepth marks d
depth_popped n marks d h l = record { points = l; branches = sym (level_stays n marks d.points l) ∙ h.branches }

level_oldest : (marks : List ℕ) (l e : ℕ) → l ≤ length marks → e ≤ l → at_level (oldest l marks) e ≡ at_level marks e
level_oldest [] l e h i = ap (λ ms. at_level ms e) (oldest_all l [] (omega arith))
level_oldest (n ∷ marks) l e h i = elim (cases_lt l (length (n ∷ marks))) [
  | inl s ↦ ap (λ ms. at_level ms e) (oldest_fewer l n marks (omega (arith, s))) ∙ level_oldest marks l e (omega (arith, s)) i ∙ sym (level_stays n marks e (omega (arith, s, i)))
  | inr s ↦ ap (λ ms. at_level ms e) (oldest_all l (n ∷ marks) s)
]

oldest_long : (marks : List ℕ) (l : ℕ) → l ≤ length marks → length (oldest l marks) ≡ l
oldest_long [] l h = ap length (oldest_all l [] (omega arith)) ∙ omega (arith, h)
oldest_long (n ∷ marks) l h = elim (cases_lt l (length (n ∷ marks))) [
  | inl s ↦ ap length (oldest_fewer l n marks (omega (arith, s))) ∙ oldest_long marks l (omega (arith, s))
  | inr s ↦ ap length (oldest_all l (n ∷ marks) s) ∙ omega (arith, s, h)
]

-- A cut to a depth: each that is no deeper still is one.
pub depth_cut : (marks : List ℕ) (d e : Depth) → IsDepth marks d → IsDepth marks e → e.points ≤ d.points → IsDepth (oldest d.points marks) e
depth_cut marks d e h g l =
    let a = h.points in
    let long = oldest_long marks d.points a in
    record { points = omega (arith, long, l); branches = level_oldest marks d.points e.points a l ∙ g.branches }

-- ---- what a test finds

-- a depth that is kept is one of the slots, or was noted, or there is none
pub deepest_is : (marks : List ℕ) (p : Places) (d : Depth) (numbers : ℕ → Option ℕ) → IsDeepest p d → AreDepths marks p.levels numbers → ((e : Depth) → p.noted ≡ Some e → IsDepth marks e)
    → (d ≡ no_depth) ⊎ IsDepth marks d
deepest_is marks p d numbers h levels noted = by h.kept
  where
    by : (d ≡ no_depth) ⊎ (((n : ℕ) × (p.levels n ≡ Some d)) ⊎ (p.noted ≡ Some d)) → (d ≡ no_depth) ⊎ IsDepth marks d
    by (inl e) = inl e
    by (inr (inl w)) = inr (levels w.0 d w.1).1
    by (inr (inr e)) = inr (noted d e)

-- The depth of all choice points is the deepest one that is kept, or deeper: no level has more branches than all.
pub found_deeper : (marks : List ℕ) (d : Depth) → ((l : ℕ) → at_level marks l ≤ at_top marks) → (d ≡ no_depth) ⊎ IsDepth marks d → (more : Depth) × (depth_of marks ≡ deeper d more)
found_deeper marks d low (inl e) =
    let x : length marks ≡ 0 + length marks = omega arith in
    let y : at_top marks ≡ 0 + at_top marks = omega arith in
    (depth_of marks, ap (λ k. record { points = k; branches = at_top marks }) x ∙ ap (λ k. record { points = 0 + length marks; branches = k }) y ∙ ap (λ z. deeper z (depth_of marks)) (sym e))
found_deeper marks d low (inr h) =
    let p = h.points in
    let b = h.branches in
    let m = low d.points in
    let x : length marks ≡ d.points + (length marks - d.points) = omega (arith, p) in
    let y : at_top marks ≡ d.branches + (at_top marks - d.branches) = omega (arith, m, b) in (
      record { points = length marks - d.points; branches = at_top marks - d.branches },
      ap (λ k. record { points = k; branches = at_top marks }) x
          ∙ ap (λ k. record { points = d.points + (length marks - d.points); branches = k }) y,
    )

-- All depths are within it.
pub depth_within : (marks : List ℕ) (d : Depth) → IsDepth marks d → d.points ≤ (depth_of marks).points
depth_within marks d h = h.points
