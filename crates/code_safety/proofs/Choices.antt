-- How many choices there are, and the oldest ones.
use Rattle.std.proofs.Common.{◌≡◌, ℕ, zero, suc, ◌-◌, ◌≤◌, List, [], ◌∷◌, length, drop, refl, ap, sym, ◌∙◌, arith}
use Rattle.std.proofs.lemmas.List.{length-drop}
use Rattle.fd_model.specs.Levels.{Level}
use Rattle.heap_cells.specs.Cells.{Cells}
use Rattle.branch_meaning.specs.RemainingEvents.{oldest}
use Rattle.branch_state.specs.States as branch
use Rattle.branch_state.specs.States.{ArePairs, without_pairs}
use Rattle.wam_code.specs.Area.{State, Area}
use Rattle.code_areas.specs.Areas.{Point, Contents}
use Rattle.code_meaning.specs.MachineStates.{Left}
use Rattle.code_safety.specs.Choices.{choices_of, choices_in}
use Rattle.code_safety.specs.Safety.{ArePoints, IsSafe}

-- each point has a heap, and one heap more belongs to none
pub points_marked : (area : Area) (ss : List State) (s : branch.State) (ps : List Point) (hs : List Cells) → ArePoints area ss s ps hs → length hs ≡ suc (length ps)
points_marked area ss s [] hs own = ap length own.1
points_marked area ss s (p ∷ ps) [] own = absurd own
points_marked area ss s (p ∷ ps) (h ∷ hs) own = ap suc (points_marked area ss s ps hs own.1)

-- a level of the store belongs to each heap
pairs_long : (atoms N : ℕ) (hs : List Cells) (vs : List Level) → ArePairs atoms N hs vs → length vs ≡ length hs
pairs_long atoms N [] [] own = refl
pairs_long atoms N [] (v ∷ vs) own = absurd own
pairs_long atoms N (h ∷ hs) [] own = absurd own
pairs_long atoms N (h ∷ hs) (v ∷ vs) own = ap suc (pairs_long atoms N hs vs own.1)

choices_long : (ps : List Point) (hs : List Cells) (vs : List Level) (ls : List Left) → length ps ≤ length hs → length ps ≤ length vs → length ls ≡ length ps
    → length (choices_of ps hs vs ls) ≡ length ps
choices_long [] hs vs ls a b c = refl
choices_long (p ∷ ps) [] vs ls a b c = absurd (omega (arith, a))
choices_long (p ∷ ps) (h ∷ hs) [] ls a b c = absurd (omega (arith, b))
choices_long (p ∷ ps) (h ∷ hs) (v ∷ vs) [] a b c = absurd (omega (arith, c))
choices_long (p ∷ ps) (h ∷ hs) (v ∷ vs) (l ∷ ls) a b c = ap suc (choices_long ps hs vs ls (omega (arith, a)) (omega (arith, b)) (omega (arith, c)))

-- There are as many choices as choice points.
pub choices_many : (area : Area) (s : branch.State) (at n : ℕ) (c : Contents) → IsSafe area s at n c → (ls : List Left) → length ls ≡ length c.points → length (choices_in s c ls) ≡ length c.points
choices_many area s at n c safe ls long =
    let heaps = points_marked area safe.states s c.points s.heaps.below safe.points in
    let levels = pairs_long s.atoms s.infinity s.heaps.below s.levels.below safe.sound.below in
    choices_long c.points s.heaps.below s.levels.below ls (omega (arith, heaps)) (omega (arith, heaps, levels)) long

-- ---- the oldest ones

no_heaps : (ps : List Point) (vs : List Level) (ls : List Left) → choices_of ps [] vs ls ≡ []
no_heaps [] vs ls = refl
no_heaps (p ∷ ps) vs ls = refl

no_levels : (ps : List Point) (hs : List Cells) (ls : List Left) → choices_of ps hs [] ls ≡ []
no_levels [] hs ls = refl
no_levels (p ∷ ps) [] ls = refl
no_levels (p ∷ ps) (h ∷ hs) ls = refl

none_left : (ps : List Point) (hs : List Cells) (vs : List Level) → choices_of ps hs vs [] ≡ []
none_left [] hs vs = refl
none_left (p ∷ ps) [] vs = refl
none_left (p ∷ ps) (h ∷ hs) [] = refl
none_left (p ∷ ps) (h ∷ hs) (v ∷ vs) = refl

dropped : (d : ℕ) (ps : List Point) (hs : List Cells) (vs : List Level) (ls : List Left) → choices_of (drop d ps) (drop d hs) (drop d vs) (drop d ls) ≡ drop d (choices_of ps hs vs ls)
dropped zero ps hs vs ls = refl
dropped (suc d) [] hs vs ls = refl
dropped (suc d) (p ∷ ps) [] vs ls = no_heaps (drop d ps) (drop (suc d) vs) (drop (suc d) ls)
dropped (suc d) (p ∷ ps) (h ∷ hs) [] ls = no_levels (drop d ps) (drop d hs) (drop (suc d) ls)
dropped (suc d) (p ∷ ps) (h ∷ hs) (v ∷ vs) [] = none_left (drop d ps) (drop d hs) (drop d vs)
dropped (suc d) (p ∷ ps) (h ∷ hs) (v ∷ vs) (l ∷ ls) = dropped d ps hs vs ls

-- Without the choice points above the oldest ones, so many, and without their pairs, the oldest choices are left.
pub choices_left : (s : branch.State) (c : Contents) (ls : List Left) (k : ℕ) → length (choices_in s c ls) ≡ length c.points → length ls ≡ length c.points
    → (let d = length c.points - k in oldest k (choices_in s c ls) ≡ choices_in (without_pairs s d) (record c { points = drop d c.points }) (oldest (length (drop d c.points)) ls))
choices_left s c ls k many long =
    let d = length c.points - k in
    let fewer : length (drop d c.points) ≡ length c.points - d = length-drop d c.points in
    let same : length ls - length (drop d c.points) ≡ d = omega (arith, fewer, long) in
    ap (λ n. drop (n - k) (choices_in s c ls)) many ∙ sym (dropped d c.points s.heaps.below s.levels.below ls)
    ∙ ap (λ n. choices_of (drop d c.points) (drop d s.heaps.below) (drop d s.levels.below) (drop n ls)) (sym same)
