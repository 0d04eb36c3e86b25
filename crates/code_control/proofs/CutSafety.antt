-- It is safe to go on where a slot takes a level, where a test begins, and behind a cut.
use Rattle.std.proofs.Common.{◌≡◌, ℕ, zero, suc, ◌-◌, ◌<◌, ◌≤◌, Bool, true, ◌&&◌, IsTrue, List, [], ◌∷◌, length, drop, refl, sym, subst, arith}
use Rattle.std.proofs.lemmas.Bool.{and_parts}
use Rattle.fd_language.proofs.Lemmas.{first_member}
use Rattle.heap_cells.specs.Cells.{Cells}
use Rattle.branch_state.specs.States as branch
use Rattle.branch_state.specs.States.{IsSound, with_pair, without_pairs}
use Rattle.wam_code.specs.declared.instruction.Code.{Code}
use Rattle.wam_code.specs.declared.instruction.Code.TheVariants.{EnterTest, CutTo}
use Rattle.wam_code.specs.Area.{State, Area, Holds}
use Rattle.wam_code.specs.Effect.{slot_at, is_level, may_be_level, with_level, when, plain_effect}
use Rattle.wam_code.specs.VerifiedCode.{goes_on}
use Rattle.code_areas.specs.Areas.{Places, IsLevelSet, Point, Contents}
use Rattle.code_safety.specs.Machine.{IsSlot}
use Rattle.code_safety.specs.Choices.{point_of}
use Rattle.code_safety.specs.Safety.{Fits, AreOwn, ArePoints, IsThread, IsSafe}
use Rattle.code_safety.proofs.Lemmas.{level_slot, level_there, leveled, leveled_fits, leveled_long, leveled_own, thread_kept, points_kept, points_marked}
use Rattle.code_control.proofs.Threads.{state, fits, needed, handed_on, handed_named, behind_on, behind_named, reached_by, slots_safe, left_with}

module _ (area : Area) (s : branch.State) (at : ℕ) (c : Contents) (safe : IsSafe area s at 0 c) where
  abbrev before : State
  before = state area s at c safe

  -- ---- a level

  module _ (i : Code) (holds : Holds area at i) (n : ℕ) (is : plain_effect area.entries i before ≡ when (may_be_level (slot_at before.frame n)) (with_level before n)) where
    pub level_is : IsSlot n c.slots
    level_is = level_slot before.frame n c.slots (fits area s at c safe).frame (needed area s at c safe i holds (may_be_level (slot_at before.frame n)) (with_level before n) is).0

    pub level_safe : IsTrue (goes_on i) → (k : ℕ) → IsSafe area s (suc at) 0 (record c { slots = leveled c.slots n k level_is })
    level_safe on k =
        slots_safe area s at c safe i holds (with_level before n)
        (handed_on area s at c safe i holds (may_be_level (slot_at before.frame n)) (with_level before n) is on) safe.here.reached.owes on
        (leveled c.slots n k level_is)
        (leveled_fits c.slots n k level_is before c.registers (fits area s at c safe)) (leveled_own c.slots n k level_is s safe.here.slots_own)

  -- ---- a test with another way

  module _ (n m to : ℕ) (holds : Holds area at (EnterTest n m to)) where
    abbrev within : State
    within = with_level (with_level before n) m

    both_may : (may_be_level (slot_at before.frame n) ≡ true) × (may_be_level (slot_at before.frame m) ≡ true)
    both_may =
        let may = needed area s at c safe (EnterTest n m to) holds (may_be_level (slot_at before.frame n) && may_be_level (slot_at before.frame m)) within refl in
        and_parts (may_be_level (slot_at before.frame n)) (may_be_level (slot_at before.frame m)) may.0

    pub first_is : IsSlot n c.slots
    first_is = level_slot before.frame n c.slots (fits area s at c safe).frame both_may.0

    pub other_is : IsSlot m c.slots
    other_is = level_slot before.frame m c.slots (fits area s at c safe).frame both_may.1

    module _ (k l : ℕ) where
      abbrev one : Places
      one = leveled c.slots n k first_is

      pub second_is : IsSlot m one
      second_is = record { some = other_is.some; within = subst (λ a. m - 1 < a) (sym (leveled_long c.slots n k first_is)) other_is.within }

      abbrev pub two : Places
      two = leveled one m l second_is

      two_fit : Fits within c.registers two
      two_fit = leveled_fits one m l second_is (with_level before n) c.registers (leveled_fits c.slots n k first_is before c.registers (fits area s at c safe))

      two_own : AreOwn s two
      two_own = leveled_own one m l second_is s (leveled_own c.slots n k first_is s safe.here.slots_own)

      pub test_safe : IsSound (with_pair s) → IsSafe area (with_pair s) (suc at) 0 (record c { slots = two; points = point_of (record c { slots = two }) to ∷ c.points })
      test_safe sound = left_with area s at c safe (suc at) to two inside other sound
        where
          need : Bool
          need = may_be_level (slot_at before.frame n) && may_be_level (slot_at before.frame m)

          inside : IsThread area safe.states s (suc at) 0 c.registers two c.returns
          inside = record {
            reached = reached_by safe.states within (suc at) c.registers two (handed_on area s at c safe (EnterTest n m to) holds need within refl refl) safe.here.reached.owes two_fit;
            registers_own = safe.here.registers_own;
            slots_own = two_own;
            returns_own = safe.here.returns_own;
            behind = behind_on area s at c safe (EnterTest n m to) holds refl;
          }

          other : IsThread area safe.states s to 0 c.registers two c.returns
          other = let names = first_member to [] in record {
            reached = reached_by safe.states within to c.registers two (handed_named area s at c safe (EnterTest n m to) holds need within refl to names) safe.here.reached.owes two_fit;
            registers_own = safe.here.registers_own;
            slots_own = two_own;
            returns_own = safe.here.returns_own;
            behind = behind_named area safe.states safe.verified at to (EnterTest n m to, holds, names) c.returns safe.here.behind;
          }

  -- ---- a cut

  module _ (n : ℕ) (holds : Holds area at (CutTo n)) where
    has_level : is_level (slot_at before.frame n) ≡ true
    has_level = (needed area s at c safe (CutTo n) holds (is_level (slot_at before.frame n)) before refl).0

    pub kept_level : (1 ≤ n) × IsLevelSet c.slots (n - 1)
    kept_level = level_there before.frame n c.slots (fits area s at c safe).frame has_level

    pub behind_cut : IsSafe area s (suc at) 0 c
    behind_cut = slots_safe area s at c safe (CutTo n) holds before
        (handed_on area s at c safe (CutTo n) holds (is_level (slot_at before.frame n)) before refl refl) safe.here.reached.owes refl c.slots
        (fits area s at c safe) safe.here.slots_own

-- ---- choice points are dropped

points_dropped : (area : Area) (ss : List State) (s s' : branch.State) → s'.atoms ≡ s.atoms → (k : ℕ) (ps : List Point) (hs : List Cells) → k ≤ length ps
    → ArePoints area ss s ps hs → ArePoints area ss s' (drop k ps) (drop k hs)
points_dropped area ss s s' e zero ps hs l own = points_kept area ss s s' e ps hs own
points_dropped area ss s s' e (suc k) [] hs l own = absurd (omega (arith, l))
points_dropped area ss s s' e (suc k) (p ∷ ps) [] l own = absurd own
points_dropped area ss s s' e (suc k) (p ∷ ps) (h ∷ hs) l own = points_dropped area ss s s' e k ps hs (omega (arith, l)) own.1

-- so many pairs can be dropped
pub can_drop : (area : Area) (s : branch.State) (at : ℕ) (c : Contents) → IsSafe area s at 0 c → (k : ℕ) → k ≤ length c.points → k < length s.heaps.below
can_drop area s at c safe k l = let many = points_marked area safe.states s c.points s.heaps.below safe.points in omega (arith, l, many)

pub dropped_safe : (area : Area) (s : branch.State) (at : ℕ) (c : Contents) → IsSafe area s at 0 c → (k : ℕ) → k ≤ length c.points → IsSound (without_pairs s k)
    → IsSafe area (without_pairs s k) at 0 (record c { points = drop k c.points })
dropped_safe area s at c safe k l sound = record {
  states = safe.states;
  verified = safe.verified;
  atoms = safe.atoms;
  sound = sound;
  here = thread_kept area safe.states s (without_pairs s k) at 0 c.registers c.slots c.returns (λ d own. own) safe.here;
  points = points_dropped area safe.states s (without_pairs s k) refl k c.points s.heaps.below l safe.points;
}

-- As many points are dropped as are above the ones that are kept.
pub drop_counted : (L k n : ℕ) → n ≡ L - (L - k) → L - k ≡ L - n
drop_counted L k n e = omega (arith, e)
