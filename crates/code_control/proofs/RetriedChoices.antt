-- A choice point that is gone back to: the choice at its place is taken, and the point stays while a later clause may match.
use Rattle.std.proofs.Common.{◌≡◌, ℕ, ◌<◌, List, [], ◌∷◌, length, drop, Option, Some, None, refl, ap, sym, ◌∙◌, inl, inr, arith}
use Rattle.std.proofs.lemmas.Option.{slice_get_within}
use Rattle.heap_cells.specs.Cells.{Cells}
use Rattle.branch_state.specs.States as branch
use Rattle.branch_state.specs.States.{IsSound, IsUndone, with_heap, with_pair}
use Rattle.wam_code.specs.declared.instruction.Code.{Code}
use Rattle.wam_code.specs.declared.instruction.Code.TheVariants.{TryMeElse, RetryMeElse, TrustMe, Try, Retry, Trust}
use Rattle.wam_code.specs.Area.{Area}
use Rattle.code_areas.specs.Areas.{Point, Contents}
use Rattle.code_safety.specs.Choices.{point_of}
use Rattle.code_safety.specs.Safety.{IsThread, ArePoints, IsSafe, IsSafeBack}
use Rattle.code_safety.specs.declared.instruction_outcomes.Went.TheVariants.{On}
use Rattle.code_safety.proofs.Lemmas.{points_kept, points_marked, thread_kept}
use Rattle.code_control.specs.declared.clause_selection.Tried.TheVariants.{Both, Last, Other}
use Rattle.code_control.specs.RetriedChoices.{KeptFor, KeepsPoint, IsBackAt, IsTaken, TriesAgain}
use Rattle.code_control.specs.ClauseSelection.{tried_by, first_of, IsTried, IsChoice, IsLater, LeavesOut, MayMatch, MayMatchFrom}
use Rattle.code_control.proofs.ChoiceSafety.{place_safe, place_falls, last_place, chooses_last, both_places, chooses_alone, point_safe, point_falls}
use Rattle.code_control.proofs.ChoiceSafety.{chooses_point}
use Rattle.code_control.proofs.Stages.{resumed_runs}
use Rattle.code_control.proofs.Threads.{left_to, resumed_safe}

-- ---- before the way back

module _ (area : Area) (s : branch.State) (c : Contents) (safe : IsSafeBack area s c) where
  newest_within : (ps : List Point) (hs : List Cells) → 0 < length ps → ArePoints area safe.states s ps hs → (at : ℕ)
      → ((p : Point) (qs : List Point) → ps ≡ p ∷ qs → at ≡ p.place) → at < length area.code
  newest_within [] hs l own at is = absurd (omega (arith, l))
  newest_within (p ∷ ps) [] l own at is = absurd own
  newest_within (p ∷ ps) (h ∷ hs) l own at is =
      let k = slice_get_within safe.states p.place own.0.reached.state own.0.reached.has in
      let e = safe.verified.states in
      let same = is p ps refl in
      omega (arith, k, e, same)

  -- the place of the newest choice point is in the code
  pub point_within : 0 < length c.points → (at : ℕ) → ((p : Point) (ps : List Point) → c.points ≡ p ∷ ps → at ≡ p.place) → at < length area.code
  point_within some at is = newest_within c.points s.heaps.below some safe.points at is

-- where there is a choice point, a pair lies below the one that is kept for it
pub point_pair : (area : Area) (s : branch.State) (at : ℕ) (c : Contents) → IsSafe area s at 0 c → 0 < length c.points → 1 < length s.heaps.below
point_pair area s at c safe some = let k = points_marked area safe.states s c.points s.heaps.below safe.points in omega (arith, some, k)

-- ---- behind it

choice_at : (i : Code) (at : ℕ) → (tried_by i at ≡ Other → ⊥) → IsChoice i
choice_at (TryMeElse o) at n = λ e. cc
choice_at (RetryMeElse o) at n = λ e. cc
choice_at (Try to) at n = λ e. cc
choice_at (Retry to) at n = λ e. cc
choice_at TrustMe at n = λ e. cc
choice_at (Trust to) at n = λ e. cc
choice_at _ at n = absurd (n refl)

none_last : (to : ℕ) → Last to ≡ Other → ⊥
none_last to e = cc

none_both : (to other : ℕ) → Both to other ≡ Other → ⊥
none_both to other e = cc

-- With a copy of the current pair below, and other choice points, nothing else is left out, and the same may match.
module _ (area : Area) (s : branch.State) (c : Contents) (ps : List Point) where
  abbrev more : Contents
  more = record c { points = ps }

  same_none : (other : ℕ) → LeavesOut area (with_pair s) other more None → LeavesOut area s other c None
  same_none other out = λ marks shown name e b kids naming m. (let k = out marks shown name e b kids naming m in record { gone = k.gone; kept = k.kept; both = k.both; none = k.none; tries = k.tries })

  same_some : (other next : ℕ) → LeavesOut area (with_pair s) other more (Some next) → LeavesOut area s other c (Some next)
  same_some other next out = λ marks shown name e b kids naming m. (let k = out marks shown name e b kids naming m in
      record { gone = k.gone; kept = k.kept; both = k.both; none = k.none; tries = k.tries })

  same_may : (at : ℕ) → MayMatch area (with_pair s) at more → MayMatch area s at c
  same_may at (inl k) = inl (record {
    argument = k.argument;
    wanted = k.wanted;
    asks = k.asks;
    so = record { cell = k.so.cell; there = k.so.there; shown = k.so.shown; is_seen = k.so.is_seen; so = k.so.so };
  })
  same_may at (inr k) = inr k

  same_from : (at : ℕ) → MayMatchFrom area (with_pair s) at more → MayMatchFrom area s at c
  same_from at k = (k.0, k.1, same_may (first_of k.0 at) k.2)

module _ (area : Area) (s : branch.State) (c : Contents) (s1 : branch.State) (at : ℕ) (c1 : Contents) (gone : IsBackAt area s c s1 at c1) where
  same_later : IsLater area s1 at at c1
  same_later = record { goes = λ k. k.here; near = omega arith; inside = λ n k. k }

  all_left : LeavesOut area s1 at c1 (Some at)
  all_left = λ marks shown name e b kids naming m. record { gone = []; kept = kids; both = refl; none = tt; tries = m }

  -- No choice stands there.
  pub other_again : TriesAgain area s c s1 c1 at
  other_again = record { back = s1; at = at; areas = c1; gone = gone; taken = inl (refl, refl, refl) }

  -- The last clause is tried.
  module _ (to : ℕ) (is : IsTried area at (Last to)) where
    last_choice : IsChoice is.0
    last_choice = choice_at is.0 at (λ e. none_last to (is.2 ∙ e))

    pub last_again : TriesAgain area s c s1 c1 to
    last_again = record {
      back = s1;
      at = at;
      areas = c1;
      gone = gone;
      taken = inr (record {
        safe = place_safe area s1 at c1 gone.safe is.0 is.1 last_choice at same_later all_left to (last_place area s1 at c1 gone.safe is.0 is.1 last_choice at same_later all_left to is);
        chooses = chooses_last area s1 at c1 gone.safe is.0 is.1 last_choice at same_later all_left to is;
        falls = place_falls area s1 at c1 gone.safe is.0 is.1 last_choice at same_later all_left to (last_place area s1 at c1 gone.safe is.0 is.1 last_choice at same_later all_left to is);
      });
    }

  -- A clause before others is tried.
  module _ (to other : ℕ) (is : IsTried area at (Both to other)) (sound : IsSound (with_pair s1)) where
    both_choice : IsChoice is.0
    both_choice = choice_at is.0 at (λ e. none_both to other (is.2 ∙ e))

    -- the machine with the point still there
    abbrev pub pointed : Contents
    pointed = record c1 { points = point_of c1 at ∷ c1.points }

    pub other_safe : IsSafe area (with_pair s1) other 0 pointed
    other_safe = record {
      states = gone.safe.states;
      verified = gone.safe.verified;
      atoms = gone.safe.atoms;
      sound = sound;
      here = thread_kept area gone.safe.states s1 (with_pair s1) other 0 c1.registers c1.slots c1.returns (λ d own. own)
          (both_places area s1 at c1 gone.safe is.0 is.1 both_choice at same_later all_left to other is).1.0;
      points = (
        thread_kept area gone.safe.states s1 (with_heap (with_pair s1) s1.heaps.now) at 0 c1.registers c1.slots c1.returns (λ d own. own)
            gone.safe.here,
        points_kept area gone.safe.states s1 (with_pair s1) refl c1.points s1.heaps.below gone.safe.points,
      );
    }

    module _ (s' : branch.State) (c' : Contents) where
      again : IsTaken area s1 at c1 s' c' (On to) → TriesAgain area s c s' c' to
      again k = record { back = s1; at = at; areas = c1; gone = gone; taken = inr k }

      kept_again : (o : Option ℕ) → LeavesOut area (with_pair s1) other pointed o → KeptFor area (with_pair s1) other pointed s' c' o → TriesAgain area s c s' c' to
      unfolding other_safe
      kept_again (Some next) left k =
          let out = same_some area s1 c1 pointed.points other next left in
          let may = same_from area s1 c1 pointed.points next k.1 in
          let goes : IsThread area gone.safe.states s1 next 0 c1.registers c1.slots c1.returns = thread_kept area gone.safe.states (with_pair s1) s1 next 0
          c1.registers c1.slots c1.returns (λ d own. own) (k.0.goes other_safe) in
          again (left_to (λ s to a. IsTaken area s1 at c1 s a (On to)) (with_pair s1) s' to to (record c1 { points = point_of c1 next ∷ c1.points }) c' k.2 refl
          (k.3 (point_of c1 at) c1.points refl) (record {
            safe = point_safe area s1 at c1 gone.safe is.0 is.1 both_choice at same_later all_left to other is next out goes k.0.near k.0.inside sound;
            chooses = chooses_point area s1 at c1 gone.safe is.0 is.1 both_choice at same_later all_left to other is next out goes k.0.near k.0.inside may;
            falls = point_falls area s1 at c1 gone.safe is.0 is.1 both_choice at same_later all_left to other is next out goes k.0.near k.0.inside;
          }))
      kept_again None left k =
          let out = same_none area s1 c1 pointed.points other left in
          let place = (both_places area s1 at c1 gone.safe is.0 is.1 both_choice at same_later all_left to other is).0 in
          again (left_to (λ s to a. IsTaken area s1 at c1 s a (On to)) s1 s' to to c1 c' k.0 refl k.1 (record {
            safe = place_safe area s1 at c1 gone.safe is.0 is.1 both_choice at same_later all_left to place;
            chooses = chooses_alone area s1 at c1 gone.safe is.0 is.1 both_choice at same_later all_left to other is out;
            falls = place_falls area s1 at c1 gone.safe is.0 is.1 both_choice at same_later all_left to place;
          }))

      pub both_again : KeepsPoint area (with_pair s1) other pointed s' c' → TriesAgain area s c s' c' to
      both_again k = kept_again k.at k.out k.kept

-- ---- areas that were restored with the point still there

module _ (area : Area) (s : branch.State) (c : Contents) (safe : IsSafeBack area s c) (s1 : branch.State) (undone : IsUndone s s1) (sound : IsSound s1) (c2 : Contents) (at : ℕ)
    (back : c2.points ≡ point_of c2 at ∷ drop 1 c2.points) (same : c2.points ≡ c.points)
  where
    -- those without the point
    abbrev pub without : Contents
    without = record c2 { points = drop 1 c2.points }

    points_are : c.points ≡ point_of without at ∷ without.points
    points_are = sym same ∙ back

    pub restored_whole : c2 ≡ record without { points = point_of without at ∷ without.points }
    restored_whole = ap (λ ps. record c2 { points = ps }) back

    pub restored_gone : IsBackAt area s c s1 at without
    restored_gone = record {
      safe = resumed_safe area s s1 c without at safe points_are undone sound;
      runs = resumed_runs area s s1 c without at points_are undone;
      branch = undone;
      points = points_are;
    }
