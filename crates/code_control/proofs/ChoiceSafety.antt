-- Where a choice leads it is safe to go on, with the same to come, and less is left to be done.
use Rattle.std.proofs.Common.{◌≡◌, ℕ, suc, ◌<◌, ◌≤◌, ◌∷◌, length, Some, None, slice_get, ap, refl, sym, ◌∙◌, subst, inl, inr, arith}
use Rattle.std.proofs.lemmas.Option.{same_Some}
use Rattle.branch_state.specs.States as branch
use Rattle.branch_state.specs.States.{IsSound, with_pair}
use Rattle.wam_code.specs.declared.instruction.Code.{Code}
use Rattle.wam_code.specs.declared.instruction.Code.TheVariants.{TryMeElse, RetryMeElse, TrustMe, Try, Retry, Trust}
use Rattle.wam_code.specs.Area.{Area, Holds}
use Rattle.wam_code.specs.CodeRegions.{distance}
use Rattle.code_areas.specs.Areas.{Contents}
use Rattle.code_safety.specs.Choices.{point_of}
use Rattle.code_safety.specs.Queries.{StaysInside, KeepsQuery}
use Rattle.code_safety.specs.Safety.{IsThread, IsSafe}
use Rattle.code_safety.specs.RemainingEvents.{KeepsRunning}
use Rattle.code_safety.specs.Work.{work_at}
use Rattle.code_safety.specs.declared.instruction_outcomes.Went.TheVariants.{On, Back}
use Rattle.code_safety.proofs.Lemmas.{query_kept, place_within}
use Rattle.code_control.specs.declared.clause_selection.Tried.{Tried}
use Rattle.code_control.specs.declared.clause_selection.Tried.TheVariants.{Both, Last, Other}
use Rattle.code_control.specs.ClauseSelection.{tried_by, first_of, IsTried, IsChoice, FirstMayMatch, MayMatchFrom, IsLater, LeavesOut, Chooses}
use Rattle.code_control.proofs.SkippedClauses.{Place, Places, places_of, choice_of, skipped_runs, skipped_back, left_runs, alone_runs, last_runs}
use Rattle.code_control.proofs.Threads.{left_safe}
use Rattle.code_control.proofs.Work.{moved_falls, left_falls}

-- a place of the code, with all as it is
abbrev pub safe_at : (area : Area) (s : branch.State) (from at : ℕ) (c : Contents) (safe : IsSafe area s from 0 c)
    → IsThread area safe.states s at 0 c.registers c.slots c.returns → IsSafe area s at 0 c
safe_at area s from at c safe here = record { states = safe.states; verified = safe.verified; atoms = safe.atoms; sound = safe.sound; here = here; points = safe.points }

module _ (area : Area) (s : branch.State) (from : ℕ) (c : Contents) (safe : IsSafe area s from 0 c) (at : ℕ) (later : IsLater area s from at c) (t : Tried) (is : IsTried area at t) where
  abbrev here : IsSafe area s at 0 c
  here = safe_at area s from at c safe (later.goes safe)

  -- the places that the choice at a later place leads to
  pub led : Places area s at c here t
  led = subst (Places area s at c here) (sym is.2) (places_of area s at c here is.0 is.1)

module _ (area : Area) (s : branch.State) (from : ℕ) (c : Contents) (safe : IsSafe area s from 0 c) (at : ℕ) (later : IsLater area s from at c) where
  -- A later place is safe to go on at, and in the code,
  pub here_safe : IsSafe area s at 0 c
  here_safe = safe_at area s from at c safe (later.goes safe)

  pub later_within : at < length area.code
  later_within = place_within area s at 0 c here_safe

  -- and the clause that the choice there tries first is safe to begin.
  pub first_safe : (to other : ℕ) → IsTried area at (Both to other) → IsSafe area s to 0 c
  first_safe to other is = safe_at area s from to c safe (led area s from c safe at later (Both to other) is).0.0

  pub last_safe : (to : ℕ) → IsTried area at (Last to) → IsSafe area s to 0 c
  last_safe to is = safe_at area s from to c safe (led area s from c safe at later (Last to) is).0

  pub tried_safe : (t : Tried) → IsTried area at t → IsSafe area s (first_of t at) 0 c
  tried_safe (Both to other) is = first_safe to other is
  tried_safe (Last to) is = last_safe to is
  tried_safe Other is = here_safe

  pub other_nearer : (to other : ℕ) → IsTried area at (Both to other) → distance area other < distance area at
  other_nearer to other is = (led area s from c safe at later (Both to other) is).1.1

-- the place where other clauses are is later still
pub later_more : (area : Area) (s : branch.State) (from : ℕ) (c : Contents) (safe : IsSafe area s from 0 c) (at : ℕ) → IsLater area s from at c → (to other : ℕ)
    → IsTried area at (Both to other) → IsLater area s from other c
later_more area s from c safe at later to other is = record {
  goes = λ it. (led area s from c it at later (Both to other) is).1.0;
  near = (let near = (led area s from c safe at later (Both to other) is).1.1 in let less = later.near in omega (arith, near, less));
  inside = λ number k. (led area s from c safe at later (Both to other) is).1.2 number (later.inside number k);
}

-- What is tried at a place is one thing.
pub may_match : (area : Area) (s : branch.State) (at : ℕ) (c : Contents) → MayMatchFrom area s at c → (t : Tried) → IsTried area at t → FirstMayMatch area s at c t
may_match area s at c may t is =
    let same = same_Some may.1.0 is.0 (sym may.1.1 ∙ is.1) in
    subst (FirstMayMatch area s at c) (may.1.2 ∙ ap (λ j. tried_by j at) same ∙ sym is.2) may.2

no_other : (to other : ℕ) → Both to other ≡ Other → ⊥
no_other to other e = cc

no_last : (to : ℕ) → Last to ≡ Other → ⊥
no_last to e = cc

module _ (area : Area) (s : branch.State) (at : ℕ) (c : Contents) (safe : IsSafe area s at 0 c) (i : Code) (f : Holds area at i) (choice : IsChoice i) where
  -- no clause may match
  pub chooses_none : LeavesOut area s at c None → Chooses area s at c s c Back
  chooses_none out = inl (record { same = refl; areas = refl; runs = skipped_back area s at c i (choice_of i 0 choice) f out; query = tt })

  module _ (first : ℕ) (later : IsLater area s at first c) (out : LeavesOut area s at c (Some first)) where
    abbrev begun : IsSafe area s first 0 c
    begun = safe_at area s at first c safe (later.goes safe)

    abbrev PlaceOf : ℕ → Type 0
    PlaceOf to = Place area s first c begun to

    skip : KeepsRunning area s at c s first c
    skip = skipped_runs area s at c i (choice_of i 0 choice) f first out

    near_from : (to : ℕ) → PlaceOf to → distance area to < distance area at
    near_from to p = let near = p.1 in let less = later.near in omega (arith, near, less)

    inside_from : (to : ℕ) → PlaceOf to → StaysInside area at to
    inside_from to p = λ number k. p.2 number (later.inside number k)

    -- Any place that the first choice leads to is safe, and nearer to the end.
    pub place_safe : (to : ℕ) → PlaceOf to → IsSafe area s to 0 c
    place_safe to p = safe_at area s at to c safe p.0

    pub place_falls : (to : ℕ) → PlaceOf to → work_at area to c < work_at area at c
    place_falls to p = moved_falls area safe.states safe.verified at c to (near_from to p)

    place_query : (to : ℕ) → PlaceOf to → KeepsQuery area at c to c
    place_query to p = query_kept area at to c (inside_from to p)

    -- the last clause
    module _ (to : ℕ) (is : IsTried area first (Last to)) where
      pub last_place : PlaceOf to
      last_place = led area s at c safe first later (Last to) is

      pub chooses_last : Chooses area s at c s c (On to)
      chooses_last = inl (record {
        same = refl;
        areas = refl;
        runs = λ t ls u naming m. last_runs area s first c is.0 (choice_of is.0 first (λ e. no_last to (is.2 ∙ e))) is.1 to is.2 t ls u naming (skip t ls u naming m);
        query = place_query to last_place;
      })

    -- no choice at all
    module _ (is : IsTried area first Other) where
      not_here : first ≡ at → ⊥
      not_here e = choice (none_there i (subst (λ j. Other ≡ tried_by j first) (same_Some is.0 i (sym is.1 ∙ ap (slice_get area.code) e ∙ f)) is.2))
        where
          none_there : (i : Code) → Other ≡ tried_by i first → tried_by i 0 ≡ Other
          none_there (TryMeElse o) e = absurd (no_other (suc first) o (sym e))
          none_there (RetryMeElse o) e = absurd (no_other (suc first) o (sym e))
          none_there (Try to) e = absurd (no_other to (suc first) (sym e))
          none_there (Retry to) e = absurd (no_other to (suc first) (sym e))
          none_there TrustMe e = absurd (no_last (suc first) (sym e))
          none_there (Trust to) e = absurd (no_last to (sym e))
          none_there _ e = refl

      nearer : distance area first < distance area at
      nearer =
          let less = later.near in
          let within = place_within area s at 0 c safe in
          let low = place_within area s first 0 c begun in
          omega (arith, less, within, low, not_here)

      pub other_falls : work_at area first c < work_at area at c
      other_falls = moved_falls area safe.states safe.verified at c first nearer

      pub chooses_other : Chooses area s at c s c (On first)
      chooses_other = inl (record { same = refl; areas = refl; runs = skip; query = query_kept area at first c later.inside })

    -- clauses at two places
    module _ (to other : ℕ) (is : IsTried area first (Both to other)) where
      pub both_places : PlaceOf to × PlaceOf other
      both_places = led area s at c safe first later (Both to other) is

      pub chooses_alone : LeavesOut area s other c None → Chooses area s at c s c (On to)
      chooses_alone none = inl (record {
        same = refl;
        areas = refl;
        runs = λ t ls u naming m. alone_runs area s first c is.0 (choice_of is.0 first (λ e. no_other to other (is.2 ∙ e))) is.1 to other is.2 none t ls u naming (skip t ls u naming m);
        query = place_query to both_places.0;
      })

      -- with a choice point for some of those at the other one
      module _ (next : ℕ) (left : LeavesOut area s other c (Some next)) (goes : IsThread area safe.states s next 0 c.registers c.slots c.returns)
          (near : distance area next ≤ distance area other) (inside : StaysInside area other next) where
        abbrev pub with_point : Contents
        with_point = record c { points = point_of c next ∷ c.points }

        pub point_safe : IsSound (with_pair s) → IsSafe area (with_pair s) to 0 with_point
        point_safe sound = left_safe area s at c safe to next both_places.0.0 goes sound

        pub point_falls : work_at area to with_point < work_at area at c
        point_falls =
            left_falls area safe.states safe.verified at c to next (near_from to both_places.0)
            (let less = near_from other both_places.1 in omega (arith, near, less))

        pub chooses_point : MayMatchFrom area s next c → Chooses area s at c (with_pair s) with_point (On to)
        chooses_point may = inr (record {
          to = to;
          other = next;
          on = refl;
          later = may;
          pair = refl;
          areas = refl;
          runs = λ t ls u naming m. left_runs area s first c is.0 (choice_of is.0 first (λ e. no_other to other (is.2 ∙ e))) is.1 to other is.2 next left t ls u naming (skip t ls u naming m);
          query = place_query to both_places.0;
          left = query_kept area at next c (λ number k. inside number (inside_from other both_places.1 number k));
        })

      module _ (next : ℕ) (left : LeavesOut area s other c (Some next)) (more : IsLater area s other next c) where
        pub next_thread : IsThread area safe.states s next 0 c.registers c.slots c.returns
        unfolding place_safe
        next_thread = more.goes (place_safe other both_places.1)

        pub both_safe : IsSound (with_pair s) → IsSafe area (with_pair s) to 0 (with_point next left next_thread more.near more.inside)
        both_safe sound = point_safe next left next_thread more.near more.inside sound

        pub both_falls : work_at area to (with_point next left next_thread more.near more.inside) < work_at area at c
        both_falls = point_falls next left next_thread more.near more.inside

        pub chooses_both : MayMatchFrom area s next c → Chooses area s at c (with_pair s) (with_point next left next_thread more.near more.inside) (On to)
        chooses_both may = chooses_point next left next_thread more.near more.inside may
