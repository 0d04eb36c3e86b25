-- The code of a whole clause, and of a whole query.
use Rattle.std.proofs.Common.{◌≡◌, ◌⊎◌, ℕ, zero, suc, ◌+◌, ◌-◌, ◌<◌, ◌≤◌, Bool, true, false, ◌||◌, IsTrue, List, [], ◌∷◌, ◌++◌, map, Option, Some, None, length}
use Rattle.std.proofs.Common.{slice_get, replicate, refl, ap, sym, ◌∙◌, subst, arith, inl, inr, append-nil, append_assoc, eq-eqb, ne_eqb}
use Rattle.std.proofs.lemmas.Bool.{cases_eq, cases_lt, true≢false}
use Rattle.std.proofs.lemmas.List.{get_or-replicate, length-replicate, length-append}
use Rattle.std.proofs.lemmas.Option.{slice_get-get_or}
use Rattle.fd_language.specs.Family.{has}
use Rattle.fd_language.specs.Term.{Term, Terms, Var, Int, Atom, Comp, no_terms, term, term_count}
use Rattle.fd_language.specs.Unifier.{Equation}
use Rattle.fd_model.specs.Goal as goal
use Rattle.fd_model.specs.Goal.{Goal, Clause, Query, marked_all}
use Rattle.fd_model.specs.Renaming.{rename_goal}
use Rattle.fd_model.specs.ConstraintExpansion.{arguments}
use Rattle.fd_model.specs.Children.{paired}
use Rattle.branch_meaning.specs.Heap.{Of, AllOf}
use Rattle.term_pool.specs.Contents.{Contents, atom_name}
use Rattle.wam_code.specs.declared.instruction.Register.{Register}
use Rattle.wam_code.specs.declared.instruction.Register.TheVariants.{Y}
use Rattle.wam_code.specs.declared.instruction.Code.{Code}
use Rattle.wam_code.specs.declared.instruction.Code.TheVariants.{Allocate, Deallocate, Execute, Proceed, AnswerNow}
use Rattle.wam_code.specs.Area.{Slot, Unset, State}
use Rattle.wam_code.specs.Effect.{slot_at, is_cell, may_be_level, is_unset, is_set, is_free, has_frame, no_frame, are_given, effect}
use Rattle.wam_code.specs.VerifiedCode.{goes_on, Covers, IsFirst}
use Rattle.wam_code.specs.Places.{Depth, no_depth, Places, put_at, read, no_slots, Hold, made}
use Rattle.wam_code.specs.CodeMeaning.{Caller, Shows, Means}
use Rattle.wam_code.specs.Tries.{IsBefore}
use Rattle.wam_code.proofs.Lemmas.{covers_self, put_here, put_else}
use Rattle.branch_meaning.proofs.Lemmas.{functions, more_all}
use Rattle.clause_code.specs.Pieces.{Base, Predicate, past, Does, Ends}
use Rattle.clause_code.specs.SafeCode.{unplaced, aims, is_plain, IsThereIn, IsSafePiece, IsClauseCode, IsQueryPiece}
use Rattle.clause_code.specs.StateFlow.{is_inner, Runs, Flows, MayEnter}
use Rattle.clause_code.specs.Steps.{home, is_made, marked_by_all, code_of, gets, puts, fills, filled, Suits, AllSuit}
use Rattle.clause_code.specs.Bodies.{Levels, HasDepths, AreFree, between_goals, InBody, IsRest, IsGoalsCode}
use Rattle.clause_code.specs.ClauseParts.{front, back, unmade, head_code, levels_code, levels_behind, no_levels, IsHoused}
use Rattle.clause_code.specs.ArgumentHomes.{AllWait}
use Rattle.clause_code.proofs.Pieces.{does_both, does_allocate, ends_behind, ends_proceed, ends_execute, ends_answer, does_deallocate}
use Rattle.clause_code.proofs.FreshVariables.{AreApart, Unknown, KeepsSlots, has_more}
use Rattle.clause_code.proofs.NestedStructures.{EachUnder}
use Rattle.clause_code.proofs.LevelInstructions.{levels_done, levels_run}
use Rattle.clause_code.proofs.StepEffects.{when_true, both, plain_of, moved, moved_all, count_moved, AllMade, At, Went, went_both, runs_both}
use Rattle.clause_code.proofs.BuiltTerms.{gets_went, PutAllBy, puts_put}
use Rattle.clause_code.proofs.UnmadeVariables.{filled_made, fills_went}
use Rattle.clause_code.proofs.StateFlow.{flows_both, flows_runs, flows_simple, flows_runs_less, enters_runs, enters_both, safe_ends, get_last, get_only}
use Rattle.clause_code.proofs.StateFlow.{get_both}
use Rattle.clause_code.proofs.Bodies.{nothing_held, no_home, between_in, at_body, body_at, Fine, single_enters, steps_enter, renamed_both}
use Rattle.clause_code.proofs.GoalKinds.{given_cells, moved_made}
use Rattle.clause_code.proofs.SameGoals.{goals_identity}

-- ---- the first state

firsts : ℕ → List ℕ
firsts zero = []
firsts (suc k) = suc k ∷ firsts k

has_split : (m : ℕ) (rs : List ℕ) (n : ℕ) → has (m ∷ rs) n ≡ true → (n ≡ m) ⊎ (has rs n ≡ true)
has_split m rs n h = elim (cases_eq n m) [
  | inl e ↦ inl e
  | inr d ↦ inr (sym (ap (λ c. c || has rs n) (ne_eqb m n (λ e. d (sym e)))) ∙ h)
]

has_here : (m n : ℕ) (rs : List ℕ) → n ≡ m → has (m ∷ rs) n ≡ true
has_here m n rs e = ap (λ c. c || has rs n) (eq-eqb m n (sym e))

firsts_are : (k n : ℕ) → has (firsts k) n ≡ true → (1 ≤ n) × (n ≤ k)
unfolding firsts
firsts_are zero n h = absurd (true≢false (sym h))
firsts_are (suc k) n h = elim (has_split (suc k) (firsts k) n h) [
  | inl e ↦ (omega (arith, e), omega (arith, e))
  | inr g ↦ let w = firsts_are k n g in let a = w.0 in let c = w.1 in (a, omega (arith, c))
]

firsts_have : (k n : ℕ) → 1 ≤ n → n ≤ k → has (firsts k) n ≡ true
unfolding firsts
firsts_have zero n l m = absurd (omega (arith, l, m))
firsts_have (suc k) n l m = elim (cases_eq n (suc k)) [
  | inl e ↦ has_here (suc k) n (firsts k) e
  | inr d ↦ has_more (suc k) n (firsts k) (firsts_have k n l (omega (arith, m, d)))
]

abbrev first_frame : Bool → ℕ → Option (List Slot)
first_frame true slots = Some (replicate slots Unset)
first_frame false slots = None

abbrev before_frame : ℕ → State
before_frame k = record { regs = firsts k; frame = None; owed = 0 }

abbrev first_state : Bool → ℕ → ℕ → State
first_state framed slots k = record { regs = firsts k; frame = first_frame framed slots; owed = 0 }

first_is : (k : ℕ) → IsFirst k (before_frame k)
first_is k = record { regs = λ n. (firsts_are k n, λ h. firsts_have k n h.0 h.1); frame = refl; owed = refl }

hold_slots : (p : Places) (i : ℕ) (as' : Terms) → Hold p i as' → Hold (no_slots p) i as'
hold_slots p i no_terms h = tt
hold_slots p i (term a as') h = (h.0, hold_slots p (suc i) as' h.1)

-- ---- the head

-- What stands before the goals: it begins with the arguments of the head and the depth that was noted, and leaves each variable in its home, and the depth in
-- the slot that cuts go to.
pub record Begun (b : Base) (homes : List Register) (l : Levels) (at : ℕ) (is : List Code) (ts : Terms) (n : ℕ) (as' : Terms) (d : Depth) (p : Places) : Type 0 where
  pub q : Places
  pub depths : ℕ → Option Depth
  pub has : HasDepths l depths d
  pub there : InBody n homes depths q
  pub does : (gs : List Goal) → Does b at is p (paired as' (moved_all n ts)) gs q [] gs

pub record Start (b : Base) (homes : List Register) (framed : Bool) (l : Levels) (at : ℕ) (is : List Code) (ts : Terms) : Type 0 where
  pub first : State
  pub rest : State
  pub begins : IsFirst (term_count ts) first
  pub rested : IsRest homes framed l rest
  pub flows : Flows b at is first rest
  pub enters : MayEnter is
  pub does : (n : ℕ) (as' : Terms) (d : Depth) (p : Places) → term_count as' ≡ term_count ts → AllOf (λ v. v < n) as' → Hold p 1 as' → p.noted ≡ Some d
      → IsBefore p n (length homes) → Begun b homes l at is ts n as' d p

-- ---- the equations of a head

mutual
  moved_under : (c : Contents) (n v k : ℕ) → n + v ≤ k → (t : Term) → Suits c v t → Of (λ x. x < k) (moved n t)
  moved_under c n v k l (Var x) s = omega (arith, l, s)
  moved_under c n v k l (Int z) s = tt
  moved_under c n v k l (Atom a) s = tt
  moved_under c n v k l (Comp f ts) s = all_moved_under c n v k l ts s.3

  all_moved_under : (c : Contents) (n v k : ℕ) → n + v ≤ k → (ts : Terms) → AllSuit c v ts → AllOf (λ x. x < k) (moved_all n ts)
  all_moved_under c n v k l no_terms s = tt
  all_moved_under c n v k l (term t ts) s = (moved_under c n v k l t s.0, all_moved_under c n v k l ts s.1)

paired_under : (k : ℕ) (as' ts : Terms) → AllOf (λ x. x < k) as' → AllOf (λ x. x < k) ts → EachUnder k (paired as' ts ++ [])
paired_under k no_terms ts h g = tt
paired_under k (term a as') no_terms h g = tt
paired_under k (term a as') (term t ts) h g = ((h.0, g.0), paired_under k as' ts h.1 g.1)

-- Their variables are those before the clause and the clause's own.
head_under : (c : Contents) (p : Places) (n v : ℕ) (as' ts : Terms) → IsBefore p n v → AllOf (λ x. x < n) as' → AllSuit c v ts → EachUnder p.top (paired as' (moved_all n ts) ++ [])
head_under c p n v as' ts before h s =
    let e = before.top in
    paired_under p.top as' (moved_all n ts) (more_all (λ x. x < n) (λ x. x < p.top) (λ x o. omega (arith, o, e)) as' h) (all_moved_under c n v p.top (omega (arith, e)) ts s)

-- and none that is still to come is known
before_unknown : (p : Places) (n v : ℕ) → IsBefore p n v → Unknown p
before_unknown p n v before i l = let e = before.top in before.fresh i (omega (arith, l, e))

is_unmade : (homes : List Register) (x : ℕ) → x < length homes → is_made (unmade homes) x ≡ false
is_unmade homes x l = get_or-replicate (length homes) x false true l

module _ (b : Base) (homes : List Register) (framed : Bool) (slots k free : ℕ) (housed : IsHoused homes framed slots k free) (ts : Terms)
    (suit : AllSuit b.pool (length homes) ts) (few : term_count ts ≤ k) (waits : AllWait homes 1 (term_count ts) ts) where
  free_home : (x : ℕ) → x < length homes → is_free (first_state framed slots (term_count ts)) (home homes x) ≡ true
  free_home x l = by framed refl
    where
      by : (f : Bool) → framed ≡ f → is_free (first_state f slots (term_count ts)) (home homes x) ≡ true
      by true e =
          let w = housed.in_frame e x l in
          let s : State = first_state true slots (term_count ts) in
          let there : slice_get (replicate slots Unset) w.0 ≡ Some Unset =
          let m = w.2 in
          let long = length-replicate slots Unset in
          slice_get-get_or (replicate slots Unset) w.0 Unset (omega (arith, m, long)) ∙ ap Some (get_or-replicate slots w.0 Unset Unset m) in
          subst (λ r. is_free s r ≡ true) (sym w.1) (ap is_unset there)
      by false e = let w = housed.in_registers e x l in subst (λ r. is_free (first_state false slots (term_count ts)) r ≡ true) (sym w.1) refl

  at_first : (n : ℕ) (p : Places) → IsBefore p n (length homes) → At n homes (unmade homes) p (first_state framed slots (term_count ts))
  at_first n p before = record {
    fits = record {
      held = λ x l e. absurd (true≢false (sym e ∙ is_unmade homes x l));
      fresh = λ x l e. (before.fresh (n + x) (omega arith), let t = before.top in omega (arith, t, l));
      whole = λ i l h. elim (less_or i n) [
        | inl m ↦ before.known i m
        | inr m ↦ let t = before.top in let lx : m.0 < length homes = let e = m.1 in omega (arith, l, t, e) in absurd (true≢false (sym (h m.0 lx m.1) ∙ is_unmade homes m.0 lx))
      ];
      own = before.own;
    };
    tracks = record { set = λ x l e. absurd (true≢false (sym e ∙ is_unmade homes x l)); free = λ x l e. free_home x l };
    long = length-replicate (length homes) false;
  }
    where
      less_or : (i n : ℕ) → (i < n) ⊎ ((x : ℕ) × (i ≡ n + x))
      less_or i zero = inr (i, omega arith)
      less_or zero (suc n) = inl (omega arith)
      less_or (suc i) (suc n) = elim (less_or i n) [ inl l ↦ inl (omega (arith, l)) | inr w ↦ let e = w.1 in inr (w.0, omega (arith, e)) ]

  -- the head, from the places of a clause with its frame
  record Headed (n at : ℕ) (as' : Terms) (p : Places) : Type 0 where
    q : Places
    t : State
    does : (gs : List Goal) → Does b at (head_code b.pool homes free ts) p (paired as' (moved_all n ts)) gs q [] gs
    runs : Runs b (first_state framed slots (term_count ts)) (head_code b.pool homes free ts) t
    there : InBody n homes nothing_held q
    noted : q.noted ≡ p.noted
    set : (x : ℕ) → x < length homes → is_set t (home homes x) ≡ true
    slots_kept : KeepsSlots homes (first_state framed slots (term_count ts)) t
    owed : t.owed ≡ 0
    shape : has_frame t.frame ≡ has_frame (first_frame framed slots)

  headed : (n at : ℕ) (as' : Terms) (p : Places) → term_count as' ≡ term_count ts → AllOf (λ v. v < n) as' → Hold p 1 as' → IsBefore p n (length homes) → Headed n at as' p
  headed n at as' p size below hold before =
      let made0 : List Bool = unmade homes in
      let s0 : State = first_state framed slots (term_count ts) in
      let heads : List Code = code_of homes made0 (gets b.pool 1 free ts) in
      let mid : List Bool = marked_by_all made0 (gets b.pool 1 free ts) in
      let es : List Equation = paired as' (moved_all n ts) in
      let above : k < free = housed.above in
      let a0 = gets_went b n homes housed.apart made0 at 1 free ts as' p s0 [] (at_first n p before) refl suit size (omega (arith, above, few)) (term_count ts)
      (omega arith) waits housed.clear (before_unknown p n (length homes) before) (head_under b.pool p n (length homes) as' ts before below suit) hold
      (λ j l m. firsts_have (term_count ts) j l (omega (arith, m))) in
      let a : Went b n homes free free made0 at heads p s0 es mid [] = subst (λ e. Went b n homes free free made0 at heads p s0 e mid []) (append-nil es) a0 in
      let f = fills_went b n homes housed.apart mid (past at heads) free free (length homes) a.q a.t [] a.there a.owed (omega arith) (housed.clear free (omega arith)) (omega arith) in
      let w = went_both b n homes free free free free free free made0 mid (filled mid (length homes)) at heads (fills homes free mid (length homes)) p s0 es []
      [] (omega arith) (inl refl) (omega arith) (inl refl) a f in
      let long = a.there.long in
      let all : AllMade homes (filled mid (length homes)) = λ x l. filled_made mid (length homes) (omega (arith, long)) x l in
      record {
        q = w.q;
        t = w.t;
        does = w.does;
        runs = w.runs;
        there = body_at n homes nothing_held housed.apart (filled mid (length homes)) p w.q w.t all w.there (λ k e h. absurd (cc)) (λ k e h. absurd (cc)) w.keeps.depths;
        noted = w.keeps.depths.noted;
        set = λ x l. w.there.tracks.set x l (all x l);
        slots_kept = w.keeps.slots;
        owed = w.owed;
        shape = w.keeps.shape;
      }

-- a place with arguments, for the states alone
atoms : Terms → Terms
atoms no_terms = no_terms
atoms (term t ts) = term (Atom []) (atoms ts)

atoms_count : (ts : Terms) → term_count (atoms ts) ≡ term_count ts
unfolding atoms
atoms_count no_terms = refl
atoms_count (term t ts) = ap suc (atoms_count ts)

atoms_under : (n : ℕ) (ts : Terms) → AllOf (λ v. v < n) (atoms ts)
unfolding atoms
atoms_under n no_terms = tt
atoms_under n (term t ts) = (tt, atoms_under n ts)

abbrev some_place : ℕ → Places
some_place v = record { x = λ i. Some (Atom []); y = λ i. None; levels = nothing_held; noted = None; known = λ x. false; own = v; top = v }

atoms_hold : (v i : ℕ) (ts : Terms) → Hold (some_place v) i (atoms ts)
unfolding atoms
atoms_hold v i no_terms = tt
atoms_hold v i (term t ts) = (refl, atoms_hold v (suc i) ts)

some_before : (v : ℕ) → IsBefore (some_place v) 0 v
some_before v = let e : v ≡ 0 + v = omega arith in record { known = λ i l. absurd (omega (arith, l)); fresh = λ i l. refl; own = e; top = e }

-- states behind which less is said
runs_less : (b : Base) (at : ℕ) (i : Code) (is : List Code) (s t u : State) → Runs b s (i ∷ is) t → Covers t u → Flows b at (i ∷ is) s u
runs_less b at i [] s t u r c = flows_simple b at i s r.0 u r.1 (subst (λ x. Covers x u) (sym r.4) c) r.2 r.3
runs_less b at i (j ∷ js) s t u r c = flows_both b at (i ∷ []) (j ∷ js) s r.0 u (flows_simple b at i s r.0 r.0 r.1 (covers_self r.0) r.2 r.3) (runs_less b (suc at) j js r.0 t u r.4 c)

-- ---- depths at first

-- of so many level slots the first one has the depth that was noted
abbrev first_depths : ℕ → ℕ → Depth → ℕ → Option Depth
first_depths v zero d = nothing_held
first_depths v (suc n) d = put_at (suc v) d nothing_held

first_has : (v n : ℕ) (d : Depth) → HasDepths (levels_behind v n) (first_depths v n d) d
first_has v zero d = record { cut = λ c. absurd (let z = c.1 in omega (arith, z)); others = λ k e h. absurd (cc) }
first_has v (suc n) d = record { cut = λ c. put_here (suc v) d nothing_held; others = λ k e h. by k e h (cases_eq k (suc v)) }
  where
    by : (k : ℕ) (e : Depth) → put_at (suc v) d nothing_held k ≡ Some e → (k ≡ suc v) ⊎ (k ≡ suc v → ⊥) → (suc v ≤ k) × (k < suc (suc v)) × (e.points ≤ d.points)
    by k e h (inl o) =
        let same : Some d ≡ Some e = sym (put_here (suc v) d nothing_held) ∙ ap (put_at (suc v) d nothing_held) (sym o) ∙ h in
        let is : d ≡ e = cc in
        let m : d.points ≡ e.points = ap (λ y. y.points) is in
        (omega (arith, o), omega (arith, o), omega (arith, m))
    by k e h (inr o) = absurd (let none : None ≡ Some e = sym (put_else (suc v) d nothing_held k o) ∙ h in cc)

no_depths : (d : Depth) → HasDepths no_levels nothing_held d
no_depths d = record { cut = λ c. absurd (let z = c.1 in omega (arith, z)); others = λ k e h. absurd (cc) }

-- The code of a head without a frame.
pub start_short : (b : Base) (homes : List Register) (slots k free at : ℕ) (ts : Terms) → IsHoused homes false slots k free → AllSuit b.pool (length homes) ts
    → term_count ts ≤ k → AllWait homes 1 (term_count ts) ts → Start b homes false no_levels at (head_code b.pool homes free ts) ts
start_short b homes slots k free at ts housed suit few waits =
    let h = headed b homes false slots k free housed ts suit few waits 0 at (atoms ts) (some_place (length homes)) (atoms_count ts) (atoms_under 0 ts)
    (atoms_hold (length homes) 1 ts) (some_before (length homes)) in
    record {
      first = before_frame (term_count ts);
      rest = h.t;
      begins = first_is (term_count ts);
      rested = record { set = h.set; levels = λ j a z. absurd (omega (arith, z)); owed = h.owed; frame = h.shape; regs = λ e. absurd (true≢false (sym e)) };
      flows = flows_runs b at (head_code b.pool homes free ts) (before_frame (term_count ts)) h.t h.runs;
      enters = enters_runs b (head_code b.pool homes free ts) (before_frame (term_count ts)) h.t h.runs;
      does = λ n as' d p size below hold noted before. let g = headed b homes false slots k free housed ts suit few waits n at as' p size below hold before in
          record { q = g.q; depths = nothing_held; has = no_depths d; there = g.there; does = g.does };
    }

-- The code of a head with a frame, and then its level slots, so many, are set.
module _ (b : Base) (homes : List Register) (slots k free at : ℕ) (ts : Terms) (housed : IsHoused homes true slots k free)
    (suit : AllSuit b.pool (length homes) ts) (few : term_count ts ≤ k) (waits : AllWait homes 1 (term_count ts) ts)
    (v count : ℕ) (fits : AreFree homes (levels_behind v count)) (room : v + count ≤ slots) where
  abbrev l : Levels
  l = levels_behind v count

  abbrev heads : List Code
  heads = head_code b.pool homes free ts

  abbrev many : ℕ
  many = l.end - l.first

  first_is_v : l.first ≡ suc v
  first_is_v = by count
    where
      by : (n : ℕ) → (levels_behind v n).first ≡ suc v
      by zero = refl
      by (suc n) = refl

  end_is : l.first + many ≡ l.end
  end_is = by count
    where
      by : (n : ℕ) → (levels_behind v n).first + ((levels_behind v n).end - (levels_behind v n).first) ≡ (levels_behind v n).end
      by zero = omega arith
      by (suc n) = omega arith

  end_low : l.end ≤ suc slots
  end_low = by count room
    where
      by : (n : ℕ) → v + n ≤ slots → (levels_behind v n).end ≤ suc slots
      by zero h = omega (arith, h)
      by (suc n) h = omega (arith, h)

  -- a variable's slot is no level slot
  apart_slot : (x : ℕ) → x < length homes → (i : ℕ) → home homes x ≡ Y i → (i < l.first) ⊎ (l.first + many ≤ i)
  apart_slot x m i e = elim (cases_lt i l.first) [
    | inl a ↦ inl a
    | inr a ↦ elim (cases_lt i l.end) [ inl z ↦ absurd (fits.clear i a z x m e) | inr z ↦ let w = end_is in inr (omega (arith, z, w)) ]
  ]

  -- the level slots are unset before
  free_slot : (t : State) → KeepsSlots homes (first_state true slots (term_count ts)) t → (j : ℕ) → l.first ≤ j → j < l.first + many → may_be_level (slot_at t.frame j) ≡ true
  free_slot t kept zero a z = let f = first_is_v in absurd (omega (arith, a, f))
  free_slot t kept (suc j) a z =
      let e = end_is in
      let w = end_low in
      let low : j < slots = omega (arith, z, e, w) in
      let long = length-replicate slots Unset in
      let there : slice_get (replicate slots Unset) j ≡ Some Unset = slice_get-get_or (replicate slots Unset) j Unset (omega (arith, low, long)) ∙ ap Some (get_or-replicate slots j Unset Unset low) in
      ap may_be_level (kept (suc j) (fits.clear (suc j) a (omega (arith, z, e))) ∙ there)

  pub start_framed : Start b homes true l at (front true slots ++ (heads ++ levels_code l)) ts
  start_framed =
      let h = headed b homes true slots k free housed ts suit few waits 0 (suc at) (atoms ts) (some_place (length homes)) (atoms_count ts) (atoms_under 0 ts)
      (atoms_hold (length homes) 1 ts) (some_before (length homes)) in
      let r = levels_run b many l.first h.t h.owed (free_slot h.t h.slots_kept) in
      let rest : State = record r.t { regs = [] } in
      let cover : Covers r.t rest = record { frame = refl; owed = refl; regs = λ n e. absurd (true≢false (sym e)) } in
      let runs : Runs b (before_frame (term_count ts)) (Allocate slots ∷ (heads ++ levels_code l)) r.t =
      (first_state true slots (term_count ts), refl, refl, tt, runs_both b (first_state true slots (term_count ts)) h.t r.t heads (levels_code l) h.runs r.runs) in
      record {
        first = before_frame (term_count ts);
        rest = rest;
        begins = first_is (term_count ts);
        rested = record {
          set = λ x m.
              let w = housed.in_frame refl x m in
              let cell : is_set h.t (Y (suc w.0)) ≡ true = subst (λ i. is_set h.t i ≡ true) w.1 (h.set x m) in
              subst (λ i. is_set rest i ≡ true) (sym w.1) (ap is_cell (r.others (suc w.0) (apart_slot x m (suc w.0) w.1)) ∙ cell);
          levels = λ j a z. r.here j a (let e = end_is in omega (arith, z, e));
          owed = r.owed ∙ h.owed;
          frame = r.shape ∙ h.shape;
          regs = λ e. refl;
        };
        flows = runs_less b at (Allocate slots) (heads ++ levels_code l) (before_frame (term_count ts)) r.t rest runs cover;
        enters = enters_runs b (Allocate slots ∷ (heads ++ levels_code l)) (before_frame (term_count ts)) r.t runs;
        does = λ n as' d p size below hold noted before. begun n as' d p size below hold noted before;
      }
    where
      begun : (n : ℕ) (as' : Terms) (d : Depth) (p : Places) → term_count as' ≡ term_count ts → AllOf (λ v. v < n) as' → Hold p 1 as' → p.noted ≡ Some d
          → IsBefore p n (length homes) → Begun b homes l at (front true slots ++ (heads ++ levels_code l)) ts n as' d p
      begun n as' d p size below hold noted before =
          let before' : IsBefore (no_slots p) n (length homes) = record { known = before.known; fresh = before.fresh; own = before.own; top = before.top } in
          let g = headed b homes true slots k free housed ts suit few waits n (suc at) as' (no_slots p) size below (hold_slots p 1 as' hold) before' in
          let w = levels_done b (past (suc at) heads) many l.first d g.q (g.noted ∙ noted) in
          let es : List Equation = paired as' (moved_all n ts) in
          record {
            q = w.q;
            depths = first_depths v count d;
            has = first_has v count d;
            there = record {
              held = λ x m.
                  let o = housed.in_frame refl x m in
                  subst (λ i. read w.q i ≡ Some (Var (n + x))) (sym o.1) (w.ys (suc o.0) (apart_slot x m (suc o.0) o.1) ∙ subst (λ i. read g.q i ≡ Some (Var (n + x))) o.1 (g.there.held x m));
              levels = λ j e f.
                  let o = (first_has v count d).others j e f in
                  let there = w.here j o.0 (let z = o.1 in let y = fits.within in let x = end_is in omega (arith, z, y, x)) in
                  there ∙ same_depth count j e f;
              whole = λ i m. ap (λ u. u i) w.known ∙ g.there.whole i (subst (λ u. i < u) w.top m);
              own = w.own ∙ g.there.own;
            };
            does = λ gs.
                does_both b at (Allocate slots ∷ []) (heads ++ levels_code l) p (no_slots p) w.q es es [] gs gs gs (does_allocate b at slots p es gs)
                (does_both b (suc at) heads (levels_code l) (no_slots p) g.q w.q es [] [] gs gs gs (g.does gs) (w.does [] gs));
          }
        where
          same_depth : (c : ℕ) (j : ℕ) (e : Depth) → first_depths v c d j ≡ Some e → Some d ≡ Some e
          same_depth zero j e f = absurd (cc)
          same_depth (suc c) j e f = by (cases_eq j (suc v))
            where
              by : (j ≡ suc v) ⊎ (j ≡ suc v → ⊥) → Some d ≡ Some e
              by (inl o) = sym (put_here (suc v) d nothing_held) ∙ ap (put_at (suc v) d nothing_held) (sym o) ∙ f
              by (inr o) = absurd (let none : None ≡ Some e = sym (put_else (suc v) d nothing_held j o) ∙ f in cc)

-- ---- the end

-- What stands behind the goals: the last goals hs, and an instruction that hands its state to no place.
pub record Tail (b : Base) (homes : List Register) (framed : Bool) (l : Levels) (at : ℕ) (ks : List Code) (i : Code) (hs : List Goal) : Type 0 where
  pub ends : (s : State) → IsRest homes framed l s → (n : ℕ) (depths : ℕ → Option Depth) (d : Depth) → HasDepths l depths d → (p : Places) (w : Caller)
      → InBody n homes depths p → Ends b w at (ks ++ (i ∷ [])) p [] (marked_all d.branches (map (rename_goal (λ x. n + x)) hs) ++ w.goals)
  pub flows : (s : State) → IsRest homes framed l s → (t : State) × (u : State) × Flows b at ks s t × (effect (unplaced b) i t ≡ Some u)
  pub there : IsThereIn b i
  pub aims : aims i ≡ []
  pub last : goes_on i ≡ false
  pub plain : IsTrue (is_plain i)
  pub enters : MayEnter (ks ++ (i ∷ []))
  pub no_answer : i ≡ AnswerNow → ⊥

no_frame_of : (o : Option (List Slot)) → has_frame o ≡ false → no_frame o ≡ true
no_frame_of None e = refl
no_frame_of (Some ss) e = absurd (true≢false e)

-- No goal is left.
pub tail_proceed : (b : Base) (homes : List Register) (framed : Bool) (l : Levels) (at : ℕ) → Tail b homes framed l at (back framed) Proceed []
tail_proceed b homes false l at = record {
  ends = λ s r n depths d hd p w h. ends_proceed b w at p h.whole;
  flows = λ s r. (s, s, flows_runs b at [] s s refl, plain_of b Proceed s r.owed ∙ when_true _ s (no_frame_of s.frame r.frame));
  there = tt;
  aims = refl;
  last = refl;
  plain = refl;
  enters = single_enters Proceed refl;
  no_answer = λ e. absurd (cc);
}
tail_proceed b homes true l at = record {
  ends = λ s r n depths d hd p w h. ends_behind b w at (Deallocate ∷ []) (Proceed ∷ []) p (no_slots p) [] [] w.goals w.goals (does_deallocate b at p [] w.goals)
      (ends_proceed b w (suc at) (no_slots p) h.whole);
  flows = λ s r.
      let t : State = record s { frame = None } in
      (t, t, flows_simple b at Deallocate s t t (plain_of b Deallocate s r.owed ∙ when_true _ t r.frame) (covers_self t) refl tt, plain_of b Proceed t r.owed);
  there = tt;
  aims = refl;
  last = refl;
  plain = refl;
  enters = enters_both (Deallocate ∷ []) (Proceed ∷ []) (single_enters Deallocate refl) (single_enters Proceed refl);
  no_answer = λ e. absurd (cc);
}

-- The last goal is a user goal.
pub tail_execute : (b : Base) (homes : List Register) (apart : AreApart homes) (l : Levels) (fits : AreFree homes l) (framed : Bool) (made_now : List Bool)
    (free at : ℕ) → AllMade homes made_now → length made_now ≡ length homes → (e : ℕ) (s : Predicate) (us : Terms)
    → slice_get b.predicates e ≡ Some s → term_count us ≡ s.arity → e < length b.predicates → Fine b homes free us
    → Tail b homes framed l at (code_of homes made_now (puts b.pool 1 free us) ++ back framed) (Execute e)
    (goal.Call (made (atom_name b.pool s.name) us) ∷ [])
tail_execute b homes apart l fits framed made_now free at all long e s us h ar le fine = record {
  ends = λ c r n depths d hd p w body. ends framed c r n depths d hd p w body;
  flows = λ d r. flow framed d r;
  there = le;
  aims = refl;
  last = refl;
  plain = refl;
  enters = enters_both (js ++ back framed) (Execute e ∷ []) (enters_both js (back framed) (steps_enter homes made_now (puts b.pool 1 free us)) (back_enters framed)) (single_enters (Execute e) refl);
  no_answer = λ e. absurd (cc);
}
  where
    js : List Code
    js = code_of homes made_now (puts b.pool 1 free us)

    put : (f : Bool) (n : ℕ) (depths : ℕ → Option Depth) (at : ℕ) (p : Places) (d : State) → IsRest homes f l d → InBody n homes depths p
        → PutAllBy b n homes apart 1 made_now at p d [] (puts b.pool 1 free us) us
    put f n depths at p d r body = puts_put b n homes apart made_now at 1 free us p d [] (at_body n homes depths apart f l made_now p d all long body r) r.owed
        fine.suit (let m = fine.below in omega (arith, m)) all fine.lands fine.clear

    goals : ℕ → Caller → List Goal
    goals n w = goal.Call (moved n (made (atom_name b.pool s.name) us)) ∷ w.goals

    execute : (n : ℕ) (depths : ℕ → Option Depth) (at : ℕ) (w : Caller) (q : Places) → InBody n homes depths q → Hold q 1 (moved_all n us)
        → Ends b w at (Execute e ∷ []) q [] (goal.Call (moved n (made (atom_name b.pool s.name) us)) ∷ w.goals)
    execute n depths at w q body hold = subst (λ t. Ends b w at (Execute e ∷ []) q [] (goal.Call t ∷ w.goals)) (sym (moved_made n (atom_name b.pool s.name) us))
        (ends_execute b w at e s (moved_all n us) q h (count_moved n us ∙ ar) hold body.whole)

    last_ends : (f : Bool) (n : ℕ) (depths : ℕ → Option Depth) (at : ℕ) (w : Caller) (q : Places) → InBody n homes depths q → Hold q 1 (moved_all n us)
        → Ends b w at (back f ++ (Execute e ∷ [])) q [] (goal.Call (moved n (made (atom_name b.pool s.name) us)) ∷ w.goals)
    last_ends false n depths at w q body hold = execute n depths at w q body hold
    last_ends true n depths at w q body hold =
        let gs : List Goal = goal.Call (moved n (made (atom_name b.pool s.name) us)) ∷ w.goals in
        ends_behind b w at (Deallocate ∷ []) (Execute e ∷ []) q (no_slots q) [] [] gs gs (does_deallocate b at q [] gs)
        (subst (λ t. Ends b w (suc at) (Execute e ∷ []) (no_slots q) [] (goal.Call t ∷ w.goals)) (sym (moved_made n (atom_name b.pool s.name) us))
        (ends_execute b w (suc at) e s (moved_all n us) (no_slots q) h (count_moved n us ∙ ar) (hold_slots q 1 (moved_all n us) hold) body.whole))

    ends : (f : Bool) (c : State) → IsRest homes f l c → (n : ℕ) (depths : ℕ → Option Depth) (d : Depth) → HasDepths l depths d → (p : Places) (w : Caller)
        → InBody n homes depths p → Ends b w at ((code_of homes made_now (puts b.pool 1 free us) ++ back f) ++ (Execute e ∷ [])) p []
        (goal.Call (moved n (made (atom_name b.pool s.name) us)) ∷ w.goals)
    ends f x r n depths d hd p w body =
        let is : List Code = code_of homes made_now (puts b.pool 1 free us) in
        let gs : List Goal = goal.Call (moved n (made (atom_name b.pool s.name) us)) ∷ w.goals in
        let c = put f n depths at p x r body in
        let after : InBody n homes depths c.went.q =
        body_at n homes depths apart (marked_by_all made_now (puts b.pool 1 free us)) p c.went.q c.went.t (λ y m. c.went.keeps.more y m (all y m)) c.went.there
        body.levels (no_home homes l fits depths d hd) c.went.keeps.depths in
        subst (λ l. Ends b w at l p [] gs) (sym (append_assoc is (back f) (Execute e ∷ [])))
        (ends_behind b w at is (back f ++ (Execute e ∷ [])) p c.went.q [] [] gs gs (c.went.does gs) (last_ends f n depths (past at is) w c.went.q after c.hold))

    given : (t : State) → ((j : ℕ) → 1 ≤ j → j < suc (term_count us) → has t.regs j ≡ true) → are_given t (slice_get (unplaced b) e) ≡ true
    given t set = given_cells b e s t h (λ j l m. set j l (omega (arith, m, ar)))

    flow : (f : Bool) (d : State) → IsRest homes f l d → (t : State) × (u : State) × Flows b at (code_of homes made_now (puts b.pool 1 free us) ++ back f) d t
        × (effect (unplaced b) (Execute e) t ≡ Some u)
    flow false d r =
        let is : List Code = code_of homes made_now (puts b.pool 1 free us) in
        let c = put false 0 nothing_held at (between_goals 0 homes nothing_held) d r (between_in 0 homes nothing_held apart) in
        let t : State = c.went.t in (
          t,
          t,
          subst (λ l. Flows b at l d t) (sym (append-nil is)) (flows_runs b at is d t c.went.runs),
          plain_of b (Execute e) t c.went.owed ∙ when_true _ t
              (both (no_frame t.frame) (are_given t (slice_get (unplaced b) e)) (no_frame_of t.frame (c.went.keeps.shape ∙ r.frame))
              (given t (λ j l m. c.set j l (omega (arith, m))))),
        )
    flow true d r =
        let is : List Code = code_of homes made_now (puts b.pool 1 free us) in
        let c = put true 0 nothing_held at (between_goals 0 homes nothing_held) d r (between_in 0 homes nothing_held apart) in
        let t : State = c.went.t in
        let u : State = record t { frame = None } in (
          u,
          u,
          flows_runs_less b at is Deallocate d t u u c.went.runs (plain_of b Deallocate t c.went.owed ∙ when_true _ u (c.went.keeps.shape ∙ r.frame)) (covers_self u) refl tt,
          plain_of b (Execute e) u c.went.owed ∙ when_true _ u (given u (λ j l m. c.set j l (omega (arith, m)))),
        )

    back_enters : (f : Bool) → MayEnter (back f)
    back_enters false i e = absurd (cc)
    back_enters true i e = single_enters Deallocate refl i e

-- ---- a whole clause

inner_answers : (i : Code) → IsTrue (is_inner i) → i ≡ AnswerNow → ⊥
inner_answers i h e = true≢false (sym h ∙ ap is_inner e)

-- Its head, its goals and its end are its code.
pub whole_clause : (b : Base) (homes : List Register) (framed : Bool) (l : Levels) (at : ℕ) (c : Clause) (is js ks : List Code) (i : Code) (gs hs : List Goal)
    → c.variables ≡ length homes → c.body ≡ gs ++ hs → Start b homes framed l at is (arguments c.head) → IsGoalsCode b homes framed l (past at is) js gs
    → Tail b homes framed l (past at (is ++ js)) ks i hs → IsClauseCode b at ((is ++ js) ++ (ks ++ (i ∷ []))) c
whole_clause b homes framed l at c is js ks i gs hs size body start goals tail =
    let w = tail.flows start.rest start.rested in
    let one : Flows b at (is ++ js) start.first start.rest = flows_both b at is js start.first start.rest start.rest start.flows (goals.flows start.rest start.rested) in
    let two : Flows b at ((is ++ js) ++ ks) start.first w.0 = flows_both b at (is ++ js) ks start.first start.rest w.0 one w.2 in
    let same : (is ++ js) ++ (ks ++ (i ∷ [])) ≡ ((is ++ js) ++ ks) ++ (i ∷ []) = sym (append_assoc (is ++ js) ks (i ∷ [])) in
    record {
      first = start.first;
      states = two.states ++ (w.0 ∷ []);
      begins = start.begins;
      safe = subst (λ l. IsSafePiece b at l (two.states ++ (w.0 ∷ [])) start.first) (sym same)
          (safe_ends b at ((is ++ js) ++ ks) i start.first w.0 w.1 two w.3 tail.aims tail.last tail.plain tail.there);
      enters = enters_both (is ++ js) (ks ++ (i ∷ [])) (enters_both is js start.enters goals.enters) tail.enters;
      no_answer = λ n e. elim (get_both ((is ++ js) ++ ks) (i ∷ []) n AnswerNow (subst (λ l. slice_get l n ≡ Some AnswerNow) same e)) [
        | inl h ↦ inner_answers AnswerNow (two.inner n AnswerNow h) refl
        | inr h ↦ tail.no_answer (get_only h.0 i AnswerNow h.2).1
      ];
      means = λ area base stand n as' d after shown p count' below hold noted before.
          let w : Caller = record { goals = after; shown = shown } in
          let before' : IsBefore p n (length homes) = subst (IsBefore p n) size before in
          let begun = start.does n as' d p count' below hold noted before' in
          let rest : List Goal = marked_all d.branches (map (rename_goal (λ x. n + x)) hs) ++ after in
          let all : List Goal = marked_all d.branches (map (rename_goal (λ x. n + x)) gs) ++ rest in
          let done = goals.does start.rest start.rested n begun.depths d begun.has begun.q rest begun.there in
          let es : List Equation = paired as' (moved_all n (arguments c.head)) in
          let run : Does b at (is ++ js) p es all done.q [] rest = does_both b at is js p begun.q done.q es [] [] all all rest (begun.does all) done.does in
          let end : Ends b w (past at (is ++ js)) (ks ++ (i ∷ [])) done.q [] rest = tail.ends start.rest start.rested n begun.depths d begun.has done.q w done.there in
          let ended : Ends b w at ((is ++ js) ++ (ks ++ (i ∷ []))) p es all = ends_behind b w at (is ++ js) (ks ++ (i ∷ [])) p done.q es [] all rest run end in
          let named : marked_all d.branches (map (rename_goal (λ x. n + x)) c.body)
          ++ after ≡ all = ap (λ hs. marked_all d.branches (map (rename_goal (λ x. n + x)) hs) ++ after) body
          ∙ renamed_both d.branches (λ x. n + x) gs hs after in
          subst (λ l. Means area w at p es l) (sym named) (ended area base stand);
    }

-- ---- a whole query

-- the slots from k on are the homes of these variables
abbrev pub InSlots : List Register → ℕ → List ℕ → Type 0
InSlots homes k [] = Unit {0}
InSlots homes k (x ∷ xs) = (x < length homes) × (home homes x ≡ Y k) × InSlots homes (suc k) xs

shows : (homes : List Register) (depths : ℕ → Option Depth) (p : Places) → InBody 0 homes depths p → (k : ℕ) (xs : List ℕ) → InSlots homes k xs → Shows p k xs
shows homes depths p h k [] o = tt
shows homes depths p h k (x ∷ xs) o = let z : 0 + x ≡ x = omega arith in
    (subst (λ r. read p r ≡ Some (Var (0 + x))) o.1 (h.held x o.0) ∙ ap (λ y. Some (Var y)) z, shows homes depths p h (suc k) xs o.2)

cells : (homes : List Register) (l : Levels) (s : State) → IsRest homes true l s → (k : ℕ) (xs : List ℕ) → InSlots homes k xs → (j : ℕ) → k ≤ j
    → j < k + length xs → IsTrue (is_cell (slot_at s.frame j))
cells homes l s r k [] o j i m = absurd (omega (arith, i, m))
cells homes l s r k (x ∷ xs) o j i m = elim (cases_eq j k) [
  | inl e ↦ subst (λ z. is_cell (slot_at s.frame z) ≡ true) (sym e) (subst (λ z. is_set s z ≡ true) o.1 (r.set x o.0))
  | inr d ↦ cells homes l s r (suc k) xs o.2 j (omega (arith, i, d)) (omega (arith, m))
]

same_goals : (gs : List Goal) → marked_all 0 (map (rename_goal (λ x. 0 + x)) gs) ++ [] ≡ marked_all 0 gs
same_goals gs = append-nil (marked_all 0 (map (rename_goal (λ x. 0 + x)) gs)) ∙ ap (marked_all 0) (ap (λ f. map (rename_goal f) gs) (functions plus_zero) ∙ goals_identity gs)
  where
    plus_zero : (x : ℕ) → 0 + x ≡ x
    plus_zero x = omega arith

-- Its goals, and the answer behind them, are its code.
pub whole_query : (b : Base) (homes : List Register) (l : Levels) (at : ℕ) (q : Query) (is js : List Code) → q.variables ≡ length homes
    → InSlots homes 1 q.shown → Start b homes true l at is no_terms → IsGoalsCode b homes true l (past at is) js q.goals
    → IsQueryPiece b at ((is ++ js) ++ (AnswerNow ∷ [])) q
whole_query b homes l at q is js size slots start goals =
    let rest : State = start.rest in
    let one : Flows b at (is ++ js) start.first rest = flows_both b at is js start.first rest rest start.flows (goals.flows rest start.rested) in
    let long = one.long in
    let total = length-append (is ++ js) (AnswerNow ∷ []) in
    let last1 : length (AnswerNow ∷ []) ≡ 1 = refl in
    record {
      first = start.first;
      states = one.states ++ (rest ∷ []);
      begins = start.begins;
      safe = safe_ends b at (is ++ js) AnswerNow start.first rest rest one (plain_of b AnswerNow rest start.rested.owed) refl refl refl tt;
      answer = λ n e. elim (get_both (is ++ js) (AnswerNow ∷ []) n AnswerNow e) [
        | inl h ↦ absurd (inner_answers AnswerNow (one.inner n AnswerNow h) refl)
        | inr h ↦ let k = h.1 in let z = at_zero h.0 AnswerNow AnswerNow h.2 in omega (arith, k, z, total, last1)
      ];
      last = λ n e. let z : n ≡ length (is ++ js) = omega (arith, e, total, last1) in
          subst (λ k. slice_get ((is ++ js) ++ (AnswerNow ∷ [])) k ≡ Some AnswerNow) (sym z) (get_last (is ++ js) AnswerNow);
      shown = λ n s e h k i m.
          let z : n ≡ length one.states = omega (arith, e, total, last1, long) in
          let same : rest ≡ s = let y : Some rest ≡ Some s = sym (get_last one.states rest) ∙ subst (λ i. slice_get (one.states ++ (rest ∷ [])) i ≡ Some s) z h in cc in
          subst (λ t. IsTrue (is_cell (slot_at t.frame k))) same (cells homes l rest start.rested 1 q.shown slots k i (omega (arith, m)));
      no_proceed = λ n e. elim (get_both (is ++ js) (AnswerNow ∷ []) n Proceed e) [
        | inl h ↦ true≢false (sym (one.inner n Proceed h))
        | inr h ↦ let w = (get_only h.0 AnswerNow Proceed h.2).1 in absurd (cc)
      ];
      no_execute = λ n k e. elim (get_both (is ++ js) (AnswerNow ∷ []) n (Execute k) e) [
        | inl h ↦ true≢false (sym (one.inner n (Execute k) h))
        | inr h ↦ let w = (get_only h.0 AnswerNow (Execute k) h.2).1 in absurd (cc)
      ];
      means = λ area base stand p noted before.
          let w : Caller = record { goals = []; shown = q.shown } in
          let before' : IsBefore p 0 (length homes) = subst (IsBefore p 0) size before in
          let begun = start.does 0 no_terms no_depth p refl tt tt noted before' in
          let all : List Goal = marked_all 0 (map (rename_goal (λ x. 0 + x)) q.goals) ++ [] in
          let done = goals.does rest start.rested 0 begun.depths no_depth begun.has begun.q [] begun.there in
          let run : Does b at (is ++ js) p [] all done.q [] [] = does_both b at is js p begun.q done.q [] [] [] all all [] (begun.does all) done.does in
          let end : Ends b w (past at (is ++ js)) (AnswerNow ∷ []) done.q [] [] = ends_answer b w (past at (is ++ js)) done.q done.there.whole
          (shows homes begun.depths done.q done.there 1 q.shown slots) in
          let ended : Ends b w at ((is ++ js) ++ (AnswerNow ∷ [])) p [] all = ends_behind b w at (is ++ js) (AnswerNow ∷ []) p done.q [] [] all [] run end in
          subst (λ l. Means area w at p [] l) (same_goals q.goals) (ended area base stand);
    }
  where
    at_zero : (m : ℕ) (i j : Code) → slice_get (i ∷ []) m ≡ Some j → m ≡ 0
    at_zero zero i j e = refl
    at_zero (suc m) i j e = absurd (cc)
