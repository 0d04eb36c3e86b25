-- The steps of the group cut: a test, with another way or without, and a cut.
use Rattle.std.proofs.Common.{◌≡◌, ℕ, suc, ◌≤◌, List, [], ◌∷◌, ◌++◌, length, min, Option, Some, refl, ap, sym, ◌∙◌, subst, inl, inr, arith}
use Rattle.std.proofs.lemmas.Bool.{cases_lt}
use Rattle.std.proofs.lemmas.Option.{same_Some}
use Rattle.std.proofs.Math.Nat.{min-eq_left}
use Rattle.fd_language.specs.Term.{Substitution}
use Rattle.fd_language.specs.Family.{Family}
use Rattle.fd_language.specs.Range.{Indexical}
use Rattle.fd_model.specs.Children.{Gives, Kept, kept_by, with_goals, by_test}
use Rattle.fd_model.specs.Goal.{Goal, Goals, listed, marked_all, Branch, Program, Query, Event}
use Rattle.fd_model.specs.Goal as goal
use Rattle.fd_model.specs.Lines.{says}
use Rattle.fd_model.specs.BranchViews.{IsConsistent}
use Rattle.fd_model.specs.RunnablePrograms.{GoalBelow, GoalsBelow, EachBelow, IsRunnableProgram}
use Rattle.fd_model.proofs.Lemmas.{each_both_below, each_marked, listed_below}
use Rattle.heap_cells.specs.Cells.{Cells}
use Rattle.heap_cells.specs.Terms.{Naming}
use Rattle.branch_meaning.specs.RemainingEvents.{offered, AllWait, at_level, at_top, oldest, Spends}
use Rattle.branch_meaning.specs.Models.{HasModel}
use Rattle.branch_meaning.proofs.Lemmas.{ahead_taken, level_above, level_stays, test_level, wait_below, wait_length, wait_top}
use Rattle.wam_code.specs.declared.instruction.Code.{Code}
use Rattle.wam_code.specs.declared.instruction.Code.TheVariants as code
use Rattle.wam_code.specs.Area.{Area, Holds}
use Rattle.wam_code.specs.Places.{Depth, deeper, one_deeper, Places, put_at, drop_at, put_level, drop_level, IsDeepest}
use Rattle.wam_code.specs.CodeMeaning.{Means, tested, HasTest}
use Rattle.code_meaning.specs.Registers.{Registers, Saved, IsMarked}
use Rattle.code_meaning.specs.Depths.{depth_of, IsLeveled}
use Rattle.code_meaning.specs.StateMeaning.{IsMade, Stands}
use Rattle.code_meaning.specs.MachineStates.{resume, Choice, Waits, Runs}
use Rattle.code_meaning.proofs.Depths.{deepest_is, found_deeper}
use Rattle.code_meaning.proofs.Goals.{TakesGoal, takes_first, takes_one}
use Rattle.code_meaning.proofs.Levels.{leveled_test, leveled_cut, leveled_enter, leveled_other}
use Rattle.code_meaning.proofs.GoalStates.{ready_at, ready_consistent, goal_gives, goal_one, ahead_of, others, counted}
use Rattle.code_meaning.proofs.MachineStates.{goes_inside, kept_later}
use Rattle.code_meaning.proofs.RestatedEquations.{made_put, made_leveled, made_pushed, made_settled}
use Rattle.code_meaning.proofs.InstructionSteps.{here}
use Rattle.code_meaning.proofs.Disjunctions.{made_goals}

-- No level has more branches than all.
levels_low : (M N : ℕ) (C : Type 0) (Waits : List ℕ → C → List Branch → Type 0) (cs : List C) (raw : List Branch) (marks : List ℕ) → AllWait M N C Waits cs raw marks → (l : ℕ)
    → at_level marks l ≤ at_top marks
levels_low M N C Waits [] raw marks w l = subst (λ ms. at_level ms l ≤ at_top ms) (sym w.1) (omega arith)
levels_low M N C Waits (c ∷ cs) raw marks w l = subst (λ ms. at_level ms l ≤ at_top ms) (sym w.8) (elim (cases_lt (length w.2) l) [
  | inl s ↦ (let e = level_above (length w.3 ∷ w.2) l (omega (arith, s)) in omega (arith, e))
  | inr s ↦
      let e = level_stays (length w.3) w.2 l s in
      let i = levels_low M N C Waits cs w.1 w.2 w.5 l in
      let d = kept_later M N w.0 w.1 w.3 (subst (λ b. Kept M N b w.3) w.6 w.7) in
      let t = wait_top M N C Waits cs w.1 w.2 w.5 d.0 d.1 in
      let f = d.2 in
      omega (arith, e, i, t, f)
])

-- a test, a cut, and what comes then
tested_below : (n k m : ℕ) (test : Goals) (gs : List Goal) → GoalsBelow n test → EachBelow n gs → EachBelow n (tested k m test gs)
tested_below n k m test gs h i = each_both_below n (marked_all k (listed test)) (goal.Cut (Some m) ∷ gs) (each_marked n k (listed test) (listed_below n test h)) (tt, i)

ways_below : (n : ℕ) (g : Goal) (test : Goals) (holds other : List Goal) → HasTest g test holds other → GoalBelow n g → GoalsBelow n test × EachBelow n holds × EachBelow n other
ways_below n (goal.IfElse t hs os) test holds other e h = (subst (GoalsBelow n) e.0 h.0, subst (EachBelow n) (sym e.1) (listed_below n hs h.1), subst (EachBelow n) (sym e.2) (listed_below n os h.2))
ways_below n (goal.Not t) test holds other e h = (subst (GoalsBelow n) e.0 h, subst (EachBelow n) (sym e.1) (tt, tt), subst (EachBelow n) (sym e.2) tt)
ways_below n _ test holds other e h = absurd e

-- the children of an if with another way, and of a negation
ways_given : (M N m : ℕ) (prog : Program) (b : Branch) (g : Goal) (test : Goals) (holds other rest : List Goal) → HasTest g test holds other → (s : Substitution) (D : Family)
    → offered M N m prog b g rest s D ≡ Gives (by_test (suc m) m b test (holds ++ rest) ∷ with_goals b (other ++ rest) ∷ [])
ways_given M N m prog b (goal.IfElse t hs os) test holds other rest e s D =
    ap (λ t. Gives (by_test (suc m) m b t (listed hs ++ rest) ∷ with_goals b (listed os ++ rest) ∷ [])) e.0
    ∙ ap (λ hs. Gives (by_test (suc m) m b test (hs ++ rest) ∷ with_goals b (listed os ++ rest) ∷ [])) (sym e.1)
    ∙ ap (λ os. Gives (by_test (suc m) m b test (holds ++ rest) ∷ with_goals b (os ++ rest) ∷ [])) (sym e.2)
ways_given M N m prog b (goal.Not t) test holds other rest e s D =
    ap (λ t. Gives (by_test (suc m) m b t (goal.Fail ∷ rest) ∷ with_goals b rest ∷ [])) e.0
    ∙ ap (λ hs. Gives (by_test (suc m) m b test (hs ++ rest) ∷ with_goals b rest ∷ [])) (sym e.1)
    ∙ ap (λ os. Gives (by_test (suc m) m b test (holds ++ rest) ∷ with_goals b (os ++ rest) ∷ [])) (sym e.2)
ways_given M N m prog b _ test holds other rest e s D = absurd e

ways_quiet : (b : Branch) (g : Goal) (test : Goals) (holds other : List Goal) → HasTest g test holds other → (s : Substitution) (D : Family) → says s D b g ≡ []
ways_quiet b (goal.IfElse t hs os) test holds other e s D = refl
ways_quiet b (goal.Not t) test holds other e s D = refl
ways_quiet b _ test holds other e s D = absurd e

ways_keep : (g : Goal) (test : Goals) (holds other : List Goal) → HasTest g test holds other → (m : ℕ) → kept_by m g ≡ m
ways_keep (goal.IfElse t hs os) test holds other e m = refl
ways_keep (goal.Not t) test holds other e m = refl
ways_keep _ test holds other e m = absurd e

module _ (M N : ℕ) (marks : List ℕ) (area : Area) (shown : List ℕ) (name : Naming) (h : Cells) (qs : List Indexical) (at : ℕ) (c : Registers)
    (stack : List Saved) (b : Branch) (m : Stands M N marks area shown name h qs at c stack b)
    (low : (l : ℕ) → at_level marks l ≤ at_top marks) where
  -- what is found is the deepest depth that is kept, or a deeper one
  found : (q : Places) (kept : Depth) → IsDeepest q kept → IsLeveled marks q.levels q.noted c m.returns stack → (more : Depth) × (depth_of marks ≡ deeper kept more)
  found q kept d g = found_deeper marks kept low (deepest_is marks q kept c.levels d g.levels (λ e i. (g.noted e i).1))

  -- a test: its cuts keep all other branches
  pub step_test : (n : ℕ) → Holds area at (code.TestOnly n) → (c' : Registers) → IsMarked c n (length marks) c'
      → (test : Goals) × (holds : Goals) × (later : List Goal) × (b.goals ≡ goal.If test holds ∷ later)
      × Stands M N marks area shown name h qs (suc at) c' stack (by_test (at_top marks) (at_top marks) b test (listed holds ++ later))
  step_test n f c' s =
      let k = here M N marks area shown name h qs at c stack b m (code.TestOnly n) f in
      let r = k.3 in
      let q = r.3 in
      let g = made_settled M N marks name h qs m.returns stack b c k.0 k.1 k.2 q r.5 r.7 in
      let e = found q r.4 r.6 g.leveled in
      let top = at_top marks in
      let gs : List Goal = tested top top r.0 (listed r.1 ++ r.2) in
      let below : EachBelow b.fresh (goal.If r.0 r.1 ∷ r.2) = subst (EachBelow b.fresh) r.8 m.below in
      let gone = made_goals M N marks name h qs c m.returns stack b q [] gs g in
      let levels = leveled_test marks q.levels q.noted c m.returns stack g.leveled n c' s in
      let put = made_put M N marks name h qs m.returns stack (with_goals b gs) c c' q [] gone n (put_at n (depth_of marks) q.levels) levels s.xs s.ys in (
        r.0,
        r.1,
        r.2,
        r.8,
        record {
          p = put_level q n (depth_of marks);
          todo = [];
          returns = m.returns;
          after = m.after;
          made = put;
          continues = m.continues;
          means = subst (λ d. Means area (record { goals = m.after; shown = shown }) (suc at) (put_level q n d) [] (tested d.branches d.branches r.0 (listed r.1 ++ r.2))) (sym e.1) (r.9 e.0);
          below = tested_below b.fresh top top r.0 (listed r.1 ++ r.2) below.0.0 (each_both_below b.fresh (listed r.1) r.2 (listed_below b.fresh r.1 below.0.1) below.1);
          asked = m.asked;
        },
      )

  -- A test with another way. In the test there is one choice point more, which stands for that way alone: cuts of the test keep it too.
  pub step_ways : (n o to : ℕ) → Holds area at (code.EnterTest n o to) → (c' c'' : Registers) → IsMarked c n (length marks) c' → IsMarked c' o (suc (length marks)) c''
      → (g : Goal) × (test : Goals) × (holds : List Goal) × (other : List Goal) × (later : List Goal) × (b.goals ≡ g ∷ later) × HasTest g test holds other
      × ((i : ℕ) → i ≡ suc (at_top marks) → Stands M N (i ∷ marks) area shown name h qs (suc at) c'' stack (by_test (suc (at_top marks)) (at_top marks) b test (holds ++ later)))
      × Stands M N marks area shown name h qs to c'' stack (with_goals b (other ++ later))
  step_ways n o to f c' c'' s t =
      let k = here M N marks area shown name h qs at c stack b m (code.EnterTest n o to) f in
      let r = k.3 in
      let q = r.5 in
      let g = made_settled M N marks name h qs m.returns stack b c k.0 k.1 k.2 q r.7 r.9 in
      let e = found q r.6 r.8 g.leveled in
      let top = at_top marks in
      let D = depth_of marks in
      let one : Places = put_level q n D in
      let first : List Goal = tested (suc top) top r.1 (r.2 ++ r.4) in
      let second : List Goal = r.3 ++ r.4 in
      let below : EachBelow b.fresh (r.0 ∷ r.4) = subst (EachBelow b.fresh) r.10 m.below in
      let ways = ways_below b.fresh r.0 r.1 r.2 r.3 r.11 below.0 in
      let levels = leveled_test marks q.levels q.noted c m.returns stack g.leveled n c' s in
      let put : (gs : List Goal) → IsMade M N marks name h qs c' m.returns stack (with_goals b gs) one [] =
      λ gs. (let gone = made_goals M N marks name h qs c m.returns stack b q [] gs g in
      made_put M N marks name h qs m.returns stack (with_goals b gs) c c' q [] gone n (put_at n D q.levels) levels s.xs s.ys) in
      let means = subst (λ d. Means area (record { goals = m.after; shown = shown }) (suc at) (put_level (put_level q n d) o (one_deeper d)) [] (tested (suc d.branches) d.branches r.1 (r.2 ++ r.4))
      × Means area (record { goals = m.after; shown = shown }) to (drop_level (put_level q n d) o) [] (r.3 ++ r.4)) (sym e.1) (r.12 e.0) in (
        r.0,
        r.1,
        r.2,
        r.3,
        r.4,
        r.10,
        r.11,
        (λ i is. record {
          p = put_level one o (one_deeper D);
          todo = [];
          returns = m.returns;
          after = m.after;
          made = made_put M N (i ∷ marks) name h qs m.returns stack (with_goals b first) c' c'' one []
              (made_pushed M N marks name h qs m.returns stack (with_goals b first) c' one [] (put first) i) o (put_at o (one_deeper D) one.levels)
              (leveled_enter marks q.levels q.noted c m.returns stack g.leveled n o c' c'' s t i is) t.xs t.ys;
          continues = m.continues;
          means = means.0;
          below = tested_below b.fresh (suc top) top r.1 (r.2 ++ r.4) ways.0 (each_both_below b.fresh r.2 r.4 ways.1 below.1);
          asked = m.asked;
        }),
        record {
          p = drop_level one o;
          todo = [];
          returns = m.returns;
          after = m.after;
          made = made_put M N marks name h qs m.returns stack (with_goals b second) c' c'' one [] (put second) o (drop_at o one.levels)
              (leveled_other marks q.levels q.noted c m.returns stack g.leveled n o c' c'' s t) t.xs t.ys;
          continues = m.continues;
          means = means.1;
          below = each_both_below b.fresh r.3 r.4 ways.2 below.1;
          asked = m.asked;
        },
      )

-- A cut: it keeps the branches at the slot's level.
pub step_cut : (M N : ℕ) (marks : List ℕ) (area : Area) (shown : List ℕ) (name : Naming) (h : Cells) (qs : List Indexical) (at : ℕ) (c : Registers) (stack : List Saved) (b : Branch)
    → Stands M N marks area shown name h qs at c stack b
    → (n : ℕ) → Holds area at (code.CutTo n) → (l : ℕ) → c.levels n ≡ Some l
    → (later : List Goal) × (b.goals ≡ goal.Cut (Some (at_level marks l)) ∷ later) × Stands M N (oldest l marks) area shown name h qs (suc at) c stack (with_goals b later)
step_cut M N marks area shown name h qs at c stack b m n f l at_l =
    let k = here M N marks area shown name h qs at c stack b m (code.CutTo n) f in
    let r = k.3 in
    let d = r.0 in
    let q = r.2 in
    let level = k.2.leveled.levels n d r.3 in
    let is : d.points ≡ l = same_Some d.points l (sym level.0 ∙ at_l) in
    let g = made_settled M N marks name h qs m.returns stack b c k.0 k.1 k.2 q r.4 r.6 in
    let goals : b.goals ≡ goal.Cut (Some (at_level marks l)) ∷ r.1 = r.7 ∙ ap (λ j. goal.Cut (Some j) ∷ r.1) (sym level.1.branches ∙ ap (at_level marks) is) in
    let below : EachBelow b.fresh (goal.Cut (Some (at_level marks l)) ∷ r.1) = subst (EachBelow b.fresh) goals m.below in (
      r.1,
      goals,
      record {
        p = q;
        todo = [];
        returns = m.returns;
        after = m.after;
        made = made_leveled M N marks name h qs m.returns stack (with_goals b r.1) c q [] (made_goals M N marks name h qs c m.returns stack b q [] r.1 g) (oldest l marks)
            (subst (λ j. IsLeveled (oldest j marks) q.levels q.noted c m.returns stack) is (leveled_cut marks k.0.levels k.0.noted c m.returns stack k.2.leveled n d r.3 q g.leveled r.5));
        continues = m.continues;
        means = r.8;
        below = below.1;
        asked = m.asked;
      },
    )

module _ (M N : ℕ) (area : Area) (prog : Program) (q : Query) (name : Naming) (h : Cells) (qs : List Indexical) (at : ℕ) (c : Registers) (stack : List Saved)
    (cs : List Choice) (k : Option ℕ) (es : List Event) (r : ℕ)
    (runnable : IsRunnableProgram M prog) (n : ℕ) (model : HasModel M N qs) (m : Runs M N area prog q name h qs at c stack cs (suc n) k es r) where
  long : length m.marks ≡ length cs
  long = wait_length M N Choice (Waits M N area q.shown name) cs m.others m.marks m.wait

  low : (l : ℕ) → at_level m.marks l ≤ at_top m.marks
  low = levels_low M N Choice (Waits M N area q.shown name) cs m.others m.marks m.wait

  -- the branch at an instruction that takes a goal
  at_goal : (i : Code) → TakesGoal i → Holds area at i → (b : Branch) × Stands M N m.marks area q.shown name h qs at c stack b × (m.first ≡ b ∷ []) × IsConsistent M N b.equations b.posted
  at_goal i t f =
      let s = goes_inside M N m.marks area q.shown name h qs at c stack m.first m.here i (takes_first i t) f in
      let d = ready_at M N m.marks area q.shown name h qs at c stack s.0 s.1 i f (λ w p es g. (takes_one area i t w at p es s.0.goals g).0) in
      (s.0, s.1, s.2, ready_consistent M N m.marks area q.shown name h qs at c stack s.0 d.0 model)

  -- A test: the slot takes the number of choice points.
  pub run_test : (y : ℕ) → Holds area at (code.TestOnly y) → (l : ℕ) → l ≡ length cs → (c' : Registers) → IsMarked c y l c' → Spends (Runs M N area prog q name h qs (suc at) c' stack cs n k) [] es r
  run_test y f l is c' s =
      let g = at_goal (code.TestOnly y) tt f in
      let b = g.0 in
      let t = step_test M N m.marks area q.shown name h qs at c stack b g.1 low y f c' (subst (λ j. IsMarked c y j c') (is ∙ sym long) s) in
      let kid = by_test (at_top m.marks) (at_top m.marks) b t.0 (listed t.1 ++ t.2) in
      goal_one M N area prog q name h qs at c stack cs k es r b g.3 (goal.If t.0 t.1) t.2 t.3 runnable n m g.2 (λ i. refl) kid [] (λ u D v. refl) (λ u D v. refl) h qs (suc at) c' stack t.4

  -- A test with another way: that way becomes a choice point, and the other slot takes the number with it.
  pub run_enter : (y z to : ℕ) → Holds area at (code.EnterTest y z to) → (l : ℕ) → l ≡ length cs → (c' : Registers) → IsMarked c y l c' → (c'' : Registers) → IsMarked c' z (suc l) c''
      → Spends (Runs M N area prog q name h qs (suc at) c'' stack (record { left = resume to; registers = c''; stack = stack; heap = h; store = qs } ∷ cs) n k) [] es r
  run_enter y z to f l is c' s c'' t =
      let g = at_goal (code.EnterTest y z to) tt f in
      let b = g.0 in
      let one_set = subst (λ j. IsMarked c y j c') (is ∙ sym long) s in
      let both_set = subst (λ j. IsMarked c' z (suc j) c'') (is ∙ sym long) t in
      let w = step_ways M N m.marks area q.shown name h qs at c stack b g.1 low y z to f c' c'' one_set both_set in
      let top = at_top m.marks in
      let one = by_test (suc top) top b w.1 (w.2 ++ w.4) in
      let other = with_goals b (w.3 ++ w.4) in
      let e = goal_gives M N area prog q name h qs at c stack cs k es r b g.3 w.0 w.4 w.5 runnable n m g.2 (ways_keep w.0 w.1 w.2 w.3 w.6) (one ∷ other ∷ []) []
      (λ u D v. ways_given M N top prog b w.0 w.1 w.2 w.3 w.4 w.6 u D) (λ u D v. ways_quiet b w.0 w.1 w.2 w.3 w.6 u D) in
      let d = kept_later M N (one ∷ []) (other ∷ m.others) e.4.branches e.4.kept in
      let more : length d.0 ≡ suc top =
      sym (level_above (length d.0 ∷ m.marks) (suc (length cs)) (omega (arith, long)))
      ∙ test_level M N Choice (Waits M N area q.shown name) cs m.others m.marks m.wait other g.3 d.0 d.1 in (
        e.0,
        e.1,
        e.2,
        e.3,
        record {
          first = one ∷ [];
          others = other ∷ m.others;
          marks = length d.0 ∷ m.marks;
          here = inl (one, w.7 (length d.0) more, refl);
          wait = (other ∷ [], m.others, m.marks, d.0, inl (other, w.8, refl), m.wait, refl, d.1, refl);
          ahead = e.4;
        },
      )

  -- A cut: the choice points above the slot's number go.
  pub run_cut : (y : ℕ) → Holds area at (code.CutTo y) → (l : ℕ) → c.levels y ≡ Some l → Spends (Runs M N area prog q name h qs (suc at) c stack (oldest l cs) n k) [] es r
  run_cut y f l at_l =
      let g = at_goal (code.CutTo y) tt f in
      let b = g.0 in
      let t = step_cut M N m.marks area q.shown name h qs at c stack b g.1 y f l at_l in
      let cut : Goal = goal.Cut (Some (at_level m.marks l)) in
      let kid = with_goals b t.0 in
      let here = others M N area prog q name h qs at c stack cs k es r b g.3 cut t.0 t.1 runnable n m g.2 in
      let count = counted M N area prog q name h qs at c stack cs k es r b g.3 cut t.0 t.1 runnable n m g.2 in
      let a = ahead_of M N area prog q name h qs at c stack cs k es r b g.3 cut t.0 t.1 (suc n) m g.2 in
      let w = wait_below M N Choice (Waits M N area q.shown name) l cs m.others m.marks m.wait here.0 here.1 in
      let most : length w.kept ≤ at_top m.marks = (let i = low l in let e = w.counted in omega (arith, i, e)) in
      let keeps : kept_by (at_top m.marks) cut ≡ length w.kept = ap (λ j. min j (at_top m.marks)) (sym w.counted) ∙ min-eq_left most in
      let e =
      ahead_taken M N prog q runnable n k b cut t.0 m.others es r g.3 t.1 a (at_top m.marks) count w.before w.behind w.parts w.kept w.kept_is keeps (kid ∷ []) [] (λ u D v. refl) (λ u D v. refl) in (
        e.0,
        e.1,
        e.2,
        e.3,
        record {
          first = kid ∷ [];
          others = w.behind;
          marks = w.older;
          here = inl (kid, subst (λ ms. Stands M N ms area q.shown name h qs (suc at) c stack kid) (sym w.older_is) t.2, refl);
          wait = w.wait;
          ahead = e.4;
        },
      )
