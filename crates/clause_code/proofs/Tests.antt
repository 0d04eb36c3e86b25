-- Cuts and tests: what their code does, and how states flow through it.
use Rattle.std.proofs.Common.{◌≡◌, ◌⊎◌, ℕ, zero, suc, ◌+◌, ◌<◌, ◌≤◌, Bool, true, IsTrue, List, [], ◌∷◌, ◌++◌, Option, Some, None, option_map, length, slice_get}
use Rattle.std.proofs.Common.{slice_set, refl, ap, sym, ◌∙◌, subst, arith, inl, inr}
use Rattle.std.proofs.lemmas.Bool.{cases_eq, true≢false}
use Rattle.fd_language.specs.Term.{Var}
use Rattle.fd_model.specs.declared.kinds.BuiltinKind.TheVariants as kind
use Rattle.fd_model.specs.Goal as goal
use Rattle.fd_model.specs.Goal.{Goal, Goals, listed, marked_goals, marked_all}
use Rattle.fd_model.specs.Renaming.{rename_goals}
use Rattle.wam_code.specs.declared.instruction.Register.{Register}
use Rattle.wam_code.specs.declared.instruction.Register.TheVariants.{X, Y}
use Rattle.wam_code.specs.declared.instruction.Code.{Code}
use Rattle.wam_code.specs.declared.instruction.Code.TheVariants.{Jump, Builtin, TestOnly, EnterTest, CutTo}
use Rattle.wam_code.specs.Area.{Slot, Unset, Cell, Level, State}
use Rattle.wam_code.specs.Effect.{slot_at, is_level, may_be_level, with_mark, with_level, effect}
use Rattle.wam_code.specs.Places.{Depth, deeper, one_deeper, Places, put_at, read, put_level, drop_level, AreWithin, IsDeepest}
use Rattle.wam_code.specs.CodeMeaning.{tested, Means}
use Rattle.wam_code.proofs.Lemmas.{covers_self, put_here, put_else}
use Rattle.clause_code.specs.Pieces.{Base, past, Does}
use Rattle.clause_code.specs.Laws.{other_side, ways}
use Rattle.clause_code.specs.MoreRegisters.{HasMore}
use Rattle.clause_code.specs.SafeCode.{unplaced, may_enter}
use Rattle.clause_code.specs.StateFlow.{Flows, MayEnter}
use Rattle.clause_code.specs.Steps.{home}
use Rattle.clause_code.specs.Bodies.{is_y, Levels, HasCut, in_test, HasDepths, AreFree, between_goals, InBody, IsRest, IsGoalsCode}
use Rattle.clause_code.proofs.MoreRegisters.{means_more}
use Rattle.clause_code.proofs.Pieces.{does_both, does_builtin, does_cut, does_test_only, does_enter_test, does_ways, other_way, past_both}
use Rattle.clause_code.proofs.FreshVariables.{drop_else, AreApart}
use Rattle.clause_code.proofs.StepEffects.{when_true, both, plain_of}
use Rattle.clause_code.proofs.StateFlow.{flows_both, flows_simple, flows_ways, flows_over}
use Rattle.clause_code.proofs.Bodies.{found_is, y_is, between_in, between_settled, single_enters, listed_renamed, listed_marked, does_between}

-- ---- a slot that is a level

level_there : (o : Option Slot) → is_level o ≡ true → o ≡ Some Level
level_there None h = absurd (true≢false (sym h))
level_there (Some Unset) h = absurd (true≢false (sym h))
level_there (Some Cell) h = absurd (true≢false (sym h))
level_there (Some Level) h = refl

level_may : (o : Option Slot) → is_level o ≡ true → may_be_level o ≡ true
level_may o h = ap may_be_level (level_there o h)

set_as_is : {A : Type 0} (xs : List A) (n : ℕ) (x : A) → slice_get xs n ≡ Some x → slice_set xs n x ≡ xs
set_as_is [] n x e = absurd (cc)
set_as_is (y ∷ xs) zero x e = let same : y ≡ x = cc in ap (λ z. z ∷ xs) (sym same)
set_as_is (y ∷ xs) (suc n) x e = ap (λ zs. y ∷ zs) (set_as_is xs n x e)

frame_as_is : (o : Option (List Slot)) (n : ℕ) → is_level (slot_at o n) ≡ true → option_map (with_mark n) o ≡ o
frame_as_is None n h = absurd (true≢false (sym h))
frame_as_is (Some ss) zero h = absurd (true≢false (sym h))
frame_as_is (Some ss) (suc n) h = ap Some (set_as_is ss n Level (level_there (slice_get ss n) h))

-- it becomes a level again
level_as_is : (s : State) (n : ℕ) → is_level (slot_at s.frame n) ≡ true → with_level s n ≡ s
level_as_is s n h = ap (λ f. record s { frame = f }) (frame_as_is s.frame n h)

first_enters : (i : Code) (is : List Code) → IsTrue (may_enter i) → MayEnter (i ∷ is)
first_enters i is h j e = let same : i ≡ j = cc in subst (λ x. IsTrue (may_enter x)) same h

-- ---- depths

-- put behind another one: what is below stays
put_below : {A : Type 0} (i : ℕ) (t : A) (f : ℕ → Option A) (k : ℕ) → k < i → put_at i t f k ≡ f k
put_below i t f k l = put_else i t f k (λ e. omega (arith, e, l))

within_mine : (l : Levels) (n : ℕ) (homes : List Register) (depths : ℕ → Option Depth) (d e : Depth) → HasDepths l depths d → d.points ≤ e.points → AreWithin (between_goals n homes depths) e
within_mine l n homes depths d e hd m = record { levels = λ k x g. let a = (hd.others k x g).2 in omega (arith, a, m); noted = λ x g. absurd (cc) }

-- the depths of a test, in which a cut goes to the first of two more slots
once : (l : Levels) → HasCut l → (depths : ℕ → Option Depth) (d e : Depth) → HasDepths l depths d → d.points ≤ e.points → HasDepths (in_test l l.next) (put_at l.next e depths) e
once l c depths d e hd m = record { cut = λ g. put_here l.next e depths; others = λ k x g. by k x g (cases_eq k l.next) }
  where
    open_by : (k : ℕ) (x : Depth) → put_at l.next e depths k ≡ Some x → (k ≡ l.next → ⊥) → (l.first ≤ k) × (k < suc (suc l.next)) × (x.points ≤ e.points)
    open_by k x g o = let w = hd.others k x (sym (put_else l.next e depths k o) ∙ g) in let a = w.1 in let z = w.2 in (w.0, omega (arith, a), omega (arith, z, m))

    by : (k : ℕ) (x : Depth) → put_at l.next e depths k ≡ Some x → (k ≡ l.next) ⊎ (k ≡ l.next → ⊥) → (l.first ≤ k) × (k < suc (suc l.next)) × (x.points ≤ e.points)
    by k x g (inl o) =
        let same : Some e ≡ Some x = sym (put_here l.next e depths) ∙ ap (put_at l.next e depths) (sym o) ∙ g in
        let is : e ≡ x = cc in
        let p : e.points ≡ x.points = ap (λ y. y.points) is in
        let a = c.0 in let z = c.1 in (omega (arith, o, a, z), omega (arith, o), omega (arith, p))
    by k x g (inr o) = open_by k x g o

-- and to the second
twice : (l : Levels) → HasCut l → (depths : ℕ → Option Depth) (d e : Depth) → HasDepths l depths d → d.points ≤ e.points
    → HasDepths (in_test l (suc l.next)) (put_at (suc l.next) (one_deeper e) (put_at l.next e depths)) (one_deeper e)
twice l c depths d e hd m = record { cut = λ g. put_here (suc l.next) (one_deeper e) (put_at l.next e depths); others = λ k x g. by k x g (cases_eq k (suc l.next)) }
  where
    by : (k : ℕ) (x : Depth) → put_at (suc l.next) (one_deeper e) (put_at l.next e depths) k ≡ Some x → (k ≡ suc l.next) ⊎ (k ≡ suc l.next → ⊥)
        → (l.first ≤ k) × (k < suc (suc l.next)) × (x.points ≤ suc e.points)
    by k x g (inl o) =
        let same : Some (one_deeper e) ≡ Some x = sym (put_here (suc l.next) (one_deeper e) (put_at l.next e depths)) ∙ ap (put_at (suc l.next) (one_deeper e) (put_at l.next e depths)) (sym o) ∙ g in
        let is : one_deeper e ≡ x = cc in
        let p : suc e.points ≡ x.points = ap (λ y. y.points) is in
        let a = c.0 in let z = c.1 in (omega (arith, o, a, z), omega (arith, o), omega (arith, p))
    by k x g (inr o) = let w = (once l c depths d e hd m).others k x (sym (put_else (suc l.next) (one_deeper e) (put_at l.next e depths) k o) ∙ g) in let z = w.2 in (w.0, w.1, omega (arith, z))

module _ (b : Base) (homes : List Register) (apart : AreApart homes) (framed : Bool) (l : Levels) (fits : AreFree homes l) (c : HasCut l) where
  -- ---- a cut

  -- a level slot is one of the state's
  level_slot : (s : State) → IsRest homes framed l s → (k : ℕ) → l.first ≤ k → k < l.next → is_level (slot_at s.frame k) ≡ true
  level_slot s r k a z = let w = fits.within in r.levels k a (omega (arith, z, w))

  pub goal_cut : (at : ℕ) → IsGoalsCode b homes framed l at (CutTo l.cut ∷ []) (goal.Cut None ∷ [])
  goal_cut at = record {
    does = λ s r n depths d hd p later h. record {
      q = between_goals n homes depths;
      there = between_in n homes depths apart;
      same = λ e. refl;
      does = does_cut b at l.cut d p (between_goals n homes depths) later (h.levels l.cut d (hd.cut c)) (between_settled n homes depths apart p h) (within_mine l n homes depths d d hd (omega arith));
    };
    flows = λ s r. flows_simple b at (CutTo l.cut) s s s (plain_of b (CutTo l.cut) s r.owed ∙ when_true _ s (level_slot s r l.cut c.0 c.1)) (covers_self s) refl tt;
    enters = single_enters (CutTo l.cut) refl;
  }

  module _ (room : suc (suc l.next) ≤ l.end) where
    -- ---- the places of a test

    in_first : l.first ≤ l.next
    in_first = let a = c.0 in let z = c.1 in omega (arith, a, z)

    -- a depth in a level slot
    in_put : (n : ℕ) (depths : ℕ → Option Depth) (p : Places) (k : ℕ) (e : Depth) → l.first ≤ k → k < l.end → InBody n homes depths p → InBody n homes (put_at k e depths) (put_level p k e)
    in_put n depths p k e a z h = record {
      held = λ x m. by x m (home homes x) refl (h.held x m);
      levels = λ j x g. levels j x g (cases_eq j k);
      whole = h.whole;
      own = h.own;
    }
      where
        by : (x : ℕ) → x < length homes → (r : Register) → home homes x ≡ r → read p r ≡ Some (Var (n + x)) → read (put_level p k e) r ≡ Some (Var (n + x))
        by x m (X i) f g = g
        by x m (Y i) f g = drop_else k p.y i (λ o. fits.clear k a z x m (f ∙ ap Y o)) ∙ g

        levels : (j : ℕ) (x : Depth) → put_at k e depths j ≡ Some x → (j ≡ k) ⊎ (j ≡ k → ⊥) → put_at k e p.levels j ≡ Some x
        levels j x g (inl o) = ap (put_at k e p.levels) o ∙ put_here k e p.levels ∙ sym (put_here k e depths) ∙ ap (put_at k e depths) (sym o) ∙ g
        levels j x g (inr o) = put_else k e p.levels j o ∙ h.levels j x (sym (put_else k e depths j o) ∙ g)

    test_rest : (cut : ℕ) (s : State) → IsRest homes framed l s → IsRest homes framed (in_test l cut) s
    test_rest cut s r = record { set = r.set; levels = r.levels; owed = r.owed; frame = r.frame; regs = r.regs }

    -- The code of a test and its cut: only the outer depths are left.
    test_does : (cut at : ℕ) (is : List Code) (test : Goals) → IsGoalsCode b homes framed (in_test l cut) at is (listed test) → (s : State)
        → IsRest homes framed l s → (n : ℕ) (depths : ℕ → Option Depth) (d : Depth) → HasDepths l depths d
        → (e k : Depth) (inner : ℕ → Option Depth) → HasDepths (in_test l cut) inner k → d.points ≤ e.points → ((j : ℕ) → j < l.next → inner j ≡ depths j)
        → inner l.next ≡ Some e → (p : Places) → InBody n homes inner p → (later : List Goal)
        → Does b at (is ++ (CutTo l.next ∷ [])) p [] (tested k.branches e.branches (rename_goals (λ x. n + x) test) later) (between_goals n homes depths) [] later
    test_does cut at is test g s r n depths d hd e k inner hk m same here p h later =
        let q : Places = between_goals n homes depths in
        let cuts : List Goal = goal.Cut (Some e.branches) ∷ later in
        let w = g.does s (test_rest cut s r) n inner k hk p cuts h in
        let first : Does b at is p [] (marked_all k.branches (listed (rename_goals (λ x. n + x) test)) ++ cuts) w.q [] cuts =
        subst (λ gs. Does b at is p [] (marked_all k.branches gs ++ cuts) w.q [] cuts) (sym (listed_renamed (λ x. n + x) test)) w.does in
        let outer : InBody n homes depths w.q = record {
          held = w.there.held;
          levels = λ j x f. w.there.levels j x (same j (hd.others j x f).1 ∙ f);
          whole = w.there.whole;
          own = w.there.own;
        } in
        let second : Does b (past at is) (CutTo l.next ∷ []) w.q [] cuts q [] later =
        does_cut b (past at is) l.next e w.q q later (w.there.levels l.next e here) (between_settled n homes depths apart w.q outer) (within_mine l n homes depths d e hd m) in
        does_both b at is (CutTo l.next ∷ []) p w.q q [] [] [] (marked_all k.branches (listed (rename_goals (λ x. n + x) test)) ++ cuts) cuts later first second

    test_flows : (cut at : ℕ) (is : List Code) (test : Goals) → IsGoalsCode b homes framed (in_test l cut) at is (listed test) → (s : State)
        → IsRest homes framed l s → Flows b at (is ++ (CutTo l.next ∷ [])) s s
    test_flows cut at is test g s r =
        let there : is_level (slot_at s.frame l.next) ≡ true = r.levels l.next in_first (omega (arith, room)) in
        flows_both b at is (CutTo l.next ∷ []) s s s (g.flows s (test_rest cut s r))
        (flows_simple b (past at is) (CutTo l.next) s s s (plain_of b (CutTo l.next) s r.owed ∙ when_true _ s there) (covers_self s) refl tt)

    deepest : (n : ℕ) (depths : ℕ → Option Depth) (d : Depth) → HasDepths l depths d → IsDeepest (between_goals n homes depths) d
    deepest n depths d hd = record { within = within_mine l n homes depths d d hd (omega arith); kept = inr (inl (l.cut, hd.cut c)) }

    -- the goals of a way
    way_does : (at : ℕ) (js : List Code) (gs : Goals) → IsGoalsCode b homes framed l at js (listed gs) → (s : State) → IsRest homes framed l s
        → (n : ℕ) (depths : ℕ → Option Depth) (d : Depth) → HasDepths l depths d → (later : List Goal)
        → Does b at js (between_goals n homes depths) [] (listed (marked_goals d.branches (rename_goals (λ x. n + x) gs)) ++ later) (between_goals n homes depths) [] later
    way_does at js gs g s r n depths d hd later =
        let q : Places = between_goals n homes depths in
        subst (λ w. Does b at js q [] (w ++ later) q [] later) (sym (listed_marked d.branches (λ x. n + x) gs)) (does_between b homes apart framed l at js (listed gs) g s r n depths d hd later)

    -- ---- C -> A

    pub goal_if : (at : ℕ) (is js : List Code) (test holds : Goals) → IsGoalsCode b homes framed (in_test l l.next) (suc at) is (listed test)
        → IsGoalsCode b homes framed l (past (suc at) (is ++ (CutTo l.next ∷ []))) js (listed holds)
        → IsGoalsCode b homes framed l at (TestOnly l.next ∷ ((is ++ (CutTo l.next ∷ [])) ++ js)) (goal.If test holds ∷ [])
    goal_if at is js test holds f g = record {
      does = λ s r n depths d hd p later h.
          let q : Places = between_goals n homes depths in
          let in' : InBody n homes depths q = between_in n homes depths apart in
          let behind : List Goal = listed (marked_goals d.branches (rename_goals (λ x. n + x) holds)) ++ later in
          record {
            q = q;
            there = in';
            same = λ e. refl;
            does = does_test_only b at l.next ((is ++ (CutTo l.next ∷ [])) ++ js) (rename_goals (λ x. n + x) test)
                (marked_goals d.branches (rename_goals (λ x. n + x) holds)) p q q d later (between_settled n homes depths apart p h)
                (deepest n depths d hd) (λ more.
                let e : Depth = deeper d more in
                let start : Places = put_level q l.next e in
                let first : Does b (suc at) (is ++ (CutTo l.next ∷ [])) start [] (tested e.branches e.branches (rename_goals (λ x. n + x) test) behind) q [] behind =
                test_does l.next (suc at) is test f s r n depths d hd e e (put_at l.next e depths) (once l c depths d e hd (omega arith)) (omega arith)
                (λ j m. put_below l.next e depths j m) (put_here l.next e depths) start
                (in_put n depths q l.next e in_first (omega (arith, room)) in') behind in
                does_both b (suc at) (is ++ (CutTo l.next ∷ [])) js start q q [] [] [] (tested e.branches e.branches (rename_goals (λ x. n + x) test) behind) behind later first
                (way_does (past (suc at) (is ++ (CutTo l.next ∷ []))) js holds g s r n depths d hd later));
          };
      flows = λ s r.
          let there : is_level (slot_at s.frame l.next) ≡ true = r.levels l.next in_first (omega (arith, room)) in
          flows_both b at (TestOnly l.next ∷ []) ((is ++ (CutTo l.next ∷ [])) ++ js) s s s
          (flows_simple b at (TestOnly l.next) s s s (plain_of b (TestOnly l.next) s r.owed
          ∙ when_true _ (with_level s l.next) (level_may (slot_at s.frame l.next) there) ∙ ap Some (level_as_is s l.next there)) (covers_self s) refl tt)
          (flows_both b (suc at) (is ++ (CutTo l.next ∷ [])) js s s s (test_flows l.next (suc at) is test f s r) (g.flows s r));
      enters = first_enters (TestOnly l.next) ((is ++ (CutTo l.next ∷ [])) ++ js) refl;
    }

    -- ---- C -> A ; B and \+ C

    enter_effect : (to : ℕ) (s : State) → IsRest homes framed l s → effect (unplaced b) (EnterTest l.next (suc l.next) to) s ≡ Some s
    enter_effect to s r =
        let one : is_level (slot_at s.frame l.next) ≡ true = r.levels l.next in_first (omega (arith, room)) in
        let two : is_level (slot_at s.frame (suc l.next)) ≡ true = r.levels (suc l.next) (let a = in_first in omega (arith, a)) (omega (arith, room)) in
        plain_of b (EnterTest l.next (suc l.next) to) s r.owed
        ∙ when_true _ (with_level (with_level s l.next) (suc l.next)) (both _ _ (level_may (slot_at s.frame l.next) one) (level_may (slot_at s.frame (suc l.next)) two))
        ∙ ap Some (ap (λ t. with_level t (suc l.next)) (level_as_is s l.next one) ∙ level_as_is s (suc l.next) two)

    -- the test of the one way, with its depths
    entered : (at : ℕ) (is : List Code) (test : Goals) → IsGoalsCode b homes framed (in_test l (suc l.next)) at is (listed test) → (s : State)
        → IsRest homes framed l s → (n : ℕ) (depths : ℕ → Option Depth) (d : Depth) → HasDepths l depths d → (e : Depth) → d.points ≤ e.points
        → (later : List Goal)
        → Does b at (is ++ (CutTo l.next ∷ [])) (put_level (put_level (between_goals n homes depths) l.next e) (suc l.next) (one_deeper e)) []
        (tested (suc e.branches) e.branches (rename_goals (λ x. n + x) test) later) (between_goals n homes depths) [] later
    entered at is test f s r n depths d hd e m later =
        let q : Places = between_goals n homes depths in
        let one : ℕ → Option Depth = put_at l.next e depths in
        let a = in_first in
        test_does (suc l.next) at is test f s r n depths d hd e (one_deeper e) (put_at (suc l.next) (one_deeper e) one) (twice l c depths d e hd m) m
        (λ j k. put_below (suc l.next) (one_deeper e) one j (omega (arith, k)) ∙ put_below l.next e depths j k)
        (put_below (suc l.next) (one_deeper e) one l.next (omega arith) ∙ put_here l.next e depths)
        (put_level (put_level q l.next e) (suc l.next) (one_deeper e))
        (in_put n one (put_level q l.next e) (suc l.next) (one_deeper e) (omega (arith, a)) (omega (arith, room))
        (in_put n depths q l.next e a (omega (arith, room)) (between_in n homes depths apart))) later

    -- the places of the other way have all that is counted on
    other_more : (n : ℕ) (depths : ℕ → Option Depth) (d e : Depth) → HasDepths l depths d
        → HasMore (drop_level (put_level (between_goals n homes depths) l.next e) (suc l.next)) (between_goals n homes depths)
    other_more n depths d e hd = record {
      xs = λ i t h. h;
      ys = λ i t h.
          drop_else (suc l.next) (put_level (between_goals n homes depths) l.next e).y i (λ o.
          let w = found_is (is_y i) n homes t h in
          fits.clear (suc l.next) (let a = in_first in omega (arith, a)) (omega (arith, room)) w.0 w.1 (y_is i (home homes w.0) w.2 ∙ ap Y o))
          ∙ drop_else l.next (between_goals n homes depths).y i (λ o.
          let w = found_is (is_y i) n homes t h in
          fits.clear l.next in_first (omega (arith, room)) w.0 w.1 (y_is i (home homes w.0) w.2 ∙ ap Y o)) ∙ h;
      levels = λ k x h.
          let m = (hd.others k x h).1 in
          drop_else (suc l.next) (put_at l.next e depths) k (λ o. omega (arith, o, m)) ∙ put_below l.next e depths k m ∙ h;
      noted = λ x h. h;
      known = refl;
      own = refl;
      top = refl;
    }

    -- both ways of a test
    pub goal_if_else : (at : ℕ) (is hs js : List Code) (test holds other : Goals)
        → IsGoalsCode b homes framed (in_test l (suc l.next)) (suc at) is (listed test)
        → IsGoalsCode b homes framed l (past (suc at) (is ++ (CutTo l.next ∷ []))) hs (listed holds)
        → IsGoalsCode b homes framed l (other_side at ((is ++ (CutTo l.next ∷ [])) ++ hs) js) js (listed other)
        → IsGoalsCode b homes framed l at (ways (EnterTest l.next (suc l.next) (other_side at ((is ++ (CutTo l.next ∷ [])) ++ hs) js)) at
        ((is ++ (CutTo l.next ∷ [])) ++ hs) js) (goal.IfElse test holds other ∷ [])
    goal_if_else at is hs js test holds other f g o = record {
      does = λ s r n depths d hd p later h.
          let q : Places = between_goals n homes depths in
          let in' : InBody n homes depths q = between_in n homes depths apart in
          let body : List Code = (is ++ (CutTo l.next ∷ [])) ++ hs in
          let to : ℕ = other_side at body js in
          let m : ℕ = d.branches in
          let test' : Goals = rename_goals (λ x. n + x) test in
          let holds' : Goals = marked_goals m (rename_goals (λ x. n + x) holds) in
          let other' : Goals = marked_goals m (rename_goals (λ x. n + x) other) in
          let target : to ≡ suc (past (suc at) body) = past_both (suc at) body (Jump (past (suc (past (suc at) body)) js) ∷ []) in
          let last : Does b (suc (past (suc at) body)) js q [] (listed other' ++ later) q [] later =
          subst (λ k. Does b k js q [] (listed other' ++ later) q [] later) target (way_does to js other o s r n depths d hd later) in
          record {
            q = q;
            there = in';
            same = λ e. refl;
            does = does_enter_test b at l.next (suc l.next) to (body ++ (Jump (past (suc (past (suc at) body)) js) ∷ js)) (goal.IfElse test' holds' other')
                test' (listed holds') (listed other') p q q d later
                (between_settled n homes depths apart p h) (deepest n depths d hd) (refl, refl, refl)
                (λ more.
                let e : Depth = deeper d more in
                let start : Places = put_level (put_level q l.next e) (suc l.next) (one_deeper e) in
                let behind : List Goal = listed holds' ++ later in
                does_ways b (suc at) body js start q (tested (suc e.branches) e.branches test' behind) later
                (does_both b (suc at) (is ++ (CutTo l.next ∷ [])) hs start q q [] [] [] (tested (suc e.branches) e.branches test' behind) behind later
                (entered (suc at) is test f s r n depths d hd e (omega arith) behind) (way_does (past (suc at) (is ++ (CutTo l.next ∷ []))) hs holds g s r n depths d hd later)))
                (λ more area w x stand z.
                let e : Depth = deeper d more in
                let there = other_way b (suc at) body js q q (listed other' ++ later) later last area w x stand z in
                means_more area w to (drop_level (put_level q l.next e) (suc l.next)) q [] (listed other' ++ later) (other_more n depths d e hd)
                (subst (λ k. Means area w k q [] (listed other' ++ later)) (sym target) there));
          };
      flows = λ s r.
          let body : List Code = (is ++ (CutTo l.next ∷ [])) ++ hs in
          flows_ways b at (EnterTest l.next (suc l.next) (other_side at body js)) body js s (enter_effect (other_side at body js) s r) refl refl tt r.owed
          (flows_both b (suc at) (is ++ (CutTo l.next ∷ [])) hs s s s (test_flows (suc l.next) (suc at) is test f s r) (g.flows s r)) (o.flows s r);
      enters = (let body : List Code = (is ++ (CutTo l.next ∷ [])) ++ hs in
          first_enters (EnterTest l.next (suc l.next) (other_side at body js)) (body ++ (Jump (past (suc (past (suc at) body)) js) ∷ js)) refl);
    }

    -- A negation: where the test holds, the code fails.
    pub goal_not : (at : ℕ) (is : List Code) (test : Goals) → IsGoalsCode b homes framed (in_test l (suc l.next)) (suc at) is (listed test)
        → IsGoalsCode b homes framed l at (EnterTest l.next (suc l.next) (past (suc at) ((is ++ (CutTo l.next ∷ [])) ++ (Builtin kind.Fail ∷ [])))
        ∷ ((is ++ (CutTo l.next ∷ [])) ++ (Builtin kind.Fail ∷ []))) (goal.Not test ∷ [])
    goal_not at is test f = record {
      does = λ s r n depths d hd p later h.
          let q : Places = between_goals n homes depths in
          let in' : InBody n homes depths q = between_in n homes depths apart in
          let body : List Code = (is ++ (CutTo l.next ∷ [])) ++ (Builtin kind.Fail ∷ []) in
          let to : ℕ = past (suc at) body in
          let test' : Goals = rename_goals (λ x. n + x) test in
          record {
            q = q;
            there = in';
            same = λ e. refl;
            does = does_enter_test b at l.next (suc l.next) to body (goal.Not test') test' (goal.Fail ∷ []) [] p q q d later
                (between_settled n homes depths apart p h) (deepest n depths d hd) (refl, refl, refl)
                (λ more.
                let e : Depth = deeper d more in
                let start : Places = put_level (put_level q l.next e) (suc l.next) (one_deeper e) in
                let behind : List Goal = goal.Fail ∷ later in
                does_both b (suc at) (is ++ (CutTo l.next ∷ [])) (Builtin kind.Fail ∷ []) start q q [] [] [] (tested (suc e.branches) e.branches test' behind) behind later
                (entered (suc at) is test f s r n depths d hd e (omega arith) behind)
                (does_builtin b (past (suc at) (is ++ (CutTo l.next ∷ []))) kind.Fail goal.Fail q q later refl (between_settled n homes depths apart q in')))
                (λ more area w x stand z. means_more area w to (drop_level (put_level q l.next (deeper d more)) (suc l.next)) q [] later (other_more n depths d (deeper d more) hd) z);
          };
      flows = λ s r.
          let body : List Code = (is ++ (CutTo l.next ∷ [])) ++ (Builtin kind.Fail ∷ []) in
          flows_over b at (EnterTest l.next (suc l.next) (past (suc at) body)) body s (enter_effect (past (suc at) body) s r) refl refl tt
          (flows_both b (suc at) (is ++ (CutTo l.next ∷ [])) (Builtin kind.Fail ∷ []) s s s (test_flows (suc l.next) (suc at) is test f s r)
          (flows_simple b (past (suc at) (is ++ (CutTo l.next ∷ []))) (Builtin kind.Fail) s s s (plain_of b (Builtin kind.Fail) s r.owed) (covers_self s) refl tt));
      enters = (let body : List Code = (is ++ (CutTo l.next ∷ [])) ++ (Builtin kind.Fail ∷ []) in first_enters (EnterTest l.next (suc l.next) (past (suc at) body)) body refl);
    }
