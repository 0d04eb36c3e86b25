-- How a body is written, one side behind the other.
use Rattle.std.proofs.Common.{◌≡◌, inl, inr, ℕ, suc, ◌+◌, ◌<◌, ◌≤◌, Bool, true, List, [], ◌∷◌, ◌++◌, Some, None, length, set, refl, ap, sym, ◌∙◌, subst, arith}
use Rattle.std.proofs.Common.{append_assoc}
use Rattle.std.proofs.lemmas.List.{length-append}
use Rattle.std.proofs.Math.Seq.{set-append_seam}
use Rattle.fd_model.specs.Goal as model
use Rattle.fd_model.specs.RunnablePrograms.{EachBelow, GoalBelow, GoalsBelow}
use Rattle.clause_check.specs.declared.program.Part.{Part}
use Rattle.clause_check.specs.declared.program.FlatGoal.{FlatGoal}
use Rattle.clause_check.specs.declared.program.FlatGoal.TheVariants as flat
use Rattle.clause_check.specs.Programs.{FlatProgram, unlisted, goal_at, goal_in, goals_in, goals_between, IsPart, IsGoal, IsProgram}
use Rattle.clause_check.proofs.Lemmas.{between_first, listed_unlisted}
use Rattle.fd_model.specs.declared.kinds.BuiltinKind.TheVariants as kind
use Rattle.wam_code.specs.declared.instruction.Register.{Register}
use Rattle.wam_code.specs.declared.instruction.Code.{Code}
use Rattle.wam_code.specs.declared.instruction.Code.TheVariants.{Jump, Either, Builtin, TestOnly, EnterTest, CutTo}
use Rattle.clause_code.specs.declared.open_sides.Side.{Side}
use Rattle.clause_code.specs.declared.open_sides.Side.TheVariants.{Left, Right, Test, Held, Choice, Chosen, Denial}
use Rattle.clause_code.specs.Pieces.{Base, Predicate, past}
use Rattle.clause_code.specs.Laws.{other_side, ways, sides}
use Rattle.clause_code.specs.Bodies.{Levels, in_test, AreFree, IsGoalsCode}
use Rattle.clause_code.specs.LevelSlots.{FitsGoal, AllFit, EachFits}
use Rattle.clause_code.proofs.Tests.{goal_cut, goal_if, goal_if_else, goal_not}
use Rattle.clause_code.specs.CodablePrograms.{IsCodableGoal, AreCodableGoals, EachCodable}
use Rattle.clause_code.specs.Predicates.{Appends, base_in}
use Rattle.clause_code.specs.SimpleGoals.{AreMade, GoalWritten, IsSimpleCode, IsWritable}
use Rattle.clause_code.specs.Sides.{Written, Level, Waits, tested_code, Opens, Nested, Stands, Enters, HasPlace, Leaves, turns, all_turns, turns_of}
use Rattle.clause_code.specs.Sides.{sides_turns}
use Rattle.clause_code.specs.ClauseParts.{AreSlots}
use Rattle.clause_code.proofs.ClauseAssembly.{written_first, written_next, next_known}
use Rattle.clause_code.proofs.Bodies.{goals_either}
use Rattle.clause_code.proofs.FramedClauses.{all_written, slots_only}
use Rattle.clause_code.proofs.CodePlaces.{past_is}
use Rattle.clause_code.proofs.Pieces.{past_both}
use Rattle.clause_code.proofs.SimpleGoals.{is_writable, simple_goal}

-- ---- goals as lists

each_below : (v : ℕ) (gs : List model.Goal) → GoalsBelow v (unlisted gs) → EachBelow v gs
each_below v [] h = tt
each_below v (g ∷ gs) h = (h.0, each_below v gs h.1)

each_codable : (gs : List model.Goal) → AreCodableGoals (unlisted gs) → EachCodable gs
each_codable [] h = tt
each_codable (g ∷ gs) h = (h.0, each_codable gs h.1)

each_fits : (l : Levels) (gs : List model.Goal) → AllFit l (unlisted gs) → EachFits l gs
each_fits l [] h = tt
each_fits l (g ∷ gs) h = (h.0, each_fits l gs h.1)

-- what is known of a side
record Side_known (p : FlatProgram) (v : ℕ) (l : Levels) (a : Part) : Type 0 where
  below : EachBelow v (goals_in p a)
  codable : EachCodable (goals_in p a)
  fits : EachFits l (goals_in p a)
  within : a.to ≤ length p.goals

-- in a test there are two fewer level slots
free_in_test : (homes : List Register) (l : Levels) (cut : ℕ) → AreFree homes l → suc (suc l.next) ≤ l.end → AreFree homes (in_test l cut)
free_in_test homes l cut f h = record { clear = f.clear; within = h }

module _ (p : FlatProgram) (known : IsProgram p) (b : Base) (homes : List Register) where
  -- ---- levels

  nested_more : (low mid high : Level) (ss : List Side) (s : Side) → Nested p b homes low ss mid → Opens p b homes mid s high → Nested p b homes low (ss ++ (s ∷ [])) high
  nested_more low mid high [] s n o = (high, subst (λ l. Opens p b homes l s high) (sym n) o, refl)
  nested_more low mid high (t ∷ ss) s n o = (n.0, n.1, nested_more n.0 mid high ss s n.2 o)

  nested_last : (low high : Level) (ss : List Side) (s : Side) → Nested p b homes low (ss ++ (s ∷ [])) high → (mid : Level) × Nested p b homes low ss mid × Opens p b homes mid s high
  nested_last low high [] s n = (low, refl, subst (λ h. Opens p b homes low s h) n.2 n.1)
  nested_last low high (t ∷ ss) s n = let w = nested_last n.0 high ss s n.2 in (w.0, (n.0, n.1, w.1), w.2)

  -- The goal that a level waits for is written.
  waited : (low : Level) (now new is : List Code) (x : FlatGoal) (rest : Part) → Waits p b homes low now x rest → new ≡ now ++ is
      → IsGoalsCode b homes true low.levels (length now) is (goal_in p x ∷ [])
      → Written p b homes low.levels (length low.before) low.before new low.part.from rest.from low.part.to
  waited low now new is x rest w e g =
      let m = w.written in
      let l : Levels = low.levels in
      let at : ℕ = length low.before in
      let place : length now ≡ past at m.js = let a = ap length m.code in let c = length-append low.before m.js in let d = past_is at m.js in omega (arith, a, c, d) in
      let there : IsGoalsCode b homes true l (past at m.js) is (goal_in p (goal_at p w.number) ∷ []) =
      subst (λ k. IsGoalsCode b homes true l k is (goal_in p (goal_at p w.number) ∷ [])) place (subst (λ y. IsGoalsCode b homes true l (length now) is (goal_in p y ∷ [])) (sym w.goal) g) in
      subst (λ k. Written p b homes l at low.before new low.part.from k low.part.to) (sym w.next)
      (written_next p known b homes l at low.before now new is low.part.from w.number low.part.to w.below w.within m e there)

  -- Then its rest is next.
  resumed : (first low : Level) (ss : List Side) (now new is : List Code) (x : FlatGoal) (rest : Part) → Nested p b homes first ss low
      → Waits p b homes low now x rest → new ≡ now ++ is → IsGoalsCode b homes true low.levels (length now) is (goal_in p x ∷ [])
      → Stands p b homes first ss new rest low.levels
  resumed first low ss now new is x rest n w e g = record {
    top = low;
    nested = n;
    written = waited low now new is x rest w e g;
    end = w.end;
    within = let a = w.end in let c = w.within in omega (arith, a, c);
    levels = refl;
  }

  -- The level on top waits for the first of its goals.
  waiting : (first : Level) (ss : List Side) (now : List Code) (part rest : Part) (l : Levels) (x : FlatGoal) → (s : Stands p b homes first ss now part l)
      → part.from < part.to → goal_at p part.from ≡ x → rest.from ≡ part.from + 1 → rest.to ≡ part.to → Waits p b homes s.top now x rest
  waiting first ss now part rest l x s m e f t = record {
    number = part.from;
    written = s.written;
    goal = e;
    next = omega (arith, f);
    end = t ∙ s.end;
    below = let a = s.end in omega (arith, a, m);
    within = let a = s.end in let c = s.within in omega (arith, a, c);
  }

  -- what is known of the goal that a level waits for
  goal_known : (low : Level) (now : List Code) (x : FlatGoal) (rest : Part) → (w : Waits p b homes low now x rest)
      → IsGoal p.pool (length p.ranges) w.number x × GoalBelow (length homes) (goal_in p x) × IsCodableGoal (goal_in p x) × FitsGoal low.levels (goal_in p x)
  goal_known low now x rest w =
      let k = next_known p known b homes low.levels (length low.before) low.before now low.part.from w.number low.part.to w.below w.within w.written in
      let l : w.number < length p.goals = let a = w.below in let c = w.within in omega (arith, a, c) in (
        subst (IsGoal p.pool (length p.ranges) w.number) w.goal (known.goals w.number l),
        subst (λ y. GoalBelow (length homes) (goal_in p y)) w.goal k.0,
        subst (λ y. IsCodableGoal (goal_in p y)) w.goal k.1,
        subst (λ y. FitsGoal low.levels (goal_in p y)) w.goal k.2,
      )

  -- a part of it
  part_known : (low : Level) (now : List Code) (x : FlatGoal) (rest : Part) (w : Waits p b homes low now x rest) (l : Levels) (a : Part)
      → IsPart w.number a → GoalsBelow (length homes) (unlisted (goals_in p a)) → AreCodableGoals (unlisted (goals_in p a)) → AllFit l (unlisted (goals_in p a))
      → Side_known p (length homes) l a
  part_known low now x rest w l a i below codable fits =
      record {
        below = each_below (length homes) (goals_in p a) below;
        codable = each_codable (goals_in p a) codable;
        fits = each_fits l (goals_in p a) fits;
        within = let j = i.within in let k = w.below in let n = w.within in omega (arith, j, k, n);
      }

  -- A side begins.
  begun : (first low : Level) (ss : List Side) (s : Side) (now : List Code) (a : Part) (l : Levels) → Nested p b homes first ss low
      → Opens p b homes low s (record { before = now; part = a; levels = l }) → AreFree homes l → Side_known p (length homes) l a
      → Stands p b homes first (ss ++ (s ∷ [])) now a l
  begun first low ss s now a l n o f k = record {
    top = record { before = now; part = a; levels = l };
    nested = nested_more first low (record { before = now; part = a; levels = l }) ss s n o;
    written = written_first p b homes l (length now) now a.from a.to k.below k.codable k.fits f;
    end = refl;
    within = k.within;
    levels = refl;
  }

  -- All goals of the level on top are written.
  ended : (first : Level) (ss : List Side) (now : List Code) (part : Part) (l : Levels) → (s : Stands p b homes first ss now part l) → part.to ≤ part.from
      → Appends s.top.before now (λ is. IsGoalsCode b homes true s.top.levels (length s.top.before) is (goals_in p s.top.part))
  ended first ss now part l s m = all_written p b homes s.top.levels (length s.top.before) s.top.before now s.top.part.from part.from s.top.part.to
      (let e = s.end in omega (arith, e, m)) s.written

  -- as the definition has them
  as_goals : (l : Levels) (at : ℕ) (is : List Code) (a : Part) → IsGoalsCode b homes true l at is (goals_in p a) → IsGoalsCode b homes true l at is (model.listed (unlisted (goals_in p a)))
  as_goals l at is a g = subst (IsGoalsCode b homes true l at is) (sym (listed_unlisted (goals_in p a))) g

  -- What stands is said by the new sides, part and levels.
  moved : (first : Level) (ss later : List Side) (new : List Code) (a next : Part) (l m : Levels) → Stands p b homes first ss new a l → later ≡ ss
      → next ≡ a → m ≡ l → Stands p b homes first later new next m
  moved first ss later new a next l m s e f g = subst (λ x. Stands p b homes first later new next x) (sym g)
      (subst (λ x. Stands p b homes first later new x l) (sym f) (subst (λ x. Stands p b homes first x new a l) (sym e) s))

  -- the cut behind a test
  cut_behind : (old before now new js is : List Code) (i c : Code) → before ≡ old ++ (i ∷ []) → now ≡ before ++ is → new ≡ now ++ (c ∷ []) → new ≡ old ++ (i ∷ (is ++ (c ∷ [])))
  cut_behind old before now new js is i c e f g = g ∙ ap (λ x. x ++ (c ∷ [])) (f ∙ ap (λ x. x ++ is) e ∙ append_assoc old (i ∷ []) is) ∙ append_assoc old (i ∷ is) (c ∷ [])

  -- ---- the ends of sides

  left_ended : (first : Level) (ss later : List Side) (now new : List Code) (part next : Part) (l m : Levels) (either : ℕ) (right rest : Part)
      → Stands p b homes first (ss ++ (Left either right rest ∷ [])) now part l → part.to ≤ part.from
      → Leaves (Left either right rest) l now ss new later next m
      → Stands p b homes first later new next m
  left_ended first ss later now new part next l m either right rest s z w =
      let n = nested_last first s.top ss (Left either right rest) s.nested in
      let low : Level = n.0 in
      let k = n.2 in
      let old : List Code = k.now in
      let d = ended first (ss ++ (Left either right rest ∷ [])) now part l s z in
      let is : List Code = d.0 in
      let tops : length s.top.before ≡ length old + 1 = let a = ap length k.before in let c = length-append old (Either 0 ∷ []) in omega (arith, a, c) in
      let whole : now ≡ old ++ (Either 0 ∷ is) = d.1 ∙ ap (λ x. x ++ is) k.before ∙ append_assoc old (Either 0 ∷ []) is in
      let long : length now ≡ length old + suc (length is) = let a = ap length whole in let c = length-append old (Either 0 ∷ is) in omega (arith, a, c) in
      let aim : (length now + 1) ≡ (length old + length is + 2) = omega (arith, long) in
      let jumped : now ++ (Jump 0 ∷ []) ≡ old ++ (Either 0 ∷ (is ++ (Jump 0 ∷ []))) = ap (λ x. x ++ (Jump 0 ∷ [])) whole ∙ append_assoc old (Either 0 ∷ is) (Jump 0 ∷ []) in
      let ends : new ≡ old ++ (Either (length old + length is + 2) ∷ (is ++ (Jump 0 ∷ []))) =
      w.0
      ∙ ap (λ x. set x either (Either (length now + 1))) jumped
      ∙ ap (λ i. set (old ++ (Either 0 ∷ (is ++ (Jump 0 ∷ [])))) i (Either (length now + 1))) k.place
      ∙ set-append_seam old (Either 0) (is ++ (Jump 0 ∷ [])) (Either (length now + 1))
      ∙ ap (λ o. old ++ (Either o ∷ (is ++ (Jump 0 ∷ [])))) aim in
      let place : length s.top.before ≡ suc (length old) = omega (arith, tops) in
      let code : IsGoalsCode b homes true low.levels (suc (length old)) is (goals_in p s.top.part) =
      subst (λ x. IsGoalsCode b homes true x (suc (length old)) is (goals_in p s.top.part)) k.levels
      (subst (λ j. IsGoalsCode b homes true s.top.levels j is (goals_in p s.top.part)) place d.2) in
      let opens : Opens p b homes low (Right (length now) rest) (record { before = new; part = right; levels = low.levels }) =
      inl (record { now = old; left = s.top.part; is = is; waits = k.waits; code = code; before = ends; levels = refl; place = long }) in
      let g = goal_known low old (flat.Either s.top.part right) rest k.waits in
      let c = part_known low old (flat.Either s.top.part right) rest k.waits low.levels right g.0.1 g.1.1 g.2.1 g.3.1 in
      let free = let y = k.waits.written in y.free in
      let all : Stands p b homes first (ss ++ (Right (length now) rest ∷ [])) new right low.levels = begun first low ss (Right (length now) rest) new right low.levels n.1 opens free c in
      moved first (ss ++ (Right (length now) rest ∷ [])) later new right next low.levels m all w.1 w.2 (w.3 ∙ s.levels ∙ k.levels)

  -- The second of two ways is written: the jump behind the first one leads behind it.
  second_written : (old is js now new : List Code) (i : ℕ → Code) (jump : ℕ) → (let at = length old in
      now ≡ (old ++ (i (length old + length is + 2) ∷ is)) ++ (Jump 0 ∷ js) → jump ≡ length old + suc (length is)
      → new ≡ set now jump (Jump (length now)) → new ≡ old ++ ways (i (other_side at is js)) at is js)
  second_written old is js now new i jump whole place e =
      let at : ℕ = length old in
      let o : ℕ = (length old + length is + 2) in
      let front : length (old ++ (i o ∷ is)) ≡ length old + suc (length is) = length-append old (i o ∷ is) in
      let long : length now ≡ length old + suc (length is) + suc (length js) = let a = ap length whole in let c = length-append (old ++ (i o ∷ is)) (Jump 0 ∷ js) in omega (arith, a, c, front) in
      let near : past (suc at) is ≡ suc at + length is = past_is (suc at) is in
      let target : o ≡ other_side at is js = let a = past_both (suc at) is (Jump (past (suc (past (suc at) is)) js) ∷ []) in omega (arith, a, near) in
      let far : length now ≡ past (suc (past (suc at) is)) js = let a = past_is (suc (past (suc at) is)) js in omega (arith, a, near, long) in
      e
      ∙ ap (λ x. set x jump (Jump (length now))) whole
      ∙ ap (λ k. set ((old ++ (i o ∷ is)) ++ (Jump 0 ∷ js)) k (Jump (length now))) (place ∙ sym front)
      ∙ set-append_seam (old ++ (i o ∷ is)) (Jump 0) js (Jump (length now))
      ∙ append_assoc old (i o ∷ is) (Jump (length now) ∷ js)
      ∙ ap (λ x. old ++ (i o ∷ (is ++ (Jump x ∷ js)))) far
      ∙ ap (λ x. old ++ (i x ∷ (is ++ (Jump (past (suc (past (suc at) is)) js) ∷ js)))) target

  -- and where it stands
  second_place : (old is js before : List Code) (i : Code) → before ≡ old ++ (i ∷ (is ++ (Jump 0 ∷ []))) → length before ≡ other_side (length old) is js
  second_place old is js before i e =
      let at : ℕ = length old in
      let a = ap length e in
      let c = length-append old (i ∷ (is ++ (Jump 0 ∷ []))) in
      let d = length-append is (Jump 0 ∷ []) in
      let f = past_both (suc at) is (Jump (past (suc (past (suc at) is)) js) ∷ []) in
      let g = past_is (suc at) is in
      omega (arith, a, c, d, f, g)

  right_ended : AreSlots homes → (first : Level) (ss later : List Side) (now new : List Code) (part next : Part) (l m : Levels) (jump : ℕ) (rest : Part)
      → Stands p b homes first (ss ++ (Right jump rest ∷ [])) now part l → part.to ≤ part.from → Leaves (Right jump rest) l now ss new later next m
      → Stands p b homes first later new next m
  right_ended slots first ss later now new part next l m jump rest s z w =
      let n = nested_last first s.top ss (Right jump rest) s.nested in
      let d = ended first (ss ++ (Right jump rest ∷ [])) now part l s z in
      by n.0 n.1 n.2 d
    where
      by : (low : Level) → Nested p b homes first ss low → Opens p b homes low (Right jump rest) s.top
          → Appends s.top.before now (λ is. IsGoalsCode b homes true s.top.levels (length s.top.before) is (goals_in p s.top.part))
          → Stands p b homes first later new next m
      by low n (inl k) d =
          let old : List Code = k.now in
          let is : List Code = k.is in
          let js : List Code = d.0 in
          let at : ℕ = length old in
          let o : ℕ = (length old + length is + 2) in
          let whole : now ≡ (old ++ (Either o ∷ is)) ++ (Jump 0 ∷ js) =
          d.1 ∙ ap (λ x. x ++ js) (k.before ∙ sym (append_assoc old (Either o ∷ is) (Jump 0 ∷ []))) ∙ append_assoc (old ++ (Either o ∷ is)) (Jump 0 ∷ []) js in
          let ends : new ≡ old ++ sides at is js = second_written old is js now new (λ x. Either x) jump whole k.place w.0 in
          let place : length s.top.before ≡ other_side at is js = second_place old is js s.top.before (Either o) k.before in
          let two : IsGoalsCode b homes true low.levels (other_side at is js) js (goals_in p s.top.part) =
          subst (λ x. IsGoalsCode b homes true x (other_side at is js) js (goals_in p s.top.part)) k.levels
          (subst (λ j. IsGoalsCode b homes true s.top.levels j js (goals_in p s.top.part)) place d.2) in
          let both : IsGoalsCode b homes true low.levels at (sides at is js) (goal_in p (flat.Either k.left s.top.part) ∷ []) =
          goals_either b homes slots.apart true low.levels at is js (unlisted (goals_in p k.left)) (unlisted (goals_in p s.top.part))
          (as_goals low.levels (suc at) is k.left k.code) (as_goals low.levels (other_side at is js) js s.top.part two) in
          let all : Stands p b homes first ss new rest low.levels = resumed first low ss old new (sides at is js) (flat.Either k.left s.top.part) rest n k.waits ends both in
          moved first ss later new rest next low.levels m all w.1 w.2 (w.3 ∙ s.levels ∙ k.levels)
      by low n (inr k) d =
          let old : List Code = k.now in
          let lv : Levels = low.levels in
          let body : List Code = tested_code lv k.is ++ k.hs in
          let js : List Code = d.0 in
          let at : ℕ = length old in
          let o : ℕ = (length old + length body + 2) in
          let i : ℕ → Code = λ x. EnterTest lv.next (suc lv.next) x in
          let whole : now ≡ (old ++ (i o ∷ body)) ++ (Jump 0 ∷ js) =
          d.1 ∙ ap (λ x. x ++ js) (k.before ∙ sym (append_assoc old (i o ∷ body) (Jump 0 ∷ []))) ∙ append_assoc (old ++ (i o ∷ body)) (Jump 0 ∷ []) js in
          let ends : new ≡ old ++ ways (i (other_side at body js)) at body js = second_written old body js now new i jump whole k.place w.0 in
          let place : length s.top.before ≡ other_side at body js = second_place old body js s.top.before (i o) k.before in
          let two : IsGoalsCode b homes true lv (other_side at body js) js (goals_in p s.top.part) =
          subst (λ x. IsGoalsCode b homes true x (other_side at body js) js (goals_in p s.top.part)) k.levels
          (subst (λ j. IsGoalsCode b homes true s.top.levels j js (goals_in p s.top.part)) place d.2) in
          let x : FlatGoal = flat.If k.test k.holds (Some s.top.part) in
          let g = goal_known low old x rest k.waits in
          let free = let y = k.waits.written in y.free in
          let all : IsGoalsCode b homes true lv at (ways (i (other_side at body js)) at body js) (goal_in p x ∷ []) =
          goal_if_else b homes slots.apart true lv free g.3.0.0 g.3.0.1 at k.is k.hs js (unlisted (goals_in p k.test)) (unlisted (goals_in p k.holds)) (unlisted (goals_in p s.top.part))
          (as_goals (in_test lv (suc lv.next)) (suc at) k.is k.test k.code) (as_goals lv (past (suc at) (tested_code lv k.is)) k.hs k.holds k.way)
          (as_goals lv (other_side at body js) js s.top.part two) in
          let here : Stands p b homes first ss new rest lv = resumed first low ss old new (ways (i (other_side at body js)) at body js) x rest n k.waits ends all in
          moved first ss later new rest next lv m here w.1 w.2 (w.3 ∙ s.levels ∙ k.levels)

  -- The test of C -> A is written, and its cut.
  test_ended : (first : Level) (ss later : List Side) (now new : List Code) (part next : Part) (l m outer : Levels) (holds rest : Part)
      → Stands p b homes first (ss ++ (Test outer holds rest ∷ [])) now part l → part.to ≤ part.from
      → Leaves (Test outer holds rest) l now ss new later next m
      → Stands p b homes first later new next m
  test_ended first ss later now new part next l m outer holds rest s z w =
      let n = nested_last first s.top ss (Test outer holds rest) s.nested in
      let low : Level = n.0 in
      let k = n.2 in
      let lv : Levels = low.levels in
      let old : List Code = k.now in
      let d = ended first (ss ++ (Test outer holds rest ∷ [])) now part l s z in
      let is : List Code = d.0 in
      let ends : new ≡ old ++ (TestOnly lv.next ∷ tested_code lv is) =
      cut_behind old s.top.before now new [] is (TestOnly lv.next) (CutTo lv.next) k.before d.1 (w.0 ∙ ap (λ (x : Levels). now ++ (CutTo x.next ∷ [])) k.same) in
      let place : length s.top.before ≡ suc (length old) = let a = ap length k.before in let c = length-append old (TestOnly lv.next ∷ []) in omega (arith, a, c) in
      let code : IsGoalsCode b homes true (in_test lv lv.next) (suc (length old)) is (goals_in p s.top.part) =
      subst (λ x. IsGoalsCode b homes true x (suc (length old)) is (goals_in p s.top.part)) k.levels
      (subst (λ j. IsGoalsCode b homes true s.top.levels j is (goals_in p s.top.part)) place d.2) in
      let opens : Opens p b homes low (Held rest) (record { before = new; part = holds; levels = lv }) = record {
        now = old;
        test = s.top.part;
        is = is;
        waits = k.waits;
        code = code;
        before = ends;
        levels = refl;
      } in
      let x : FlatGoal = flat.If s.top.part holds None in
      let g = goal_known low old x rest k.waits in
      let c = part_known low old x rest k.waits lv holds g.0.1 g.1.1 g.2.1 g.3.2 in
      let free = let y = k.waits.written in y.free in
      let all : Stands p b homes first (ss ++ (Held rest ∷ [])) new holds lv = begun first low ss (Held rest) new holds lv n.1 opens free c in
      moved first (ss ++ (Held rest ∷ [])) later new holds next lv m all w.1 w.2 (w.3 ∙ k.same)

  -- And A of it.
  held_ended : AreSlots homes → (first : Level) (ss later : List Side) (now new : List Code) (part next : Part) (l m : Levels) (rest : Part)
      → Stands p b homes first (ss ++ (Held rest ∷ [])) now part l → part.to ≤ part.from → Leaves (Held rest) l now ss new later next m
      → Stands p b homes first later new next m
  held_ended slots first ss later now new part next l m rest s z w =
      let n = nested_last first s.top ss (Held rest) s.nested in
      let low : Level = n.0 in
      let k = n.2 in
      let lv : Levels = low.levels in
      let old : List Code = k.now in
      let at : ℕ = length old in
      let test : List Code = tested_code lv k.is in
      let d = ended first (ss ++ (Held rest ∷ [])) now part l s z in
      let js : List Code = d.0 in
      let ends : new ≡ old ++ (TestOnly lv.next ∷ (test ++ js)) = w.0 ∙ d.1 ∙ ap (λ x. x ++ js) k.before ∙ append_assoc old (TestOnly lv.next ∷ test) js in
      let place : length s.top.before ≡ past (suc at) test = let a = ap length k.before in let c = length-append old (TestOnly lv.next ∷ test) in
      let e = past_is (suc at) test in omega (arith, a, c, e) in
      let code : IsGoalsCode b homes true lv (past (suc at) test) js (goals_in p s.top.part) =
      subst (λ x. IsGoalsCode b homes true x (past (suc at) test) js (goals_in p s.top.part)) k.levels (subst (λ j. IsGoalsCode b homes true s.top.levels j js (goals_in p s.top.part)) place d.2) in
      let x : FlatGoal = flat.If k.test s.top.part None in
      let g = goal_known low old x rest k.waits in
      let free = let y = k.waits.written in y.free in
      let all : IsGoalsCode b homes true lv at (TestOnly lv.next ∷ (test ++ js)) (goal_in p x ∷ []) =
      goal_if b homes slots.apart true lv free g.3.0.0 g.3.0.1 at k.is js (unlisted (goals_in p k.test)) (unlisted (goals_in p s.top.part))
      (as_goals (in_test lv lv.next) (suc at) k.is k.test k.code) (as_goals lv (past (suc at) test) js s.top.part code) in
      let here : Stands p b homes first ss new rest lv = resumed first low ss old new (TestOnly lv.next ∷ (test ++ js)) x rest n.1 k.waits ends all in
      moved first ss later new rest next lv m here w.1 w.2 (w.3 ∙ s.levels ∙ k.levels)

  -- The test of C -> A ; B is written, and its cut.
  choice_ended : (first : Level) (ss later : List Side) (now new : List Code) (part next : Part) (l m : Levels) (at : ℕ) (outer : Levels)
      (holds other rest : Part) → Stands p b homes first (ss ++ (Choice at outer holds other rest ∷ [])) now part l → part.to ≤ part.from
      → Leaves (Choice at outer holds other rest) l now ss new later next m
      → Stands p b homes first later new next m
  choice_ended first ss later now new part next l m at outer holds other rest s z w =
      let n = nested_last first s.top ss (Choice at outer holds other rest) s.nested in
      let low : Level = n.0 in
      let k = n.2 in
      let lv : Levels = low.levels in
      let old : List Code = k.now in
      let i : Code = EnterTest lv.next (suc lv.next) 0 in
      let d = ended first (ss ++ (Choice at outer holds other rest ∷ [])) now part l s z in
      let is : List Code = d.0 in
      let ends : new ≡ old ++ (i ∷ tested_code lv is) = cut_behind old s.top.before now new [] is i (CutTo lv.next) k.before d.1 (w.0 ∙ ap (λ (x : Levels). now ++ (CutTo x.next ∷ [])) k.same) in
      let place : length s.top.before ≡ suc (length old) = let a = ap length k.before in let c = length-append old (i ∷ []) in omega (arith, a, c) in
      let code : IsGoalsCode b homes true (in_test lv (suc lv.next)) (suc (length old)) is (goals_in p s.top.part) =
      subst (λ x. IsGoalsCode b homes true x (suc (length old)) is (goals_in p s.top.part)) k.levels
      (subst (λ j. IsGoalsCode b homes true s.top.levels j is (goals_in p s.top.part)) place d.2) in
      let opens : Opens p b homes low (Chosen at other rest) (record { before = new; part = holds; levels = lv }) = record {
        now = old;
        test = s.top.part;
        is = is;
        waits = k.waits;
        code = code;
        before = ends;
        levels = refl;
        place = k.place;
      } in
      let x : FlatGoal = flat.If s.top.part holds (Some other) in
      let g = goal_known low old x rest k.waits in
      let c = part_known low old x rest k.waits lv holds g.0.1 g.1.1 g.2.1 g.3.2 in
      let free = let y = k.waits.written in y.free in
      let all : Stands p b homes first (ss ++ (Chosen at other rest ∷ [])) new holds lv = begun first low ss (Chosen at other rest) new holds lv n.1 opens free c in
      moved first (ss ++ (Chosen at other rest ∷ [])) later new holds next lv m all w.1 w.2 (w.3 ∙ k.same)

  -- A of it is written, and the jump behind it.
  chosen_ended : (first : Level) (ss later : List Side) (now new : List Code) (part next : Part) (l m : Levels) (at : ℕ) (other rest : Part)
      → Stands p b homes first (ss ++ (Chosen at other rest ∷ [])) now part l → part.to ≤ part.from
      → Leaves (Chosen at other rest) l now ss new later next m
      → Stands p b homes first later new next m
  chosen_ended first ss later now new part next l m at other rest s z w =
      let n = nested_last first s.top ss (Chosen at other rest) s.nested in
      let low : Level = n.0 in
      let k = n.2 in
      let lv : Levels = low.levels in
      let old : List Code = k.now in
      let test : List Code = tested_code lv k.is in
      let i : ℕ → Code = λ x. EnterTest lv.next (suc lv.next) x in
      let d = ended first (ss ++ (Chosen at other rest ∷ [])) now part l s z in
      let hs : List Code = d.0 in
      let body : List Code = test ++ hs in
      let whole : now ≡ old ++ (i 0 ∷ body) = d.1 ∙ ap (λ x. x ++ hs) k.before ∙ append_assoc old (i 0 ∷ test) hs in
      let long : length now ≡ length old + suc (length body) = let a = ap length whole in let c = length-append old (i 0 ∷ body) in omega (arith, a, c) in
      let aim : (length now + 1) ≡ (length old + length body + 2) = omega (arith, long) in
      let jumped : now ++ (Jump 0 ∷ []) ≡ old ++ (i 0 ∷ (body ++ (Jump 0 ∷ []))) = ap (λ x. x ++ (Jump 0 ∷ [])) whole ∙ append_assoc old (i 0 ∷ body) (Jump 0 ∷ []) in
      let named : EnterTest l.next (suc l.next) (length now + 1) ≡ i (length now + 1) = ap
      (λ (x : Levels). EnterTest x.next (suc x.next) (length now + 1)) (s.levels ∙ k.levels) in
      let ends : new ≡ old ++ (i (length old + length body + 2) ∷ (body ++ (Jump 0 ∷ []))) =
      w.0
      ∙ ap (λ x. set (now ++ (Jump 0 ∷ [])) at x) named
      ∙ ap (λ x. set x at (i (length now + 1))) jumped
      ∙ ap (λ j. set (old ++ (i 0 ∷ (body ++ (Jump 0 ∷ [])))) j (i (length now + 1))) k.place
      ∙ set-append_seam old (i 0) (body ++ (Jump 0 ∷ [])) (i (length now + 1))
      ∙ ap (λ o. old ++ (i o ∷ (body ++ (Jump 0 ∷ [])))) aim in
      let here : ℕ = length old in
      let place : length s.top.before ≡ past (suc here) test = let a = ap length k.before in let c = length-append old (i 0 ∷ test) in
      let e = past_is (suc here) test in omega (arith, a, c, e) in
      let way : IsGoalsCode b homes true lv (past (suc here) test) hs (goals_in p s.top.part) =
      subst (λ x. IsGoalsCode b homes true x (past (suc here) test) hs (goals_in p s.top.part)) k.levels (subst (λ j. IsGoalsCode b homes true s.top.levels j hs (goals_in p s.top.part)) place d.2) in
      let opens : Opens p b homes low (Right (length now) rest) (record { before = new; part = other; levels = lv }) =
      inr (record { now = old; test = k.test; holds = s.top.part; is = k.is; hs = hs; waits = k.waits; code = k.code; way = way; before = ends; levels = refl; place = long }) in
      let x : FlatGoal = flat.If k.test s.top.part (Some other) in
      let g = goal_known low old x rest k.waits in
      let c = part_known low old x rest k.waits lv other g.0.2 g.1.2 g.2.2 g.3.3 in
      let free = let y = k.waits.written in y.free in
      let all : Stands p b homes first (ss ++ (Right (length now) rest ∷ [])) new other lv = begun first low ss (Right (length now) rest) new other lv n.1 opens free c in
      moved first (ss ++ (Right (length now) rest ∷ [])) later new other next lv m all w.1 w.2 (w.3 ∙ s.levels ∙ k.levels)

  -- The test of a negation is written, its cut and its failing.
  denial_ended : AreSlots homes → (first : Level) (ss later : List Side) (now new : List Code) (part next : Part) (l m : Levels) (at : ℕ) (outer : Levels)
      (rest : Part) → Stands p b homes first (ss ++ (Denial at outer rest ∷ [])) now part l → part.to ≤ part.from
      → Leaves (Denial at outer rest) l now ss new later next m
      → Stands p b homes first later new next m
  denial_ended slots first ss later now new part next l m at outer rest s z w =
      let n = nested_last first s.top ss (Denial at outer rest) s.nested in
      let low : Level = n.0 in
      let k = n.2 in
      let lv : Levels = low.levels in
      let old : List Code = k.now in
      let here : ℕ = length old in
      let i : ℕ → Code = λ x. EnterTest lv.next (suc lv.next) x in
      let fails : List Code = Builtin kind.Fail ∷ [] in
      let d = ended first (ss ++ (Denial at outer rest ∷ [])) now part l s z in
      let is : List Code = d.0 in
      let body : List Code = tested_code lv is ++ fails in
      let whole : now ≡ old ++ (i 0 ∷ is) = d.1 ∙ ap (λ x. x ++ is) k.before ∙ append_assoc old (i 0 ∷ []) is in
      let long : length now ≡ length old + suc (length is) = let a = ap length whole in let c = length-append old (i 0 ∷ is) in omega (arith, a, c) in
      let behind : now ++ (CutTo outer.next ∷ fails) ≡ old ++ (i 0 ∷ body) =
      ap (λ (x : Levels). now ++ (CutTo x.next ∷ fails)) k.same ∙ ap (λ x. x ++ (CutTo lv.next ∷ fails)) whole
      ∙ append_assoc old (i 0 ∷ is) (CutTo lv.next ∷ fails) ∙ ap (λ x. old ++ (i 0 ∷ x)) (sym (append_assoc is (CutTo lv.next ∷ []) fails)) in
      let size : length body ≡ length is + 2 = let a = length-append (tested_code lv is) fails in let c = length-append is (CutTo lv.next ∷ []) in omega (arith, a, c) in
      let aim : (length now + 2) ≡ past (suc here) body = let a = past_is (suc here) body in omega (arith, a, size, long) in
      let named : EnterTest outer.next (suc outer.next) (length now + 2) ≡ i (past (suc here) body) = ap
      (λ (x : Levels). EnterTest x.next (suc x.next) (length now + 2)) k.same ∙ ap i aim in
      let ends : new ≡ old ++ (i (past (suc here) body) ∷ body) =
      w.0
      ∙ ap (λ x. set (now ++ (CutTo outer.next ∷ fails)) at x) named
      ∙ ap (λ x. set x at (i (past (suc here) body))) behind
      ∙ ap (λ j. set (old ++ (i 0 ∷ body)) j (i (past (suc here) body))) k.place
      ∙ set-append_seam old (i 0) body (i (past (suc here) body)) in
      let place : length s.top.before ≡ suc here = let a = ap length k.before in let c = length-append old (i 0 ∷ []) in omega (arith, a, c) in
      let code : IsGoalsCode b homes true (in_test lv (suc lv.next)) (suc here) is (goals_in p s.top.part) =
      subst (λ x. IsGoalsCode b homes true x (suc here) is (goals_in p s.top.part)) k.levels (subst (λ j. IsGoalsCode b homes true s.top.levels j is (goals_in p s.top.part)) place d.2) in
      let x : FlatGoal = flat.Not s.top.part in
      let g = goal_known low old x rest k.waits in
      let free = let y = k.waits.written in y.free in
      let all : IsGoalsCode b homes true lv here (i (past (suc here) body) ∷ body) (goal_in p x ∷ []) =
      goal_not b homes slots.apart true lv free g.3.0.0 g.3.0.1 here is (unlisted (goals_in p s.top.part)) (as_goals (in_test lv (suc lv.next)) (suc here) is s.top.part code) in
      let done : Stands p b homes first ss new rest lv = resumed first low ss old new (i (past (suc here) body) ∷ body) x rest n.1 k.waits ends all in
      moved first ss later new rest next lv m done w.1 w.2 (w.3 ∙ k.same)

  -- A side is left.
  pub left_behind : AreSlots homes → (first : Level) (ss later : List Side) (now new : List Code) (part next : Part) (l m : Levels) (side : Side)
      → Stands p b homes first (ss ++ (side ∷ [])) now part l → part.to ≤ part.from → Leaves side l now ss new later next m
      → Stands p b homes first later new next m
  left_behind slots first ss later now new part next l m (Left either right rest) s z w = left_ended first ss later now new part next l m either right rest s z w
  left_behind slots first ss later now new part next l m (Right jump rest) s z w = right_ended slots first ss later now new part next l m jump rest s z w
  left_behind slots first ss later now new part next l m (Test outer holds rest) s z w = test_ended first ss later now new part next l m outer holds rest s z w
  left_behind slots first ss later now new part next l m (Held rest) s z w = held_ended slots first ss later now new part next l m rest s z w
  left_behind slots first ss later now new part next l m (Choice at outer holds other rest) s z w = choice_ended first ss later now new part next l m at outer holds other rest s z w
  left_behind slots first ss later now new part next l m (Chosen at other rest) s z w = chosen_ended first ss later now new part next l m at other rest s z w
  left_behind slots first ss later now new part next l m (Denial at outer rest) s z w = denial_ended slots first ss later now new part next l m at outer rest s z w

  -- what is written is at least what stands before the part
  before_less : (first : Level) (ss : List Side) (now : List Code) (part : Part) (l : Levels) → (s : Stands p b homes first ss now part l) → length s.top.before ≤ length now
  before_less first ss now part l s = let m = s.written in let a = ap length m.code in let c = length-append s.top.before m.js in omega (arith, a, c)

  -- The instruction without a place is there.
  pub place_there : (first : Level) (ss : List Side) (now : List Code) (part : Part) (l : Levels) (side : Side) → Stands p b homes first (ss ++ (side ∷ [])) now part l → HasPlace side now
  place_there first ss now part l (Left either right rest) s =
      let k = (nested_last first s.top ss (Left either right rest) s.nested).2 in
      let a = before_less first (ss ++ (Left either right rest ∷ [])) now part l s in
      let d = ap length k.before in
      let e = length-append k.now (Either 0 ∷ []) in
      let f = k.place in
      omega (arith, a, d, e, f)
  place_there first ss now part l (Right jump rest) s = by (nested_last first s.top ss (Right jump rest) s.nested).0 (nested_last first s.top ss (Right jump rest) s.nested).2
    where
      by : (low : Level) → Opens p b homes low (Right jump rest) s.top → jump < length now
      by low (inl k) =
          let o : ℕ = (length k.now + length k.is + 2) in
          let a = before_less first (ss ++ (Right jump rest ∷ [])) now part l s in
          let d = ap length k.before in
          let e = length-append k.now (Either o ∷ (k.is ++ (Jump 0 ∷ []))) in
          let f = length-append k.is (Jump 0 ∷ []) in
          let g = k.place in
          omega (arith, a, d, e, f, g)
      by low (inr k) =
          let body : List Code = tested_code low.levels k.is ++ k.hs in
          let o : ℕ = (length k.now + length body + 2) in
          let a = before_less first (ss ++ (Right jump rest ∷ [])) now part l s in
          let d = ap length k.before in
          let e = length-append k.now (EnterTest low.levels.next (suc low.levels.next) o ∷ (body ++ (Jump 0 ∷ []))) in
          let f = length-append body (Jump 0 ∷ []) in
          let g = k.place in
          omega (arith, a, d, e, f, g)
  place_there first ss now part l (Test outer holds rest) s = tt
  place_there first ss now part l (Held rest) s = tt
  place_there first ss now part l (Choice at outer holds other rest) s = tt
  place_there first ss now part l (Chosen at other rest) s =
      let n = nested_last first s.top ss (Chosen at other rest) s.nested in
      let low : Level = n.0 in
      let k = n.2 in
      let a = before_less first (ss ++ (Chosen at other rest ∷ [])) now part l s in
      let d = ap length k.before in
      let e = length-append k.now (EnterTest low.levels.next (suc low.levels.next) 0 ∷ tested_code low.levels k.is) in
      let f = k.place in
      omega (arith, a, d, e, f)
  place_there first ss now part l (Denial at outer rest) s =
      let n = nested_last first s.top ss (Denial at outer rest) s.nested in
      let low : Level = n.0 in
      let k = n.2 in
      let a = before_less first (ss ++ (Denial at outer rest ∷ [])) now part l s in
      let d = ap length k.before in
      let e = length-append k.now (EnterTest low.levels.next (suc low.levels.next) 0 ∷ []) in
      let f = k.place in
      omega (arith, a, d, e, f)

  -- ---- the beginning and the end

  pub stands_first : (old : List Code) (part : Part) (l : Levels) → AreFree homes l → part.to ≤ length p.goals → EachBelow (length homes) (goals_in p part)
      → EachCodable (goals_in p part) → EachFits l (goals_in p part) → Stands p b homes (record { before = old; part = part; levels = l }) [] old part l
  stands_first old part l free m below codable fits = record {
    top = record { before = old; part = part; levels = l };
    nested = refl;
    written = written_first p b homes l (length old) old part.from part.to below codable fits free;
    end = refl;
    within = m;
    levels = refl;
  }

  pub stands_last : (first : Level) (now : List Code) (part : Part) (l : Levels) → Stands p b homes first [] now part l → part.to ≤ part.from
      → Appends first.before now (λ is. IsGoalsCode b homes true first.levels (length first.before) is (goals_in p first.part))
  stands_last first now part l s m = subst (λ (f : Level). Appends f.before now
      (λ is. IsGoalsCode b homes true f.levels (length f.before) is (goals_in p f.part))) (sym s.nested) (ended first [] now part l s m)

  -- the goal that is next can be written, and there are level slots for it
  pub stands_writable : (first : Level) (ss : List Side) (now : List Code) (part : Part) (l : Levels) → Stands p b homes first ss now part l
      → part.from < part.to → IsWritable p (length homes) (goal_at p part.from) × FitsGoal l (goal_in p (goal_at p part.from))
  unfolding waiting
  stands_writable first ss now part l s m =
      let w = waiting first ss now part (record { from = part.from + 1; to = part.to }) l (goal_at p part.from) s m refl refl refl in
      let k = goal_known s.top now (goal_at p part.from) (record { from = part.from + 1; to = part.to }) w in
      (is_writable p known.pool (length homes) part.from (goal_at p part.from) k.0 k.1 k.2, subst (λ x. FitsGoal x (goal_in p (goal_at p part.from))) (sym s.levels) k.3)

-- ---- one goal

module _ (p : FlatProgram) (known : IsProgram p) (ps : List Predicate) (homes : List Register) (slots : AreSlots homes) (made : List Bool)
    (all : AreMade made) (long : length made ≡ length homes) where
  abbrev b : Base
  b = base_in p ps

  -- it is written, and the rest is next
  whole_goal : (first : Level) (ss later : List Side) (now new is : List Code) (part rest next : Part) (l m : Levels) (g : FlatGoal)
      → (s : Stands p b homes first ss now part l) → part.from < part.to → goal_at p part.from ≡ g → rest.from ≡ part.from + 1 → rest.to ≡ part.to
      → new ≡ now ++ is
      → ((w : Waits p b homes s.top now g rest) → IsGoalsCode b homes true s.top.levels (length now) is (goal_in p g ∷ [])) → later ≡ ss
      → next ≡ rest → m ≡ l → Stands p b homes first later new next m
  whole_goal first ss later now new is part rest next l m g s z e f t c code u v y =
      let w = waiting p known b homes first ss now part rest l g s z e f t in
      let here : Stands p b homes first ss new rest s.top.levels = resumed p known b homes first s.top ss now new is g rest s.nested w c (code w) in
      moved p known b homes first ss later new rest next s.top.levels m here u v (y ∙ s.levels)

  passed : (first : Level) (ss later : List Side) (now new is : List Code) (part rest next : Part) (l m : Levels) (g : FlatGoal)
      → Stands p b homes first ss now part l → part.from < part.to → goal_at p part.from ≡ g → rest.from ≡ part.from + 1 → rest.to ≡ part.to
      → new ≡ now ++ is → IsSimpleCode p ps homes made g is
      → later ≡ ss → next ≡ rest → m ≡ l → Stands p b homes first later new next m
  passed first ss later now new is part rest next l m g s z e f t c h u v y =
      whole_goal first ss later now new is part rest next l m g s z e f t c (λ w.
      let k = goal_known p known b homes s.top now g rest w in
      let free = let x = w.written in x.free in
      let writable = is_writable p known.pool (length homes) w.number g k.0 k.1 k.2 in
      simple_goal p ps homes slots.apart s.top.levels free (slots_only homes slots) made all long (length now) w.number g is k.0 writable k.2 h) u v y

  -- A goal is written, or the first instruction of one with parts.
  pub entered : (first : Level) (ss later : List Side) (now new : List Code) (part rest next : Part) (l m : Levels) (g : FlatGoal)
      → Stands p b homes first ss now part l → part.from < part.to → goal_at p part.from ≡ g → rest.from ≡ part.from + 1 → rest.to ≡ part.to
      → GoalWritten p ps homes l made g now new
      → Enters g (length now) rest l ss later next m → Stands p b homes first later new next m
  entered first ss later now new part rest next l m flat.True s z e f t w n = passed first ss later now new _ part rest next l m flat.True s z e f t w refl n.0 n.1 n.2
  entered first ss later now new part rest next l m flat.Fail s z e f t w n = passed first ss later now new _ part rest next l m flat.Fail s z e f t w refl n.0 n.1 n.2
  entered first ss later now new part rest next l m (flat.Unify x y) s z e f t w n = passed first ss later now new _ part rest next l m (flat.Unify x y) s z e f t w refl n.0 n.1 n.2
  entered first ss later now new part rest next l m (flat.Post x r) s z e f t w n = passed first ss later now new _ part rest next l m (flat.Post x r) s z e f t w refl n.0 n.1 n.2
  entered first ss later now new part rest next l m (flat.Constrain k x) s z e f t w n = passed first ss later now new _ part rest next l m (flat.Constrain k x) s z e f t w refl n.0 n.1 n.2
  entered first ss later now new part rest next l m (flat.Label o x) s z e f t w n = passed first ss later now new _ part rest next l m (flat.Label o x) s z e f t w refl n.0 n.1 n.2
  entered first ss later now new part rest next l m (flat.Call x) s z e f t w n = passed first ss later now new _ part rest next l m (flat.Call x) s z e f t
      w.code (w.number, w.of.0, w.of.1, w.of.2, refl) n.0 n.1 n.2
  entered first ss later now new part rest next l m (flat.Builtin k x) s z e f t w n = passed first ss later now new _ part rest next l m (flat.Builtin k x) s z e f t w refl n.0 n.1 n.2
  entered first ss later now new part rest next l m (flat.Best k least x y) s z e f t w n = passed first ss later now new _ part rest next l m (flat.Best k least x y) s z e f t w refl n.0 n.1 n.2
  entered first ss later now new part rest next l m flat.Cut s z e f t w n =
      whole_goal first ss later now new (CutTo s.top.levels.cut ∷ []) part rest next l m flat.Cut s z e f t (w ∙ ap (λ (x : Levels). now ++ (CutTo x.cut ∷ [])) s.levels) (λ v.
      let k = goal_known p known b homes s.top now flat.Cut rest v in
      let free = let x = v.written in x.free in
      goal_cut b homes slots.apart true s.top.levels free k.3 (length now)) n.0 n.1 n.2
  entered first ss later now new part rest next l m (flat.Either a c) s z e f t w n =
      let x : FlatGoal = flat.Either a c in
      let v = waiting p known b homes first ss now part rest l x s z e f t in
      let lv : Levels = s.top.levels in
      let k = goal_known p known b homes s.top now x rest v in
      let opens : Opens p b homes s.top (Left (length now) c rest) (record { before = new; part = a; levels = lv }) = record { now = now; waits = v; before = w; levels = refl; place = refl } in
      let free = let y = s.written in y.free in
      let here : Stands p b homes first (ss ++ (Left (length now) c rest ∷ [])) new a lv =
      begun p known b homes first s.top ss (Left (length now) c rest) new a lv s.nested opens free (part_known p known b homes s.top now x rest v lv a k.0.0 k.1.0 k.2.0 k.3.0) in
      moved p known b homes first (ss ++ (Left (length now) c rest ∷ [])) later new a next lv m here n.0 n.1 (n.2 ∙ s.levels)
  entered first ss later now new part rest next l m (flat.If a c None) s z e f t w n =
      let x : FlatGoal = flat.If a c None in
      let v = waiting p known b homes first ss now part rest l x s z e f t in
      let lv : Levels = s.top.levels in
      let inner : Levels = in_test lv lv.next in
      let k = goal_known p known b homes s.top now x rest v in
      let opens : Opens p b homes s.top (Test l c rest) (record { before = new; part = a; levels = inner }) = record {
        now = now;
        waits = v;
        before = w ∙ ap (λ (y : Levels). now ++ (TestOnly y.next ∷ [])) s.levels;
        levels = refl;
        same = s.levels;
      } in
      let free = let y = s.written in y.free in
      let here : Stands p b homes first (ss ++ (Test l c rest ∷ [])) new a inner =
      begun p known b homes first s.top ss (Test l c rest) new a inner s.nested opens (free_in_test homes lv lv.next free k.3.0.1)
      (part_known p known b homes s.top now x rest v inner a k.0.0 k.1.0 k.2.0 k.3.1) in
      moved p known b homes first (ss ++ (Test l c rest ∷ [])) later new a next inner m here n.0 n.1 (n.2 ∙ ap (λ (y : Levels). in_test y y.next) s.levels)
  entered first ss later now new part rest next l m (flat.If a c (Some o)) s z e f t w n =
      let x : FlatGoal = flat.If a c (Some o) in
      let v = waiting p known b homes first ss now part rest l x s z e f t in
      let lv : Levels = s.top.levels in
      let inner : Levels = in_test lv (suc lv.next) in
      let k = goal_known p known b homes s.top now x rest v in
      let opens : Opens p b homes s.top (Choice (length now) l c o rest) (record { before = new; part = a; levels = inner }) =
      record { now = now; waits = v; before = w ∙ ap (λ (y : Levels). now ++ (EnterTest y.next (suc y.next) 0 ∷ [])) s.levels; levels = refl; same = s.levels; place = refl } in
      let free = let y = s.written in y.free in
      let here : Stands p b homes first (ss ++ (Choice (length now) l c o rest ∷ [])) new a inner =
      begun p known b homes first s.top ss (Choice (length now) l c o rest) new a inner s.nested opens (free_in_test homes lv (suc lv.next) free k.3.0.1)
      (part_known p known b homes s.top now x rest v inner a k.0.0 k.1.0 k.2.0 k.3.1) in
      moved p known b homes first (ss ++ (Choice (length now) l c o rest ∷ [])) later new a next inner m here n.0 n.1 (n.2 ∙ ap (λ (y : Levels). in_test y (suc y.next)) s.levels)
  entered first ss later now new part rest next l m (flat.Not a) s z e f t w n =
      let x : FlatGoal = flat.Not a in
      let v = waiting p known b homes first ss now part rest l x s z e f t in
      let lv : Levels = s.top.levels in
      let inner : Levels = in_test lv (suc lv.next) in
      let k = goal_known p known b homes s.top now x rest v in
      let opens : Opens p b homes s.top (Denial (length now) l rest) (record { before = new; part = a; levels = inner }) =
      record { now = now; waits = v; before = w ∙ ap (λ (y : Levels). now ++ (EnterTest y.next (suc y.next) 0 ∷ [])) s.levels; levels = refl; same = s.levels; place = refl } in
      let free = let y = s.written in y.free in
      let here : Stands p b homes first (ss ++ (Denial (length now) l rest ∷ [])) new a inner =
      begun p known b homes first s.top ss (Denial (length now) l rest) new a inner s.nested opens (free_in_test homes lv (suc lv.next) free k.3.0.1)
      (part_known p known b homes s.top now x rest v inner a k.0 k.1 k.2 k.3.1) in
      moved p known b homes first (ss ++ (Denial (length now) l rest ∷ [])) later new a next inner m here n.0 n.1 (n.2 ∙ ap (λ (y : Levels). in_test y (suc y.next)) s.levels)

-- ---- turns

sides_both : (p : FlatProgram) (ss ts : List Side) → sides_turns p (ss ++ ts) ≡ sides_turns p ss + sides_turns p ts
sides_both p [] ts = omega arith
sides_both p (s ∷ ss) ts = let e = sides_both p ss ts in omega (arith, e)

turns_first : (p : FlatProgram) → IsProgram p → (part rest : Part) (g : FlatGoal) → part.from < part.to → part.to ≤ length p.goals → goal_at p part.from ≡ g
    → rest.from ≡ part.from + 1 → rest.to ≡ part.to → turns_of p part ≡ turns (goal_in p g) + turns_of p rest
turns_first p known part rest g l m e f t =
    let up : suc part.from ≡ rest.from = omega (arith, f) in
    ap (λ gs. all_turns (unlisted gs)) (between_first p known part.from part.to l m)
    ∙ ap (λ x. turns (goal_in p x) + all_turns (unlisted (goals_between p (suc part.from) part.to))) e
    ∙ ap (λ i. turns (goal_in p g) + all_turns (unlisted (goals_between p i part.to))) up
    ∙ ap (λ i. turns (goal_in p g) + all_turns (unlisted (goals_between p rest.from i))) (sym t)

enters_less : (p : FlatProgram) (g : FlatGoal) (at : ℕ) (rest next : Part) (l m : Levels) (ss later : List Side) → Enters g at rest l ss later next m
    → turns_of p next + sides_turns p later < turns (goal_in p g) + turns_of p rest + sides_turns p ss
enters_less p (flat.Either a c) at rest next l m ss later n =
    let x = ap (sides_turns p) n.0 in
    let y = sides_both p ss (Left at c rest ∷ []) in
    let z = ap (turns_of p) n.1 in
    omega (arith, x, y, z)
enters_less p (flat.If a c None) at rest next l m ss later n = let x = ap (sides_turns p) n.0 in let y = sides_both p ss (Test l c rest ∷ []) in let z = ap (turns_of p) n.1 in omega (arith, x, y, z)
enters_less p (flat.If a c (Some o)) at rest next l m ss later n = let x = ap (sides_turns p) n.0 in let y = sides_both p ss (Choice at l c o rest ∷ []) in
    let z = ap (turns_of p) n.1 in omega (arith, x, y, z)
enters_less p (flat.Not a) at rest next l m ss later n = let x = ap (sides_turns p) n.0 in let y = sides_both p ss (Denial at l rest ∷ []) in let z = ap (turns_of p) n.1 in omega (arith, x, y, z)
enters_less p _ at rest next l m ss later n = let x = ap (sides_turns p) n.0 in let z = ap (turns_of p) n.1 in omega (arith, x, z)

pub entered_less : (p : FlatProgram) → IsProgram p → (part rest next : Part) (l m : Levels) (g : FlatGoal) (at : ℕ) (ss later : List Side) → part.from < part.to
    → part.to ≤ length p.goals → goal_at p part.from ≡ g → rest.from ≡ part.from + 1 → rest.to ≡ part.to → Enters g at rest l ss later next m
    → turns_of p next + sides_turns p later < turns_of p part + sides_turns p ss
entered_less p known part rest next l m g at ss later low high e f t n =
    let x = turns_first p known part rest g low high e f t in
    let y = enters_less p g at rest next l m ss later n in
    omega (arith, x, y)

pub left_less : (p : FlatProgram) (ss later : List Side) (now new : List Code) (part next : Part) (l m : Levels) (side : Side)
    → Leaves side l now ss new later next m → turns_of p next + sides_turns p later < turns_of p part + sides_turns p (ss ++ (side ∷ []))
left_less p ss later now new part next l m (Left either right rest) w =
    let x = ap (sides_turns p) w.1 in let y = sides_both p ss (Right (length now) rest ∷ []) in let z = ap (turns_of p) w.2 in let v = sides_both p ss (Left either right rest ∷ []) in
    omega (arith, x, y, z, v)
left_less p ss later now new part next l m (Right jump rest) w = let x = ap (sides_turns p) w.1 in let z = ap (turns_of p) w.2 in
    let v = sides_both p ss (Right jump rest ∷ []) in omega (arith, x, z, v)
left_less p ss later now new part next l m (Test outer holds rest) w =
    let x = ap (sides_turns p) w.1 in let y = sides_both p ss (Held rest ∷ []) in let z = ap (turns_of p) w.2 in let v = sides_both p ss (Test outer holds rest ∷ []) in
    omega (arith, x, y, z, v)
left_less p ss later now new part next l m (Held rest) w = let x = ap (sides_turns p) w.1 in let z = ap (turns_of p) w.2 in let v = sides_both p ss (Held rest ∷ []) in omega (arith, x, z, v)
left_less p ss later now new part next l m (Choice at outer holds other rest) w =
    let x = ap (sides_turns p) w.1 in let y = sides_both p ss (Chosen at other rest ∷ []) in let z = ap (turns_of p) w.2 in let v = sides_both p ss (Choice at outer holds other rest ∷ []) in
    omega (arith, x, y, z, v)
left_less p ss later now new part next l m (Chosen at other rest) w =
    let x = ap (sides_turns p) w.1 in let y = sides_both p ss (Right (length now) rest ∷ []) in let z = ap (turns_of p) w.2 in let v = sides_both p ss (Chosen at other rest ∷ []) in
    omega (arith, x, y, z, v)
left_less p ss later now new part next l m (Denial at outer rest) w = let x = ap (sides_turns p) w.1 in let z = ap (turns_of p) w.2 in
    let v = sides_both p ss (Denial at outer rest ∷ []) in omega (arith, x, z, v)
