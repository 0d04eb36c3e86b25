-- What the code of goals does, and how states flow through it.
use Rattle.std.proofs.Common.{◌≡◌, ℕ, zero, suc, ◌+◌, ◌<◌, ◌≤◌, Bool, true, false, if◌then◌else◌, IsTrue, List, [], ◌∷◌, ◌++◌, map, Option, Some, None, length}
use Rattle.std.proofs.Common.{slice_get, refl, ap, sym, ◌∙◌, subst, arith, eq-eqb}
use Rattle.std.proofs.lemmas.Bool.{true≢false}
use Rattle.std.proofs.lemmas.Bool.Decides.{nat_tests}
use Rattle.fd_language.specs.Family.{has}
use Rattle.fd_language.specs.Term.{Term, Terms, Var, term_count}
use Rattle.fd_model.specs.Goal as goal
use Rattle.fd_model.specs.Goal.{Goal, Goals, listed, marked, marked_goals, marked_all}
use Rattle.fd_model.specs.Renaming.{rename_goal, rename_goals}
use Rattle.branch_meaning.specs.Heap.{Below}
use Rattle.wam_code.specs.declared.instruction.Register.{Register}
use Rattle.wam_code.specs.declared.instruction.Register.TheVariants.{X, Y}
use Rattle.wam_code.specs.declared.instruction.Code.{Code}
use Rattle.wam_code.specs.declared.instruction.Code.TheVariants.{Jump, Either, GetVariable, GetValue, GetConstant, GetInteger, GetStructure, UnifyVariable}
use Rattle.wam_code.specs.declared.instruction.Code.TheVariants.{UnifyValue, UnifyConstant, UnifyInteger, PutVariable, PutValue, PutConstant, PutInteger}
use Rattle.wam_code.specs.declared.instruction.Code.TheVariants.{PutStructure}
use Rattle.wam_code.specs.Area.{State}
use Rattle.wam_code.specs.Effect.{effect}
use Rattle.wam_code.specs.VerifiedCode.{Covers}
use Rattle.wam_code.specs.Places.{Depth, Places, read, IsSettled, Hold}
use Rattle.clause_code.specs.Pieces.{Base, past, Does}
use Rattle.clause_code.specs.Laws.{other_side, sides}
use Rattle.clause_code.specs.SafeCode.{unplaced, IsThereIn, may_enter}
use Rattle.clause_code.specs.StateFlow.{is_simple, MayEnter}
use Rattle.clause_code.specs.Steps.{Step, get_variable, get_constant, get_integer, get_structure, unify_variable, unify_register, unify_new, unify_constant}
use Rattle.clause_code.specs.Steps.{unify_integer, put_variable, put_constant, put_integer, put_structure, home, is_made, is_register, marked_by, marked_by_all}
use Rattle.clause_code.specs.Steps.{instructions, code_of, puts, AllSuit}
use Rattle.clause_code.specs.ArgumentHomes.{AllLand}
use Rattle.clause_code.specs.Bodies.{is_x, is_y, found_home, Levels, HasDepths, IsNoHome, AreFree, between_goals, InBody, IsRest, IsGoalsCode}
use Rattle.clause_code.proofs.Pieces.{does_nothing, does_both, does_either}
use Rattle.clause_code.proofs.FreshVariables.{Clear, KeepsDepths, AreApart, fits_whole}
use Rattle.clause_code.proofs.StepEffects.{moved_all, AllMade, At}
use Rattle.clause_code.proofs.BuiltTerms.{PutAllBy, puts_put}
use Rattle.clause_code.proofs.StateFlow.{flows_both, flows_nothing, flows_runs_less, flows_sides, enters_both, simple_enters}

-- ---- places between goals

pub found_is : (test : Register → Bool) (u : ℕ) (rs : List Register) (t : Term) → found_home test u rs ≡ Some t → (x : ℕ) × (x < length rs) × (test (home rs x) ≡ true) × (t ≡ Var (u + x))
found_is test u [] t e = absurd (cc)
found_is test u (r ∷ rs) t e = by (found_is test (suc u) rs t) (test r) refl e
  where
    by : (found_home test (suc u) rs ≡ Some t → (x : ℕ) × (x < length rs) × (test (home rs x) ≡ true) × (t ≡ Var (suc u + x))) → (c : Bool) → test r ≡ c
        → (if c then Some (Var u) else found_home test (suc u) rs) ≡ Some t
        → (x : ℕ) × (x < length (r ∷ rs)) × (test (home (r ∷ rs) x) ≡ true) × (t ≡ Var (u + x))
    by rest true h g = let a : Var u ≡ t = cc in let z : u ≡ u + 0 = omega arith in (0, omega arith, h, sym a ∙ ap Var z)
    by rest false h g =
        let w = rest g in
        let l = w.1 in
        let z : suc u + w.0 ≡ u + suc w.0 = omega arith in
        (suc w.0, omega (arith, l), w.2, w.3 ∙ ap Var z)

found_at : (test : Register → Bool) (u : ℕ) (rs : List Register) (x : ℕ) → x < length rs → test (home rs x) ≡ true
    → ((y : ℕ) → y < length rs → test (home rs y) ≡ true → y ≡ x) → found_home test u rs ≡ Some (Var (u + x))
found_at test u [] x l h one = absurd (omega (arith, l))
found_at test u (r ∷ rs) zero l h one = let z : u ≡ u + 0 = omega arith in ap (λ c. if c then Some (Var u) else found_home test (suc u) rs) h ∙ ap (λ k. Some (Var k)) z
found_at test u (r ∷ rs) (suc x) l h one =
    let z : suc u + x ≡ u + suc x = omega arith in
    ap (λ c. if c then Some (Var u) else found_home test (suc u) rs) (not_first (test r) refl)
    ∙ found_at test (suc u) rs x (omega (arith, l)) h (λ y m g. let e = one (suc y) (omega (arith, m)) g in omega (arith, e))
    ∙ ap (λ k. Some (Var k)) z
  where
    not_first : (c : Bool) → test r ≡ c → test r ≡ false
    not_first true e = let f = one 0 (omega arith) e in absurd (omega (arith, f))
    not_first false e = e

x_is : (i : ℕ) (r : Register) → is_x i r ≡ true → r ≡ X i
x_is i (X j) h = let e : i ≡ j = grind (arith, nat_tests) in ap X (sym e)
x_is i (Y j) h = absurd (true≢false (sym h))

pub y_is : (i : ℕ) (r : Register) → is_y i r ≡ true → r ≡ Y i
y_is i (X j) h = absurd (true≢false (sym h))
y_is i (Y j) h = let e : i ≡ j = grind (arith, nat_tests) in ap Y (sym e)

module _ (n : ℕ) (homes : List Register) (depths : ℕ → Option Depth) (apart : AreApart homes) where
  between_read : (x : ℕ) → x < length homes → (r : Register) → home homes x ≡ r → read (between_goals n homes depths) r ≡ Some (Var (n + x))
  between_read x l (X i) e = found_at (is_x i) n homes x l (ap (is_x i) e ∙ eq-eqb i i refl) (λ y m h. apart y x m l (x_is i (home homes y) h ∙ sym e))
  between_read x l (Y i) e = found_at (is_y i) n homes x l (ap (is_y i) e ∙ eq-eqb i i refl) (λ y m h. apart y x m l (y_is i (home homes y) h ∙ sym e))

  -- Each variable is in its home.
  pub between_in : InBody n homes depths (between_goals n homes depths)
  between_in = record { held = λ x l. between_read x l (home homes x) refl; levels = λ k e h. h; whole = λ v l. absurd (omega (arith, l)); own = refl }

  -- After a goal no more than that is counted on.
  pub between_settled : (p : Places) → InBody n homes depths p → IsSettled p (between_goals n homes depths)
  between_settled p b = record {
    whole = b.whole;
    xs = λ i t e.
        let w = found_is (is_x i) n homes t e in
        let l = w.1 in
        let own = b.own in
        let less : n + w.0 < p.own = omega (arith, l, own) in
        let read' : p.x i ≡ Some (Var (n + w.0)) = subst (λ r. read p r ≡ Some (Var (n + w.0))) (x_is i (home homes w.0) w.2) (b.held w.0 l) in
        (read' ∙ ap Some (sym w.3), subst (Below p.own) (sym w.3) less);
    ys = λ i t e.
        let w = found_is (is_y i) n homes t e in
        let l = w.1 in
        let own = b.own in
        let less : n + w.0 < p.own = omega (arith, l, own) in
        let read' : p.y i ≡ Some (Var (n + w.0)) = subst (λ r. read p r ≡ Some (Var (n + w.0))) (y_is i (home homes w.0) w.2) (b.held w.0 l) in
        (read' ∙ ap Some (sym w.3), subst (Below p.own) (sym w.3) less);
    levels = b.levels;
    noted = λ d h. absurd (cc);
    known = λ v. refl;
    own = sym b.own;
    top = refl;
  }

  pub at_body : (framed : Bool) (l : Levels) (made : List Bool) (p : Places) (s : State) → AllMade homes made → length made ≡ length homes
      → InBody n homes depths p → IsRest homes framed l s → At n homes made p s
  at_body framed l made p s all long b r = record {
    fits = record { held = λ x l e. b.held x l; fresh = λ x l e. absurd (true≢false (sym (all x l) ∙ e)); whole = λ i l h. b.whole i l; own = b.own };
    tracks = record { set = λ x l e. r.set x l; free = λ x l e. absurd (true≢false (sym (all x l) ∙ e)) };
    long = long;
  }

  pub body_at : (made : List Bool) (p q : Places) (s : State) → AllMade homes made → At n homes made q s
      → ((k : ℕ) (e : Depth) → depths k ≡ Some e → p.levels k ≡ Some e) → ((k : ℕ) (e : Depth) → depths k ≡ Some e → IsNoHome homes k) → KeepsDepths homes p q
      → InBody n homes depths q
  body_at made p q s all a levels clear kept = record {
    held = λ x l. a.fits.held x l (all x l);
    levels = λ k e h. kept.levels k (clear k e h) ∙ levels k e h;
    whole = fits_whole n homes made q a.fits all;
    own = a.fits.own;
  }

-- ---- one goal

pub nothing_enters : MayEnter []
nothing_enters i e = absurd (cc)

pub single_enters : (i : Code) → IsTrue (may_enter i) → MayEnter (i ∷ [])
single_enters i h j e = let same : i ≡ j = cc in subst (λ x. IsTrue (may_enter x)) same h

step_enters : (homes : List Register) (made : List Bool) (s : Step) → MayEnter (instructions homes made s)
step_enters homes made (get_variable x a) = by (is_made made x) (is_register (home homes x) a)
  where
    by : (c d : Bool) → MayEnter (if c then GetValue (home homes x) a ∷ [] else (if d then [] else GetVariable (home homes x) a ∷ []))
    by true d = single_enters (GetValue (home homes x) a) refl
    by false true = nothing_enters
    by false false = single_enters (GetVariable (home homes x) a) refl
step_enters homes made (get_constant c a) = single_enters (GetConstant c a) refl
step_enters homes made (get_integer z a) = single_enters (GetInteger z a) refl
step_enters homes made (get_structure f n a) = single_enters (GetStructure f n a) refl
step_enters homes made (unify_variable x) = by (is_made made x)
  where
    by : (c : Bool) → MayEnter (if c then UnifyValue (home homes x) ∷ [] else UnifyVariable (home homes x) ∷ [])
    by true = single_enters (UnifyValue (home homes x)) refl
    by false = single_enters (UnifyVariable (home homes x)) refl
step_enters homes made (unify_register r) = single_enters (UnifyValue (X r)) refl
step_enters homes made (unify_new r) = single_enters (UnifyVariable (X r)) refl
step_enters homes made (unify_constant c) = single_enters (UnifyConstant c) refl
step_enters homes made (unify_integer z) = single_enters (UnifyInteger z) refl
step_enters homes made (put_variable x a) = by (is_made made x) (is_register (home homes x) a)
  where
    by : (c d : Bool) → MayEnter (if c then (if d then [] else PutValue (home homes x) a ∷ []) else PutVariable (home homes x) a ∷ [])
    by true true = nothing_enters
    by true false = single_enters (PutValue (home homes x) a) refl
    by false d = single_enters (PutVariable (home homes x) a) refl
step_enters homes made (put_constant c a) = single_enters (PutConstant c a) refl
step_enters homes made (put_integer z a) = single_enters (PutInteger z a) refl
step_enters homes made (put_structure f n a) = single_enters (PutStructure f n a) refl

pub steps_enter : (homes : List Register) (made : List Bool) (ss : List Step) → MayEnter (code_of homes made ss)
steps_enter homes made [] = nothing_enters
steps_enter homes made (s ∷ ss) = enters_both (instructions homes made s) (code_of homes (marked_by made s) ss) (step_enters homes made s) (steps_enter homes (marked_by made s) ss)

-- the arguments of a goal can be put into the first registers, by way of those from `free` on
pub record Fine (b : Base) (homes : List Register) (free : ℕ) (ts : Terms) : Type 0 where
  pub suit : AllSuit b.pool (length homes) ts
  pub below : suc (term_count ts) ≤ free
  pub lands : AllLand homes 1 ts
  pub clear : (j : ℕ) → free ≤ j → Clear homes j

-- what holds behind the arguments of a goal
pub record Loaded (s t : State) (k : ℕ) : Type 0 where
  pub frame : t.frame ≡ s.frame
  pub owed : t.owed ≡ 0
  pub set : (j : ℕ) → 1 ≤ j → j ≤ k → has t.regs j ≡ true
  pub regs : (j : ℕ) → has s.regs j ≡ true → has t.regs j ≡ true

abbrev pub Taken : Base → List Register → Code → Goal → Terms → Type 0
Taken b homes i g ts =
    (n at : ℕ) (depths : ℕ → Option Depth) (d : Depth) (later : List Goal) (q : Places) → InBody n homes depths q → Hold q 1 (moved_all n ts)
    → Does b at (i ∷ []) q [] (marked d.branches (rename_goal (λ x. n + x) g) ∷ later) (between_goals n homes depths) [] later

abbrev pub Effective : Base → List Register → Bool → Levels → Code → ℕ → Type 0
Effective b homes framed l i k = (s t : State) → IsRest homes framed l s → Loaded s t k → (u : State) × (effect (unplaced b) i t ≡ Some u) × Covers u s

-- a slot that has a depth is no variable's
pub no_home : (homes : List Register) (l : Levels) → AreFree homes l → (depths : ℕ → Option Depth) (d : Depth) → HasDepths l depths d → (k : ℕ) (e : Depth) → depths k ≡ Some e → IsNoHome homes k
no_home homes l fits depths d h k e g =
    let o = h.others k e g in
    let a = o.1 in
    let w = fits.within in
    fits.clear k o.0 (omega (arith, a, w))

abbrev pub nothing_held : ℕ → Option Depth
nothing_held k = None

pub one_goal : (b : Base) (homes : List Register) (apart : AreApart homes) (l : Levels) → AreFree homes l
    → (framed : Bool) (made : List Bool) (free at : ℕ) (ts : Terms) (i : Code) (g : Goal) → AllMade homes made → length made ≡ length homes
    → Fine b homes free ts → IsTrue (is_simple i) → IsThereIn b i
    → Taken b homes i g ts → Effective b homes framed l i (term_count ts) → IsGoalsCode b homes framed l at (code_of homes made (puts b.pool 1 free ts) ++ (i ∷ [])) (g ∷ [])
one_goal b homes apart l fits framed made free at ts i g all long f simple there takes effects =
    record {
      does = λ s r n depths d hd p later h.
          let w = put n depths p s r h in
          let q : Places = w.went.q in
          let mid : InBody n homes depths q = body_at n homes depths apart (marked_by_all made (puts b.pool 1 free ts)) p q w.went.t
          (λ x m. w.went.keeps.more x m (all x m)) w.went.there h.levels (no_home homes l fits depths d hd) w.went.keeps.depths in
          let js : List Code = code_of homes made (puts b.pool 1 free ts) in
          let goals : List Goal = marked d.branches (rename_goal (λ x. n + x) g) ∷ later in
          record {
            q = between_goals n homes depths;
            there = between_in n homes depths apart;
            same = λ e. refl;
            does = does_both b at js (i ∷ []) p q (between_goals n homes depths) [] [] [] goals goals later (w.went.does goals) (takes n (past at js) depths d later q mid w.hold);
          };
      flows = λ s r.
          let w = put 0 nothing_held (between_goals 0 homes nothing_held) s r (between_in 0 homes nothing_held apart) in
          let t : State = w.went.t in
          let e = effects s t r (loaded s (between_goals 0 homes nothing_held) r w) in
          flows_runs_less b at (code_of homes made (puts b.pool 1 free ts)) i s t e.0 s w.went.runs e.1 e.2 simple there;
      enters = enters_both (code_of homes made (puts b.pool 1 free ts)) (i ∷ []) (steps_enter homes made (puts b.pool 1 free ts)) (single_enters i (simple_enters i simple));
    }
  where
    put : (n : ℕ) (depths : ℕ → Option Depth) (p : Places) (s : State) → IsRest homes framed l s → InBody n homes depths p → PutAllBy b n homes apart 1 made at p s [] (puts b.pool 1 free ts) ts
    put n depths p s r h = puts_put b n homes apart made at 1 free ts p s [] (at_body n homes depths apart framed l made p s all long h r) r.owed f.suit
        (let m = f.below in omega (arith, m)) all f.lands f.clear

    loaded : (s : State) (p : Places) → IsRest homes framed l s → (w : PutAllBy b 0 homes apart 1 made at p s [] (puts b.pool 1 free ts) ts) → Loaded s w.went.t (term_count ts)
    loaded s p r w = record { frame = w.went.keeps.frame all; owed = w.went.owed; set = λ j m k. w.set j m (omega (arith, k)); regs = w.went.keeps.regs }

-- ---- goals, one behind the other

pub renamed_both : (m : ℕ) (f : ℕ → ℕ) (gs hs : List Goal) (later : List Goal)
    → marked_all m (map (rename_goal f) (gs ++ hs)) ++ later ≡ marked_all m (map (rename_goal f) gs) ++ (marked_all m (map (rename_goal f) hs) ++ later)
renamed_both m f [] hs later = refl
renamed_both m f (g ∷ gs) hs later = ap (λ l. marked m (rename_goal f g) ∷ l) (renamed_both m f gs hs later)

pub goals_nothing : (b : Base) (homes : List Register) (framed : Bool) (l : Levels) (at : ℕ) → IsGoalsCode b homes framed l at [] []
goals_nothing b homes framed l at = record {
  does = λ s r n depths d hd p later h. record { q = p; there = h; same = λ e. e; does = does_nothing b at p [] later };
  flows = λ s r. flows_nothing b at s;
  enters = λ i e. absurd (cc);
}

pub goals_both : (b : Base) (homes : List Register) (framed : Bool) (l : Levels) (at : ℕ) (is js : List Code) (gs hs : List Goal)
    → IsGoalsCode b homes framed l at is gs → IsGoalsCode b homes framed l (past at is) js hs → IsGoalsCode b homes framed l at (is ++ js) (gs ++ hs)
goals_both b homes framed l at is js gs hs f g = record {
  does = λ s r n depths d hd p later h.
      let rest : List Goal = marked_all d.branches (map (rename_goal (λ x. n + x)) hs) ++ later in
      let a = f.does s r n depths d hd p rest h in
      let c = g.does s r n depths d hd a.q later a.there in
      record {
        q = c.q;
        there = c.there;
        same = λ e. c.same (a.same e);
        does = subst (λ x. Does b at (is ++ js) p [] x c.q [] later) (sym (renamed_both d.branches (λ x. n + x) gs hs later))
            (does_both b at is js p a.q c.q [] [] [] (marked_all d.branches (map (rename_goal (λ x. n + x)) gs) ++ rest) rest later a.does c.does);
      };
  flows = λ s r. flows_both b at is js s s s (f.flows s r) (g.flows s r);
  enters = enters_both is js f.enters g.enters;
}

pub listed_renamed : (f : ℕ → ℕ) (gs : Goals) → listed (rename_goals f gs) ≡ map (rename_goal f) (listed gs)
listed_renamed f goal.no_goals = refl
listed_renamed f (goal.goal g gs) = ap (λ l. rename_goal f g ∷ l) (listed_renamed f gs)

-- the goals of a way, as they stand in the goal
pub listed_marked : (m : ℕ) (f : ℕ → ℕ) (gs : Goals) → listed (marked_goals m (rename_goals f gs)) ≡ marked_all m (map (rename_goal f) (listed gs))
listed_marked m f goal.no_goals = refl
listed_marked m f (goal.goal g gs) = ap (λ l. marked m (rename_goal f g) ∷ l) (listed_marked m f gs)

-- The code of goals leads from the places between goals to the same.
pub does_between : (b : Base) (homes : List Register) (apart : AreApart homes) (framed : Bool) (l : Levels) (at : ℕ) (is : List Code) (gs : List Goal)
    → IsGoalsCode b homes framed l at is gs → (s : State) → IsRest homes framed l s → (n : ℕ) (depths : ℕ → Option Depth) (d : Depth) → HasDepths l depths d
    → (later : List Goal)
    → Does b at is (between_goals n homes depths) [] (marked_all d.branches (map (rename_goal (λ x. n + x)) gs) ++ later) (between_goals n homes depths) [] later
does_between b homes apart framed l at is gs f s r n depths d hd later =
    let q : Places = between_goals n homes depths in
    let a = f.does s r n depths d hd q later (between_in n homes depths apart) in
    subst (λ w. Does b at is q [] (marked_all d.branches (map (rename_goal (λ x. n + x)) gs) ++ later) w [] later) (a.same refl) a.does

-- Both ways of A ; B.
pub goals_either : (b : Base) (homes : List Register) (apart : AreApart homes) (framed : Bool) (l : Levels) (at : ℕ) (is js : List Code) (x y : Goals)
    → IsGoalsCode b homes framed l (suc at) is (listed x) → IsGoalsCode b homes framed l (other_side at is js) js (listed y)
    → IsGoalsCode b homes framed l at (sides at is js) (goal.Either x y ∷ [])
goals_either b homes apart framed l at is js x y f g = record {
  does = λ s r n depths d hd p later h.
      let q : Places = between_goals n homes depths in
      let in' : InBody n homes depths q = between_in n homes depths apart in
      let m : ℕ = d.branches in
      let u : Goals = marked_goals m (rename_goals (λ x. n + x) x) in
      let v : Goals = marked_goals m (rename_goals (λ x. n + x) y) in
      let one : Does b (suc at) is q [] (listed u ++ later) q [] later =
      subst (λ w. Does b (suc at) is q [] (w ++ later) q [] later) (sym (listed_marked m (λ x. n + x) x)) (does_between b homes apart framed l (suc at) is (listed x) f s r n depths d hd later) in
      let two : Does b (other_side at is js) js q [] (listed v ++ later) q [] later =
      subst (λ w. Does b (other_side at is js) js q [] (w ++ later) q [] later) (sym (listed_marked m (λ x. n + x) y))
      (does_between b homes apart framed l (other_side at is js) js (listed y) g s r n depths d hd later) in
      record {
        q = q;
        there = in';
        same = λ e. refl;
        does = does_either b at is js u v p q q later (between_settled n homes depths apart p h) one two;
      };
  flows = λ s r. flows_sides b at is js s r.owed (f.flows s r) (g.flows s r);
  enters = λ i e. subst (λ x. IsTrue (may_enter x)) (first (other_side at is js) (is ++ (Jump (past (suc (past (suc at) is)) js) ∷ js)) i e) refl;
}
  where
    first : (o : ℕ) (ks : List Code) (i : Code) → slice_get (Either o ∷ ks) 0 ≡ Some i → Either o ≡ i
    first o ks i e = cc
