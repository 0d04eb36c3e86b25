-- A clause of a program from its parts: what is known of its terms and goals, one goal after the other, and all of its code.
use Rattle.std.proofs.Common.{◌≡◌, ℕ, zero, suc, ◌+◌, ◌-◌, ◌<◌, ◌≤◌, true, List, [], ◌∷◌, ◌++◌, map, length, get_or, refl, ap, sym, ◌∙◌, subst, arith}
use Rattle.std.proofs.Common.{append_assoc, append-nil}
use Rattle.std.proofs.lemmas.Bool.{true≢false}
use Rattle.std.proofs.lemmas.List.{get_or-map, length-map}
use Rattle.fd_language.specs.Term.{Terms, Atom, term_count}
use Rattle.fd_language.specs.Variables.{TermBelow}
use Rattle.fd_model.specs.Goal as model
use Rattle.fd_model.specs.ConstraintExpansion.{arguments}
use Rattle.fd_model.specs.RunnablePrograms.{GoalBelow, EachBelow, ClausesScoped}
use Rattle.term_pool.specs.Terms.{term_of}
use Rattle.clause_check.specs.Programs.{FlatProgram, clause_at, clause_in, goal_at, goal_in, goals_between, no_clause, program_in, IsProgram}
use Rattle.clause_check.proofs.Lemmas.{between_first, between_none, between_split}
use Rattle.wam_code.specs.declared.instruction.Register.{Register}
use Rattle.wam_code.specs.declared.instruction.Register.TheVariants.{Y}
use Rattle.wam_code.specs.declared.instruction.Code.{Code}
use Rattle.clause_code.specs.Pieces.{Base, Predicate, past}
use Rattle.clause_code.specs.CodablePrograms.{IsNarrow, IsCodableGoal, EachCodable, ClausesCodable, IsCodable}
use Rattle.clause_code.specs.Predicates.{base_in}
use Rattle.clause_code.specs.SafeCode.{IsClauseCode}
use Rattle.clause_code.specs.Sides.{Written}
use Rattle.clause_code.specs.Steps.{home, Suits, AllSuit}
use Rattle.clause_code.specs.Bodies.{Levels, AreFree, IsGoalsCode}
use Rattle.clause_code.specs.LevelSlots.{FitsGoal, EachFits}
use Rattle.clause_code.specs.ClauseParts.{front, head_code, levels_code, levels_behind, IsHoused, InOrder}
use Rattle.clause_code.proofs.Bodies.{goals_nothing, goals_both}
use Rattle.clause_code.proofs.GoalKinds.{OnlySlots}
use Rattle.clause_code.proofs.Clauses.{Tail, start_framed, whole_clause}
use Rattle.clause_code.proofs.CodableTerms.{term_suits}
use Rattle.clause_code.proofs.SimpleGoals.{arguments_suit}
use Rattle.clause_code.proofs.PreservedRegisters.{slots_wait}

-- ---- what is known of a clause

scoped_at : (cs : List model.Clause) → ClausesScoped cs → (i : ℕ) (d : model.Clause) → i < length cs → TermBelow (get_or cs i d).variables (get_or cs i d).head
    × EachBelow (get_or cs i d).variables (get_or cs i d).body
scoped_at [] s i d l = absurd (omega (arith, l))
scoped_at (c ∷ cs) s zero d l = s.0
scoped_at (c ∷ cs) s (suc i) d l = scoped_at cs s.1 i d (omega (arith, l))

codable_at : (cs : List model.Clause) → ClausesCodable cs → (i : ℕ) (d : model.Clause) → i < length cs → IsNarrow (get_or cs i d).head × EachCodable (get_or cs i d).body
codable_at [] s i d l = absurd (omega (arith, l))
codable_at (c ∷ cs) s zero d l = s.0
codable_at (c ∷ cs) s (suc i) d l = codable_at cs s.1 i d (omega (arith, l))

-- Code can be written for its head, and its goals are scoped and codable.
pub record Known (p : FlatProgram) (c : ℕ) : Type 0 where
  pub suits : Suits p.pool (clause_at p c).variables (term_of p.pool (clause_at p c).head)
  pub head : AllSuit p.pool (clause_at p c).variables (arguments (term_of p.pool (clause_at p c).head))
  pub below : EachBelow (clause_at p c).variables (clause_in p (clause_at p c)).body
  pub codable : EachCodable (clause_in p (clause_at p c)).body

pub clause_known : (p : FlatProgram) → IsProgram p → IsCodable (program_in p) → (c : ℕ) → c < length p.clauses → (clause_at p c).head.number < length p.pool.entries → Known p c
clause_known p known codable c low own =
    let none : model.Clause = record { variables = 0; head = Atom []; body = [] } in
    let long = length-map p.clauses (clause_in p) in
    let there : get_or (map (clause_in p) p.clauses) c none ≡ clause_in p (clause_at p c) = get_or-map (clause_in p) p.clauses c no_clause none low in
    let s = subst (λ (k : model.Clause). TermBelow k.variables k.head × EachBelow k.variables k.body) there (scoped_at (program_in p).clauses known.scoped.clauses c none (omega (arith, long, low))) in
    let d = subst (λ (k : model.Clause). IsNarrow k.head × EachCodable k.body) there (codable_at (program_in p).clauses codable.clauses c none (omega (arith, long, low))) in
    let suits = term_suits p.pool known.pool (clause_at p c).variables (clause_at p c).head own s.0 d.0 in
    record {
      suits = suits;
      head = arguments_suit p.pool (clause_at p c).variables (term_of p.pool (clause_at p c).head) suits;
      below = s.1;
      codable = d.1;
    }

-- ---- one goal after the other

pub last_goal : (p : FlatProgram) → IsProgram p → (from to : ℕ) → from < to → to ≤ length p.goals → goals_between p from to ≡ goals_between p from (to - 1) ++ (goal_in p (goal_at p (to - 1)) ∷ [])
last_goal p known from to l m =
    let k : ℕ = to - 1 in
    let up : suc k ≡ to = omega (arith, l) in
    between_split p from k to (omega (arith, l)) (omega arith)
    ∙ ap (λ gs. goals_between p from k ++ gs) (between_first p known k to (omega (arith, l)) m)
    ∙ ap (λ gs. goals_between p from k ++ (goal_in p (goal_at p k) ∷ gs)) (between_none p (suc k) to (omega (arith, up)))

pub written_first : (p : FlatProgram) (b : Base) (homes : List Register) (l : Levels) (at : ℕ) (old : List Code) (from to : ℕ)
    → EachBelow (length homes) (goals_between p from to) → EachCodable (goals_between p from to) → EachFits l (goals_between p from to) → AreFree homes l
    → Written p b homes l at old old from from to
written_first p b homes l at old from to s c f r = record {
  js = [];
  done = [];
  code = sym (append-nil old);
  goals = goals_nothing b homes true l at;
  whole = refl;
  below = s;
  codable = c;
  fits = f;
  free = r;
}

-- the first of the goals that are left
pub next_known : (p : FlatProgram) → IsProgram p → (b : Base) (homes : List Register) (l : Levels) (at : ℕ) (old now : List Code) (from i to : ℕ) → i < to
    → to ≤ length p.goals → Written p b homes l at old now from i to → GoalBelow (length homes) (goal_in p (goal_at p i))
    × IsCodableGoal (goal_in p (goal_at p i)) × FitsGoal l (goal_in p (goal_at p i))
next_known p known b homes l at old now from i to low m w =
    let e = between_first p known i to low m in
    ((subst (EachBelow (length homes)) e w.below).0, (subst EachCodable e w.codable).0, (subst (EachFits l) e w.fits).0)

pub written_next : (p : FlatProgram) → IsProgram p → (b : Base) (homes : List Register) (l : Levels) (at : ℕ) (old now new is : List Code) (from i to : ℕ)
    → i < to → to ≤ length p.goals → (w : Written p b homes l at old now from i to) → new ≡ now ++ is
    → IsGoalsCode b homes true l (past at w.js) is (goal_in p (goal_at p i) ∷ []) → Written p b homes l at old new from (suc i) to
written_next p known b homes l at old now new is from i to low m w e g =
    let first = between_first p known i to low m in
    record {
      js = w.js ++ is;
      done = w.done ++ (goal_in p (goal_at p i) ∷ []);
      code = e ∙ ap (λ x. x ++ is) w.code ∙ append_assoc old w.js is;
      goals = goals_both b homes true l at w.js is w.done (goal_in p (goal_at p i) ∷ []) w.goals g;
      whole = w.whole ∙ ap (λ gs. w.done ++ gs) first ∙ sym (append_assoc w.done (goal_in p (goal_at p i) ∷ []) (goals_between p (suc i) to));
      below = (subst (EachBelow (length homes)) first w.below).1;
      codable = (subst EachCodable first w.codable).1;
      fits = (subst (EachFits l) first w.fits).1;
      free = w.free;
    }

-- ---- the homes

pub in_order_only : (homes : List Register) (v : ℕ) → InOrder homes v → OnlySlots homes
in_order_only homes v o x l i e = let n = o.long in let s = o.slots x (omega (arith, l, n)) in absurd (cc)

-- the level slots are behind them
pub in_order_free : (homes : List Register) (v count : ℕ) → InOrder homes v → AreFree homes (levels_behind v count)
in_order_free homes v count o = record { clear = λ k a z x l e. by count k a x l e; within = inside count }
  where
    by : (n k : ℕ) → (levels_behind v n).first ≤ k → (x : ℕ) → x < length homes → home homes x ≡ Y k → ⊥
    by zero k a x l e = let n = o.long in let s = o.slots x (omega (arith, l, n)) in let same : Y (suc x) ≡ Y k = sym s ∙ e in let is : suc x ≡ k = cc in omega (arith, is, a, l, n)
    by (suc m) k a x l e = let n = o.long in let s = o.slots x (omega (arith, l, n)) in let same : Y (suc x) ≡ Y k = sym s ∙ e in let is : suc x ≡ k = cc in omega (arith, is, a, l, n)

    inside : (n : ℕ) → (levels_behind v n).next ≤ (levels_behind v n).end
    inside zero = omega arith
    inside (suc n) = omega arith

pub in_order_housed : (homes : List Register) (v size k : ℕ) → v ≤ size → InOrder homes v → IsHoused homes true size k (suc k)
in_order_housed homes v size k room o =
    let n = o.long in
    record {
      apart = λ x y l m e. let a = o.slots x (omega (arith, l, n)) in let b = o.slots y (omega (arith, m, n)) in
          let c : Y (suc x) ≡ Y (suc y) = sym a ∙ e ∙ b in let d : suc x ≡ suc y = cc in omega (arith, d);
      in_frame = λ e x l. (x, o.slots x (omega (arith, l, n)), omega (arith, l, n, room));
      in_registers = λ e. absurd (true≢false e);
      clear = λ i h x l e. in_order_only homes v o x l i e;
      above = omega arith;
    }

-- ---- all of the code

-- A frame, the head, the goals but the last one, and the end.
pub assembled : (p : FlatProgram) (ps : List Predicate) (homes : List Register) (count at c : ℕ) (js ks : List Code) (i : Code) (gs hs : List model.Goal)
    → InOrder homes (clause_at p c).variables → Known p c → (clause_in p (clause_at p c)).body ≡ gs ++ hs
    → let ts = arguments (term_of p.pool (clause_at p c).head) in
    let v = (clause_at p c).variables in
    let l = levels_behind v count in
    let is = front true (v + count) ++ (head_code p.pool homes (suc (term_count ts)) ts ++ levels_code l) in
    IsGoalsCode (base_in p ps) homes true l (past at is) js gs → Tail (base_in p ps) homes true l (past at (is ++ js)) ks i hs
    → IsClauseCode (base_in p ps) at ((is ++ js) ++ (ks ++ (i ∷ []))) (clause_in p (clause_at p c))
assembled p ps homes count at c js ks i gs hs order known body goals tail =
    let ts : Terms = arguments (term_of p.pool (clause_at p c).head) in
    let v : ℕ = (clause_at p c).variables in
    let suit : AllSuit p.pool (length homes) ts = subst (λ n. AllSuit p.pool n ts) (sym order.long) known.head in
    let l : Levels = levels_behind v count in
    let is : List Code = front true (v + count) ++ (head_code p.pool homes (suc (term_count ts)) ts ++ levels_code l) in
    whole_clause (base_in p ps) homes true l at (clause_in p (clause_at p c)) is js ks i gs hs (sym order.long) body
    (start_framed (base_in p ps) homes (v + count) (term_count ts) (suc (term_count ts)) at ts
    (in_order_housed homes v (v + count) (term_count ts) (omega arith) order) suit (omega arith)
    (slots_wait homes (in_order_only homes v order) 1 (term_count ts) ts) v count (in_order_free homes v count order) (omega arith)) goals tail
