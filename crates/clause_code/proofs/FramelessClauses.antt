-- The code of a clause that needs no frame, once all its parts are written.
use Rattle.std.proofs.Common.{◌≡◌, ℕ, suc, ◌+◌, ◌-◌, ◌<◌, ◌≤◌, false, List, [], ◌∷◌, ◌++◌, Option, Some, None, IfSome, length, ap, sym, ◌∙◌, subst, arith}
use Rattle.std.proofs.Common.{append_assoc, append-nil}
use Rattle.std.proofs.lemmas.Bool.{true≢false}
use Rattle.std.proofs.lemmas.Option.{slice_get_within}
use Rattle.fd_language.specs.Term.{Term, Terms, Var, Int, Atom, Comp, term_count}
use Rattle.fd_model.specs.Goal as model
use Rattle.fd_model.specs.ConstraintExpansion.{arguments}
use Rattle.term_pool.specs.declared.TermId.{TermId}
use Rattle.term_pool.specs.Contents.{Contents, atom_name}
use Rattle.term_pool.specs.Terms.{term_of}
use Rattle.clause_check.specs.declared.program.Part.{Part}
use Rattle.clause_check.specs.Programs.{FlatProgram, clause_at, clause_in, goal_at, goal_in, goals_in, goals_between, no_clause, IsProgram}
use Rattle.clause_check.proofs.Lemmas.{between_first, between_none}
use Rattle.wam_code.specs.declared.instruction.Register.{Register}
use Rattle.wam_code.specs.declared.instruction.Register.TheVariants.{X}
use Rattle.wam_code.specs.declared.instruction.Code.{Code}
use Rattle.wam_code.specs.declared.instruction.Code.TheVariants.{Execute, Proceed}
use Rattle.wam_code.specs.Places.{made}
use Rattle.clause_code.specs.Pieces.{Base, Predicate, past}
use Rattle.clause_code.specs.Predicates.{ArePredicates, Appends, IsCallOfOne, base_in}
use Rattle.clause_code.specs.SafeCode.{IsClauseCode}
use Rattle.clause_code.specs.FramelessClauses.{IsShortBody, last_arguments, ShortCall, IsShort}
use Rattle.clause_code.specs.SimpleGoals.{IsOwn}
use Rattle.clause_code.specs.Steps.{code_of, puts, AllSuit, Suits}
use Rattle.clause_code.specs.ArgumentHomes.{AllWait, AllLand, AreHomes}
use Rattle.clause_code.specs.ClauseParts.{head_code, IsHoused, no_levels}
use Rattle.clause_code.specs.Bodies.{AreFree}
use Rattle.clause_code.proofs.ClauseAssembly.{Known}
use Rattle.clause_code.proofs.Bodies.{Fine, goals_nothing}
use Rattle.clause_code.proofs.Clauses.{Start, Tail, start_short, tail_proceed, tail_execute, whole_clause}
use Rattle.clause_code.proofs.FramedClauses.{known_of, before_last}
use Rattle.clause_code.proofs.ProgramFunctors.{call_of_one}
use Rattle.clause_code.proofs.SimpleGoals.{arguments_suit}

-- Argument registers are homes.
pub short_housed : (homes : List Register) (k free : ℕ) (ts us : Terms) → AreHomes homes free ts us → k < free → IsHoused homes false 0 k free
short_housed homes k free ts us h l = record {
  apart = h.apart;
  in_frame = λ e. absurd (true≢false (sym e));
  in_registers = λ e x m. let w = h.registers x m in (w.0, w.1);
  clear = λ i m x n e. let w = h.registers x n in let same : X w.0 ≡ X i = sym w.1 ∙ e in let z : w.0 ≡ i = cc in let o = w.2 in omega (arith, z, o, m);
  above = l;
}

-- the clause's head and goals are the pool's
module _ (p : FlatProgram) (valid : IsProgram p) (c : ℕ) (low : c < length p.clauses) where
  abbrev v : ℕ
  v = (clause_at p c).variables

  abbrev goals : Part
  goals = (clause_at p c).body

  pub body_within : goals.to ≤ length p.goals
  body_within = let k = valid.clauses c no_clause low in let w = k.body in w.within

  pub goal_own : (u : TermId) → IsShortBody p goals (Some u) → IsOwn p.pool v u
  goal_own u s =
      let e = s.0 in
      let back : goals.to - 1 ≡ goals.from = omega (arith, e) in
      let known = known_of p valid c low in
      (before_last p valid v goals.from goals.to u (omega (arith, e)) body_within (ap (goal_at p) back ∙ s.1) known.below known.codable).own

  pub goals_own : (goal : Option TermId) → IsShortBody p goals goal → IfSome goal (IsOwn p.pool v)
  goals_own None s = tt
  goals_own (Some u) s = goal_own u s

  pub goals_called : (ps : List Predicate) → ArePredicates p ps → (goal : Option TermId) → IsShortBody p goals goal
      → IfSome goal (λ (t : TermId). IsCallOfOne p.pool ps (term_of p.pool t))
  goals_called ps all None s = tt
  goals_called ps all (Some u) s = let e = s.0 in let w = body_within in call_of_one p ps all goals.from u (omega (arith, e, w)) s.1

  pub head_own : IsOwn p.pool v (clause_at p c).head
  head_own = let k = valid.clauses c no_clause low in let w = known_of p valid c low in (k.head, w.suits)

module _ (p : FlatProgram) (valid : IsProgram p) (ps : List Predicate) (homes : List Register) (c : ℕ) (low : c < length p.clauses) (long : length homes ≡ (clause_at p c).variables) where
  abbrev b : Base
  b = base_in p ps

  abbrev body : Part
  body = (clause_at p c).body

  abbrev ts : Terms
  ts = arguments (term_of p.pool (clause_at p c).head)

  abbrev known : Known p c
  known = known_of p valid c low

  module _ (k free : ℕ) (housed : IsHoused homes false 0 k free) (few : term_count ts ≤ k) (waits : AllWait homes 1 (term_count ts) ts) (old new : List Code) where
    abbrev at : ℕ
    at = length old

    abbrev is : List Code
    is = head_code p.pool homes free ts

    none_free : AreFree homes no_levels
    none_free = record { clear = λ j a z x m e. omega (arith, z); within = omega arith }

    begins : Start b homes false no_levels at is ts
    begins = start_short b homes 0 k free at ts housed (subst (λ v. AllSuit p.pool v ts) (sym long) known.head) few waits

    abbrev Written : Type 0
    Written = Appends old new (λ js. IsClauseCode b at js (clause_in p (clause_at p c)))

    fact_written : body.from ≡ body.to → new ≡ (old ++ is) ++ (Proceed ∷ []) → Written
    fact_written none e =
        let empty : goals_in p body ≡ [] = between_none p body.from body.to (omega (arith, none)) in (
          is ++ (Proceed ∷ []),
          e ∙ append_assoc old is (Proceed ∷ []),
          subst (λ l. IsClauseCode b at (l ++ (Proceed ∷ [])) (clause_in p (clause_at p c))) (append-nil is)
              (whole_clause b homes false no_levels at (clause_in p (clause_at p c)) is [] [] Proceed [] [] (sym long) empty begins
              (goals_nothing b homes false no_levels (past at is)) (tail_proceed b homes false no_levels (past at (is ++ [])))),
        )

    call_written : (u : TermId) → IsShortBody p body (Some u) → term_count (arguments (term_of p.pool u)) ≤ k → AllLand homes 1 (arguments (term_of p.pool u))
        → ShortCall p.pool ps homes free (clause_at p c).head u old new → Written
    call_written u s fewer lands w =
        let us : Terms = arguments (term_of p.pool u) in
        let g = w.goes in
        let e : ℕ = g.number in
        let f : Predicate = g.of.0 in
        let own : IsOwn p.pool (length homes) u = subst (λ n. IsOwn p.pool n u) (sym long) (goal_own p valid c low u s) in
        let above = housed.above in
        let fine : Fine b homes free us = record {
          suit = arguments_suit p.pool (length homes) (term_of p.pool u) own.1;
          below = omega (arith, above, fewer);
          lands = lands;
          clear = housed.clear;
        } in
        let ks : List Code = code_of homes w.made (puts p.pool 1 free us) in
        let call : model.Goal = model.Call (made (atom_name p.pool f.name) us) in
        let tail : Tail b homes false no_levels (past at (is ++ [])) (ks ++ []) (Execute e) (call ∷ []) =
        tail_execute b homes housed.apart no_levels none_free false w.made free (past at (is ++ [])) (λ y n. w.all y) w.long e f us g.of.1 g.of.2.arity (slice_get_within ps e f g.of.1) fine in
        let size = s.0 in
        let same : goal_in p (goal_at p body.from) ≡ call = ap (goal_in p) s.1 ∙ ap (λ v. model.Call v) g.of.2.name in
        let one : goals_in p body ≡ call ∷ [] =
        between_first p valid body.from body.to (omega (arith, size)) (body_within p valid c low)
        ∙ ap (λ h. h ∷ goals_between p (suc body.from) body.to) same
        ∙ ap (λ hs. call ∷ hs) (between_none p (suc body.from) body.to (omega (arith, size))) in
        let all : IsClauseCode b at ((is ++ []) ++ ((ks ++ []) ++ (Execute e ∷ []))) (clause_in p (clause_at p c)) =
        whole_clause b homes false no_levels at (clause_in p (clause_at p c)) is [] (ks ++ []) (Execute e) [] (call ∷ []) (sym long) one begins
        (goals_nothing b homes false no_levels (past at is)) tail in (
          is ++ (ks ++ (Execute e ∷ [])),
          g.code ∙ append_assoc old is (ks ++ (Execute e ∷ [])),
          subst (λ l. IsClauseCode b at (is ++ (l ++ (Execute e ∷ []))) (clause_in p (clause_at p c))) (append-nil ks)
              (subst (λ l. IsClauseCode b at (l ++ ((ks ++ []) ++ (Execute e ∷ []))) (clause_in p (clause_at p c))) (append-nil is) all),
        )

    pub short_written : (goal : Option TermId) → IsShortBody p body goal → IfSome goal (λ u. term_count (arguments (term_of p.pool u)) ≤ k)
        → AllLand homes 1 (last_arguments p.pool goal) → IsShort p.pool ps homes free (clause_at p c).head goal old new → Written
    short_written None s fewer lands w = fact_written s w
    short_written (Some u) s fewer lands w = call_written u s fewer lands w

-- ---- the arguments of the head and of the goal

-- a head or a goal has not too many arguments
pub few_arguments : (c : Contents) (v : ℕ) (t : Term) → Suits c v t → term_count (arguments t) ≤ 255
few_arguments c v (Var x) s = omega arith
few_arguments c v (Int z) s = omega arith
few_arguments c v (Atom a) s = omega arith
few_arguments c v (Comp f ts) s = s.2

pub goal_suits : (c : Contents) (v : ℕ) (goal : Option TermId) → IfSome goal (IsOwn c v) → AllSuit c v (last_arguments c goal)
goal_suits c v None o = tt
goal_suits c v (Some u) o = arguments_suit c v (term_of c u) o.1

pub goal_fewer : (c : Contents) (k : ℕ) (goal : Option TermId) → term_count (last_arguments c goal) ≤ k → IfSome goal (λ u. term_count (arguments (term_of c u)) ≤ k)
goal_fewer c k None l = tt
goal_fewer c k (Some u) l = l

-- ---- as it is read

module _ (p : FlatProgram) (valid : IsProgram p) (c : ℕ) (low : c < length p.clauses) (q : Contents) (same : q ≡ p.pool) (n : ℕ) (size : n ≡ (clause_at p c).variables) where
  pub head_here : (h : TermId) → h ≡ (clause_at p c).head → IsOwn q n h
  head_here h e =
      subst (λ (d : Contents). IsOwn d n h) (sym same) (subst (λ m. IsOwn p.pool m h) (sym size) (subst (λ (t : TermId). IsOwn p.pool (clause_at p c).variables t) (sym e) (head_own p valid c low)))

  pub goals_here : (goal : Option TermId) → IsShortBody p (clause_at p c).body goal → IfSome goal (IsOwn q n)
  goals_here goal s = subst (λ (d : Contents). IfSome goal (IsOwn d n)) (sym same) (subst (λ m. IfSome goal (IsOwn p.pool m)) (sym size) (goals_own p valid c low goal s))
