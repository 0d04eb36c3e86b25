-- A goal is called: the branches of the clauses that its predicate's code tries are those that are still to come.
use Rattle.std.proofs.Common.{◌≡◌, ℕ, suc, ◌+◌, ◌<◌, ◌≤◌, Bool, true, false, cond, List, [], ◌∷◌, ◌++◌, map, length, Option, Some, None, refl, ap, sym, ◌∙◌}
use Rattle.std.proofs.Common.{subst, inl, inr, arith}
use Rattle.std.proofs.lemmas.Bool.{true≢false}
use Rattle.std.proofs.lemmas.Option.{same_Some}
use Rattle.fd_language.specs.Term.{Term, Terms, no_terms, term, Substitution, term_count}
use Rattle.fd_language.specs.Range.{Indexical}
use Rattle.fd_model.specs.Children.{by_clause, by_clauses, fits_head, Kept}
use Rattle.fd_model.specs.ConstraintExpansion.{arguments}
use Rattle.fd_model.specs.Goal.{Goal, Call, Clause, Branch, Program, Query, Event}
use Rattle.fd_model.specs.BranchViews.{IsConsistent}
use Rattle.fd_model.specs.RunnablePrograms.{ClausesScoped, IsRunnableProgram}
use Rattle.heap_cells.specs.declared.Cell.{Cell}
use Rattle.heap_cells.specs.Cells.{Cells}
use Rattle.heap_cells.specs.Terms.{Naming}
use Rattle.branch_meaning.specs.RemainingEvents.{at_top, IsFit, AreFit, Spends}
use Rattle.branch_meaning.specs.Models.{HasModel}
use Rattle.branch_meaning.proofs.Lemmas.{gone_by, wait_length}
use Rattle.branch_lemmas.specs.FittingClauses.{AllFit}
use Rattle.branch_lemmas.proofs.Lemmas.{kept_consistent}
use Rattle.wam_code.specs.declared.instruction.Code.TheVariants as code
use Rattle.wam_code.specs.declared.parts.Entry.{Entry}
use Rattle.wam_code.specs.Area.{Area, Holds, HasEntry, name_of}
use Rattle.wam_code.specs.Places.{Depth, made}
use Rattle.wam_code.specs.Tries.{Shape, ClashFirst, IsNeedless, Thinned, StandsForProgram}
use Rattle.code_meaning.specs.Registers.{Registers, Saved, AreSame, AreSameTo, AreHeld}
use Rattle.code_meaning.specs.Depths.{depth_of}
use Rattle.code_meaning.specs.StateMeaning.{IsCalling}
use Rattle.code_meaning.specs.ClauseChoices.{shape_in}
use Rattle.code_meaning.specs.MachineStates.{Choice, Waits, Runs}
use Rattle.code_meaning.proofs.ClashingClauses.{clash_gone}
use Rattle.code_meaning.proofs.Levels.{leveled_no_slots}
use Rattle.code_meaning.proofs.GoalStates.{goal_gives}
use Rattle.code_meaning.proofs.MachineStates.{goes_inside}
use Rattle.code_meaning.proofs.InstructionSteps.{step_call, step_execute}

-- Clauses that needn't be tried are left out of what is ahead.
module _ (M N m : ℕ) (s : Shape) (t : Term) (b : Branch) (rest : List Goal) (others : List Branch)
    (gone : (c : Clause) → fits_head t c.head ≡ true → ClashFirst s (arguments c.head) → IsFit M (by_clause m b t rest c)
    → IsConsistent M N (by_clause m b t rest c).equations (by_clause m b t rest c).posted → ⊥) where
  abbrev All : List Clause → List Branch
  All cs = by_clauses m cs b t rest ++ others

  abbrev Some' : List Clause → List Branch
  Some' cs = map (by_clause m b t rest) cs ++ others

  abbrev Both : List Branch → List Branch → Type 0
  Both xs bs = AreFit M xs × Kept M N xs bs

  first_of : Clause → List Clause → Bool → List Branch
  first_of c cs v = cond v (by_clause m b t rest c ∷ by_clauses m cs b t rest) (by_clauses m cs b t rest) ++ others

  needless : (c : Clause) (cs : List Clause) (bs : List Branch) → IsNeedless s t c → (v : Bool) → fits_head t c.head ≡ v → Both (first_of c cs v) bs → Both (All cs) bs
  unfolding first_of
  needless c cs bs i false e g = g
  needless c cs bs (inl i) true e g = absurd (true≢false (sym e ∙ i))
  needless c cs bs (inr i) true e (fit, inl g) = absurd (gone c e i fit.0 g.0)
  needless c cs bs (inr i) true e (fit, inr g) = (fit.1, g.1)

  kept_in : (c : Clause) (cs ds : List Clause) (bs : List Branch) → ((xs : List Branch) → Both (All cs) xs → Both (Some' ds) xs) → (v : Bool)
      → fits_head t c.head ≡ v → v ≡ true → Both (first_of c cs v) bs → Both (Some' (c ∷ ds)) bs
  unfolding first_of
  kept_in c cs ds bs more false e i g = absurd (true≢false (sym i))
  kept_in c cs ds bs more true e i (fit, inl g) = let k = more g.1.0 (fit.1, g.1.2) in ((fit.0, k.0), inl (g.0, (g.1.0, g.1.1, k.1)))
  kept_in c cs ds bs more true e i (fit, inr g) = let k = more bs (fit.1, g.1) in ((fit.0, k.0), inr (g.0, k.1))

  pub thinned_ahead : (cs ds : List Clause) → Thinned s t cs ds → (bs : List Branch) → Both (All cs) bs → Both (Some' ds) bs
  unfolding first_of
  thinned_ahead [] ds e bs g = subst (λ l. Both (Some' l) bs) (sym e) g
  thinned_ahead (c ∷ cs) [] e bs g = thinned_ahead cs [] e.1 bs (needless c cs bs e.0 (fits_head t c.head) refl g)
  thinned_ahead (c ∷ cs) (d ∷ ds) (inl e) bs g = subst (λ x. Both (Some' (x ∷ ds)) bs) (sym e.0) (kept_in c cs ds bs (thinned_ahead cs ds e.2) (fits_head t c.head) refl e.1 g)
  thinned_ahead (c ∷ cs) (d ∷ ds) (inr e) bs g = thinned_ahead cs (d ∷ ds) e.1 bs (needless c cs bs e.0 (fits_head t c.head) refl g)

module _ (s : Shape) (t : Term) where
  thinned_fit : (cs ds : List Clause) → Thinned s t cs ds → AllFit t ds
  thinned_fit [] ds e = subst (AllFit t) (sym e) tt
  thinned_fit (c ∷ cs) [] e = tt
  thinned_fit (c ∷ cs) (d ∷ ds) (inl e) = (ap (λ (x : Clause). fits_head t x.head) e.0 ∙ e.1, thinned_fit cs ds e.2)
  thinned_fit (c ∷ cs) (d ∷ ds) (inr e) = thinned_fit cs (d ∷ ds) e.1

  thinned_scoped : (cs ds : List Clause) → Thinned s t cs ds → ClausesScoped cs → ClausesScoped ds
  thinned_scoped [] ds e k = subst ClausesScoped (sym e) tt
  thinned_scoped (c ∷ cs) [] e k = tt
  thinned_scoped (c ∷ cs) (d ∷ ds) (inl e) k = subst (λ x. ClausesScoped (x ∷ ds)) (sym e.0) (k.0, thinned_scoped cs ds e.2 k.1)
  thinned_scoped (c ∷ cs) (d ∷ ds) (inr e) k = thinned_scoped cs (d ∷ ds) e.1 k.1

-- the registers from i on hold the same terms where they have the same cells
held_moved : (name : Naming) (h : Cells) (look : Substitution) (P : ℕ → Type 0) (i : ℕ) (old new : ℕ → Option Cell) (ts : Terms)
    → ((n : ℕ) → i ≤ n → n < i + term_count ts → new n ≡ old n) → AreHeld name h look P i old ts → AreHeld name h look P i new ts
held_moved name h look P i old new no_terms same a = tt
held_moved name h look P i old new (term t ts) same a = (
  (a.0.0, same i (omega arith) (omega arith) ∙ a.0.1, a.0.2),
  held_moved name h look P (suc i) old new ts (λ n l u. same n (omega (arith, l)) (omega (arith, u))) a.1,
)

-- A call needs the registers of its arguments alone.
calling_moved : (M N : ℕ) (marks : List ℕ) (noted : Depth) (area : Area) (shown : List ℕ) (name : Naming) (h : Cells) (qs : List Indexical) (e : Entry)
    (c c' : Registers) (stack : List Saved) (b : Branch) → AreSameTo e.arity c.x c'.x → c'.noted ≡ c.noted
    → IsCalling M N marks noted area shown name h qs e c stack b → IsCalling M N marks noted area shown name h qs e c' stack b
calling_moved M N marks noted area shown name h qs e c c' stack b same number m = record {
  look = m.look;
  ts = m.ts;
  rest = m.rest;
  returns = m.returns;
  counted = m.counted;
  goals = m.goals;
  below = m.below;
  asked = m.asked;
  kept = m.kept;
  held = held_moved name h m.look (λ v. v < b.fresh) 1 c.x c'.x m.ts (λ n l u. same n l (let k = m.counted in omega (arith, u, k))) m.held;
  saved = m.saved;
  leveled = leveled_no_slots marks (λ n. None) (Some noted) c m.returns stack m.leveled c' number;
  continues = m.continues;
}

module _ (M N : ℕ) (area : Area) (prog : Program) (q : Query) (name : Naming) (h : Cells) (qs : List Indexical) (at : ℕ) (c : Registers) (stack : List Saved)
    (cs : List Choice) (k : Option ℕ) (es : List Event) (r : ℕ)
    (program : StandsForProgram area prog) (scoped : ClausesScoped prog.clauses) (runnable : IsRunnableProgram M prog) (n : ℕ) (model : HasModel M N qs)
    (m : Runs M N area prog q name h qs at c stack cs (suc n) k es r) where
  abbrev Begins : Entry → Registers → List Saved → List Event → ℕ → Type 0
  Begins e c' stack' = Runs M N area prog q name h qs e.at c' stack' cs n k

  calls : (b : Branch) → m.first ≡ b ∷ [] → (number : ℕ) (e : Entry) → HasEntry area number e → (c' : Registers) (stack' : List Saved)
      → IsCalling M N m.marks (depth_of m.marks) area q.shown name h qs e c' stack' b → Spends (Begins e c' stack') [] es r
  calls b one number e there c' stack' i =
      let t : Term = made (name_of area e.name) i.ts in
      let count : ℕ = at_top m.marks in
      let shape : Shape = shape_in name h (c'.x 1) in
      let tries = program.predicates number e there i.ts shape i.counted in
      let kids = by_clauses count prog.clauses b t i.rest in
      let a = goal_gives M N area prog q name h qs at c stack cs k es r b (kept_consistent M N h qs b.equations b.posted (λ v. v < b.fresh) i.look i.kept model)
      (Call t) i.rest i.goals runnable n m one (λ i. refl) kids [] (λ u D v. refl) (λ u D v. refl) in
      let gone : (d : Clause) → fits_head t d.head ≡ true → ClashFirst shape (arguments d.head) → IsFit M (by_clause count b t i.rest d)
      → IsConsistent M N (by_clause count b t i.rest d).equations (by_clause count b t i.rest d).posted → ⊥ =
      λ d fits clash. gone_by M N (by_clause count b t i.rest d) (clash_gone M N m.marks (depth_of m.marks) area q.shown name h qs e c' stack' b i shape refl d fits clash) in
      let left = thinned_ahead M N count shape t b i.rest m.others gone prog.clauses tries.0 tries.1 a.4.branches (a.4.fit, a.4.kept) in (
        a.0,
        a.1,
        a.2,
        a.3,
        record {
          first = map (by_clause count b t i.rest) tries.0;
          others = m.others;
          marks = m.marks;
          here = inr (
            e,
            b,
            record {
              noted = depth_of m.marks;
              calling = i;
              shape = shape;
              shows = refl;
              clauses = tries.0;
              tries = tries.2;
              fit = thinned_fit shape t prog.clauses tries.0 tries.1;
              scoped = thinned_scoped shape t prog.clauses tries.0 tries.1 scoped;
              kids_are = refl;
            },
          );
          wait = m.wait;
          ahead = record { fit = left.0; branches = a.4.branches; kept = left.1; run = a.4.run };
        },
      )

  -- with the number of choice points noted
  abbrev noting : Registers
  noting = record c { noted = length cs }

  long : length m.marks ≡ length cs
  long = wait_length M N Choice (Waits M N area q.shown name) cs m.others m.marks m.wait

  -- The code behind the call is the newest continuation, and the predicate's code begins with its arguments.
  pub run_call : (number : ℕ) → Holds area at (code.Call number) → (e : Entry) → HasEntry area number e → (c' : Registers) → AreSameTo e.arity c.x c'.x → c'.noted ≡ length cs
      → (slots : ℕ → Option Cell) → AreSame c.y slots → (levels : ℕ → Option ℕ) → AreSame c.levels levels
      → Spends (Begins e c' (record { to = suc at; slots = slots; levels = levels } ∷ stack)) [] es r
  run_call number f e there c' given number_is slots same levels depths =
      let s = goes_inside M N m.marks area q.shown name h qs at c stack m.first m.here (code.Call number) tt f in
      let i = step_call M N m.marks area q.shown name h qs at c stack s.0 s.1 number f slots same levels depths noting (λ n. refl) (sym long) in
      let is = same_Some i.0 e (sym i.1 ∙ there) in
      let stack' = record { to = suc at; slots = slots; levels = levels } ∷ stack in
      let calling = subst (λ d. IsCalling M N m.marks (depth_of m.marks) area q.shown name h qs d noting stack' s.0) is i.2 in
      calls s.0 s.2 number e there c' stack' (calling_moved M N m.marks (depth_of m.marks) area q.shown name h qs e noting c' stack' s.0 given number_is calling)

  -- or the clause's last goal
  pub run_execute : (number : ℕ) → Holds area at (code.Execute number) → (e : Entry) → HasEntry area number e → (c' : Registers) → AreSameTo e.arity c.x c'.x → c'.noted ≡ length cs
      → Spends (Begins e c' stack) [] es r
  run_execute number f e there c' given number_is =
      let s = goes_inside M N m.marks area q.shown name h qs at c stack m.first m.here (code.Execute number) tt f in
      let i = step_execute M N m.marks area q.shown name h qs at c stack s.0 s.1 number f noting (λ n. refl) (sym long) in
      let is = same_Some i.0 e (sym i.1 ∙ there) in
      let calling = subst (λ d. IsCalling M N m.marks (depth_of m.marks) area q.shown name h qs d noting stack s.0) is i.2 in
      calls s.0 s.2 number e there c' stack (calling_moved M N m.marks (depth_of m.marks) area q.shown name h qs e noting c' stack s.0 given number_is calling)
