-- At a goal: the heap and the store stand for all of the branch, and then for what the goal makes of it.
use Rattle.std.proofs.Common.{◌≡◌, ℕ, suc, ◌<◌, ◌≤◌, List, [], ◌∷◌, ◌++◌, length, Option, Some, refl, sym, ◌∙◌, subst, inl, inr, arith}
use Rattle.fd_language.specs.Term.{Term, Substitution, apply}
use Rattle.fd_language.specs.Unifier.{Equation}
use Rattle.fd_language.specs.Range.{Indexical}
use Rattle.fd_model.specs.Goal.{Goal, Branch, Program, Query, Event, Fault, Budget}
use Rattle.fd_model.specs.BranchViews.{IsConsistent, IsView}
use Rattle.fd_model.specs.Children.{Faults, Kept}
use Rattle.fd_model.specs.Models.{IsModel}
use Rattle.fd_model.specs.declared.kinds.QueryFault.{QueryFault}
use Rattle.fd_model.specs.RunnablePrograms.{EachBelow, IsRunnableProgram}
use Rattle.fd_model.proofs.Lemmas.{each_wider}
use Rattle.fd_language.specs.Family.{Family}
use Rattle.heap_cells.specs.declared.Cell.{Cell}
use Rattle.heap_cells.specs.Cells.{Cells, IsOf}
use Rattle.heap_cells.specs.Terms.{Naming, term_of}
use Rattle.branch_meaning.specs.RemainingEvents.{at_top, offered, Ahead, Spends}
use Rattle.branch_meaning.specs.Heap.{Below}
use Rattle.branch_meaning.specs.Models.{HasModel}
use Rattle.branch_meaning.proofs.Lemmas.{ahead_drop, ahead_taken, ahead_fault, more_of, GivesAll, KeepsAll, Speaks, gone_by, ahead_spent, wait_top}
use Rattle.branch_lemmas.specs.Frames.{IsKept}
use Rattle.branch_lemmas.proofs.Lemmas.{kept_known, kept_consistent}
use Rattle.wam_code.specs.declared.instruction.Code.{Code}
use Rattle.wam_code.specs.Area.{Area, Holds}
use Rattle.wam_code.specs.Places.{Places, IsWhole}
use Rattle.wam_code.specs.CodeMeaning.{Caller, Takes, Rule, Means}
use Rattle.wam_code.proofs.Lemmas.{from_rule}
use Rattle.code_meaning.specs.Registers.{Registers, Saved, IsShown}
use Rattle.code_meaning.specs.StateMeaning.{Made, IsOld, IsMade, Stands}
use Rattle.code_meaning.specs.MachineStates.{IsReady, Choice, Waits, Runs, Returns, IsTaking}
use Rattle.code_meaning.proofs.ClauseEntry.{numbers_wider}
use Rattle.code_meaning.proofs.Levels.{leveled_settled}
use Rattle.code_meaning.proofs.MachineStates.{kept_later}
use Rattle.code_meaning.proofs.RestatedEquations.{settled_kept, says_itself}
use Rattle.code_meaning.proofs.RegisterTerms.{all_moved}
use Rattle.code_meaning.proofs.InstructionSteps.{here}

module _ (M N : ℕ) (marks : List ℕ) (area : Area) (shown : List ℕ) (name : Naming) (h : Cells) (qs : List Indexical) (at : ℕ) (c : Registers) (stack : List Saved) (b : Branch) where
  abbrev Here : Type 0
  Here = Stands M N marks area shown name h qs at c stack b

  abbrev Ready : Type 0
  Ready = IsReady M N marks area shown name h qs at c stack b

  -- an instruction before which all is made
  abbrev IsEnd : Code → Type 0
  IsEnd i = (w : Caller) (p : Places) (es : List Equation) → Rule area w (Means area w) i at p es b.goals → IsWhole p × (es ≡ [])

  pub ready_at : Here → (i : Code) → Holds area at i → IsEnd i
      → (s : Ready) × Rule area (record { goals = s.after; shown = shown }) (Means area (record { goals = s.after; shown = shown })) i at s.p [] b.goals
  ready_at m i f end =
      let w : Caller = record { goals = m.after; shown = shown } in
      let k = here M N marks area shown name h qs at c stack b m i f in
      let e = end w k.0 k.1 k.3 in
      let rule : Rule area w (Means area w) i at k.0 [] b.goals = subst (λ es. Rule area w (Means area w) i at k.0 es b.goals) e.1 k.3 in (
        record {
          p = k.0;
          returns = m.returns;
          after = m.after;
          made = subst (λ es. IsMade M N marks name h qs c m.returns stack b k.0 es) e.1 k.2;
          whole = e.0;
          continues = m.continues;
          means = from_rule area w at k.0 [] b.goals i f rule;
          below = m.below;
          asked = m.asked;
        },
        rule,
      )

  module _ (s : Ready) where
    -- the heap and the store stand for the branch
    pub ready_kept : IsKept M N h qs b.equations b.posted (λ v. v < b.fresh) s.made.look
    ready_kept = settled_kept M N marks name h qs s.returns stack b c s.p [] s.made s.whole refl

    pub ready_consistent : HasModel M N qs → IsConsistent M N b.equations b.posted
    ready_consistent model = kept_consistent M N h qs b.equations b.posted (λ v. v < b.fresh) s.made.look ready_kept model

    -- a register's cell stands for its term
    pub ready_held : (n : ℕ) (t : Term) → s.p.x n ≡ Some t → Below b.fresh t → (d : Cell) × (c.x n ≡ Some d) × IsShown name h s.made.look (λ v. v < b.fresh) t d
    ready_held n t e low = let i = s.made.xs n t e in (i.0, i.1, record { known = low; own = i.2.own; value = i.2.value })

module _ (M N : ℕ) (marks : List ℕ) (area : Area) (shown : List ℕ) (name : Naming) (h : Cells) (qs : List Indexical) (at : ℕ) (c : Registers)
    (stack : List Saved) (b : Branch) (taken : Places → Goal → Type 0) where
  -- where the rule is that of a goal
  pub taking : (i : Code) → ((w : Caller) (p : Places) (es : List Equation) → Rule area w (Means area w) i at p es b.goals → Takes (taken p) (Means area w) at p es b.goals) → Holds area at i
      → Stands M N marks area shown name h qs at c stack b → IsTaking M N marks area shown name h qs at c stack b taken
  taking i is f m =
      let s = ready_at M N marks area shown name h qs at c stack b m i f (λ w p es r. (let t = is w p es r in (t.4.whole, t.5))) in
      let w : Caller = record { goals = s.0.after; shown = shown } in
      let t = is w s.0.p [] s.1 in
      record { ready = s.0; goal = t.0; later = t.1; q = t.2; is = t.3; settled = t.4; goals = t.6; next = t.7 }

  module _ (m : IsTaking M N marks area shown name h qs at c stack b taken) where
    abbrev s : IsReady M N marks area shown name h qs at c stack b
    s = m.ready

    -- The heap and the store that a goal leaves stand for one of its branches, and what cells show they show still: the machine stands for it at the next
    -- place.
    pub taken_on : (kid : Branch) → kid.goals ≡ m.later → b.fresh ≤ kid.fresh → (now : Cells) (qs' : List Indexical) (look' : Substitution)
        → IsKept M N now qs' kid.equations kid.posted (λ v. v < kid.fresh) look'
        → ((t : Term) (d : Cell) → Below b.fresh t → IsOf h d → apply s.made.look t ≡ term_of name h d → IsOf now d × (apply look' t ≡ term_of name now d))
        → Stands M N marks area shown name now qs' (suc at) c stack kid
    taken_on kid goals grows now qs' look' kept moves =
        let q = m.q in
        let wide : (v : ℕ) → v < s.p.own → v < b.fresh = λ v l. (let o = s.made.own in omega (arith, l, o)) in
        let there : (v : ℕ) → v < kid.fresh → Made q kid.fresh v = λ v l. (m.settled.known v, inl l) in
        let one : (t : Term) (d : Cell) → Below s.p.own t → IsOf h d → apply s.made.look t ≡ term_of name h d → IsShown name now look' (Made q kid.fresh) t d = λ t d o i e.
        let low : Below b.fresh t = more_of (λ v. v < s.p.own) (λ v. v < b.fresh) wide t o in
        let k = moves t d low i e in
        record { known = more_of (λ v. v < b.fresh) (Made q kid.fresh) (λ v l. there v (omega (arith, l, grows))) t low; own = k.0; value = k.1 } in
        record {
          p = q;
          todo = [];
          returns = s.returns;
          after = s.after;
          made = record {
            done = kid.equations;
            look = look';
            kept = kept_known M N now qs' kid.equations kid.posted (λ v. v < kid.fresh) look' kept (Made q kid.fresh) there
                (λ v k. elim k.1 [ inl l ↦ l | inr l ↦ (let t = m.settled.top in absurd (omega (arith, l, t))) ]);
            same = says_itself (λ v. v < kid.fresh) kid.equations;
            xs = λ n t e. (let i = m.settled.xs n t e in let w = s.made.xs n t i.0 in (w.0, w.1, one t w.0 i.1 w.2.own w.2.value));
            ys = λ n t e. (let i = m.settled.ys n t e in let w = s.made.ys n t i.0 in (w.0, w.1, one t w.0 i.1 w.2.own w.2.value));
            saved = all_moved name h now s.made.look look' (IsOld s.p b.fresh) (IsOld q kid.fresh) (λ v k. (m.settled.known v, (let l = k.1 in omega (arith, l, grows))))
                (λ t d o i e. moves t d (more_of (IsOld s.p b.fresh) (λ v. v < b.fresh) (λ v k. k.1) t o) i e) b.fresh kid.fresh grows s.returns stack s.made.saved;
            leveled = leveled_settled marks s.p q c s.returns stack s.made.leveled m.settled;
            own = (let o = s.made.own in let e = m.settled.own in omega (arith, o, e, grows));
            covered = λ v l k. m.settled.known v;
            used = λ v k. kept.stored.used v k;
            scoped = kept.stored.heap.scoped;
          };
          continues = s.continues;
          means = subst (λ gs. Means area (record { goals = s.after; shown = shown }) (suc at) q [] gs) (sym goals) m.next;
          below = subst (EachBelow kid.fresh) (sym goals) (each_wider b.fresh kid.fresh grows (m.goal ∷ m.later) (subst (EachBelow b.fresh) m.goals s.below)).1;
          asked = numbers_wider b.fresh kid.fresh grows shown s.asked;
        }

    -- on the same heap
    pub taken_same : (kid : Branch) → kid.goals ≡ m.later → kid.fresh ≡ b.fresh → kid.equations ≡ b.equations → kid.posted ≡ b.posted → Stands M N marks area shown name h qs (suc at) c stack kid
    taken_same kid goals fresh equations posted =
        let k = ready_kept M N marks area shown name h qs at c stack b s in
        taken_on kid goals (omega (arith, fresh)) h qs s.made.look
        (subst (λ n. IsKept M N h qs kid.equations kid.posted (λ v. v < n) s.made.look) (sym fresh)
        (subst (λ ps. IsKept M N h qs kid.equations ps (λ v. v < b.fresh) s.made.look) (sym posted)
        (subst (λ es. IsKept M N h qs es b.posted (λ v. v < b.fresh) s.made.look) (sym equations) k)))
        (λ t d o i e. (i, e))

-- The goal in front of the branch that the machine stands for, which is consistent.
module _ (M N : ℕ) (area : Area) (prog : Program) (q : Query) (name : Naming) (h : Cells) (qs : List Indexical) (at : ℕ) (c : Registers) (stack : List Saved)
    (cs : List Choice) (k : Option ℕ) (es : List Event) (r : ℕ)
    (b : Branch) (consistent : IsConsistent M N b.equations b.posted) (goal : Goal) (later : List Goal) (goals : b.goals ≡ goal ∷ later) where
  pub ahead_of : (n : ℕ) (m : Runs M N area prog q name h qs at c stack cs n k es r) → m.first ≡ b ∷ [] → Ahead M N prog q n k (b ∷ m.others) es r
  ahead_of n m one = subst (λ l. Ahead M N prog q n k (l ++ m.others) es r) one m.ahead

  -- no budget is left for it
  pub goal_spent : (m : Runs M N area prog q name h qs at c stack cs 0 k es r) → m.first ≡ b ∷ [] → (es ≡ Budget ∷ []) × (r ≡ 0)
  goal_spent m one = ahead_spent M N prog q k b goal later m.others es r consistent goals (ahead_of 0 m one)

  module _ (runnable : IsRunnableProgram M prog) (n : ℕ) (m : Runs M N area prog q name h qs at c stack cs (suc n) k es r) (one : m.first ≡ b ∷ []) where
    -- how many other branches there are
    abbrev pub count : ℕ
    count = at_top m.marks

    pub counted : (ds : List Branch) → Kept M N m.others ds → length ds ≡ count
    counted ds h = wait_top M N Choice (Waits M N area q.shown name) cs m.others m.marks m.wait ds h

    pub others : (ds : List Branch) × Kept M N m.others ds
    others = let a = ahead_of (suc n) m one in (let d = kept_later M N (b ∷ []) m.others a.branches a.kept in (d.0, d.1))

    -- it is a fault
    pub goal_fault : (e : QueryFault) → ((u : Substitution) (D : Family) → IsView M N b.equations b.posted u D → offered M N count prog b goal later u D ≡ Faults e) → (es ≡ Fault e ∷ []) × (r ≡ 1)
    goal_fault e gives = ahead_fault M N prog q runnable n k b goal later m.others es r consistent goals (ahead_of (suc n) m one) count counted e gives

    module _ (keeps : KeepsAll M N prog q Choice (Waits M N area q.shown name) goal) (kids : List Branch) (said : List Event)
        (gives : GivesAll M N prog q Choice (Waits M N area q.shown name) count b goal later kids)
        (speaks : Speaks M N prog q Choice (Waits M N area q.shown name) b goal said) where
      -- what is ahead of its branches
      pub goal_gives : (rest : List Event) × (j : ℕ) × (es ≡ said ++ rest) × (r ≡ suc j) × Ahead M N prog q n k (kids ++ m.others) rest j
      goal_gives = ahead_taken M N prog q runnable n k b goal later m.others es r consistent goals (ahead_of (suc n) m one) count counted [] m.others refl
          others.0 others.1 (keeps count ∙ sym (counted others.0 others.1)) kids said gives speaks

    module _ (keeps : KeepsAll M N prog q Choice (Waits M N area q.shown name) goal) (kid : Branch) (said : List Event)
        (gives : GivesAll M N prog q Choice (Waits M N area q.shown name) count b goal later (kid ∷ []))
        (speaks : Speaks M N prog q Choice (Waits M N area q.shown name) b goal said) where
      -- one branch, on which the machine goes on
      pub goal_one : (now : Cells) (qs' : List Indexical) (to : ℕ) (c' : Registers) (stack' : List Saved)
          → Stands M N m.marks area q.shown name now qs' to c' stack' kid → Spends (Runs M N area prog q name now qs' to c' stack' cs n k) said es r
      goal_one now qs' to c' stack' there =
          let t = goal_gives keeps (kid ∷ []) said gives speaks in
          (t.0, t.1, t.2, t.3, record { first = kid ∷ []; others = m.others; marks = m.marks; here = inl (kid, there, refl); wait = m.wait; ahead = t.4 })

      -- one, which has no model
      pub goal_gone : ((S : Family) → IsModel M N kid.equations kid.posted S → ⊥) → Spends (Returns M N area prog q name cs n k) said es r
      goal_gone none =
          let t = goal_gives keeps (kid ∷ []) said gives speaks in
          (t.0, t.1, t.2, t.3, record { others = m.others; marks = m.marks; wait = m.wait; ahead = ahead_drop M N prog q n k kid m.others t.0 t.1 (gone_by M N kid none t.4.fit.0) t.4 })

    -- none
    pub goal_none : KeepsAll M N prog q Choice (Waits M N area q.shown name) goal → (said : List Event)
        → GivesAll M N prog q Choice (Waits M N area q.shown name) count b goal later [] → Speaks M N prog q Choice (Waits M N area q.shown name) b goal said
        → Spends (Returns M N area prog q name cs n k) said es r
    goal_none keeps said gives speaks = let t = goal_gives keeps [] said gives speaks in (t.0, t.1, t.2, t.3, record { others = m.others; marks = m.marks; wait = m.wait; ahead = t.4 })
