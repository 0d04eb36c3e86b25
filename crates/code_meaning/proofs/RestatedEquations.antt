-- Equations that are restated, goals that are reached, and frames that come and go.
use Rattle.std.proofs.Common.{◌≡◌, ℕ, ◌<◌, ◌≤◌, false, List, [], ◌∷◌, ◌++◌, Option, Some, refl, ap, sym, ◌∙◌, subst, inl, inr, arith, append-nil}
use Rattle.std.proofs.lemmas.Bool.{cases_lt, true≢false}
use Rattle.std.proofs.lemmas.Option.{none-some}
use Rattle.fd_language.specs.Term.{Term, Var}
use Rattle.fd_language.specs.Unifier.{Equation}
use Rattle.fd_language.specs.Range.{Indexical}
use Rattle.fd_model.specs.Goal.{Branch}
use Rattle.heap_cells.specs.Cells.{Cells}
use Rattle.heap_cells.specs.Terms.{Naming}
use Rattle.branch_meaning.specs.Heap.{EquationsOf}
use Rattle.branch_meaning.specs.EquivalentEquations.{SaysSame}
use Rattle.branch_meaning.proofs.Lemmas.{more_of, more_each}
use Rattle.branch_lemmas.specs.Frames.{IsKept}
use Rattle.branch_lemmas.proofs.Lemmas.{kept_known, kept_forget}
use Rattle.wam_code.specs.declared.instruction.Register.TheVariants.{X}
use Rattle.wam_code.specs.Places.{Depth, Places, put_at, drop_at, write, put_level, learn, no_slots, IsFresh, Has, IsWhole, IsSettled}
use Rattle.wam_code.specs.CodeMeaning.{Return, returned}
use Rattle.wam_code.proofs.Lemmas.{still_says_same}
use Rattle.code_meaning.specs.Registers.{Registers, Saved, AreSame, AreSameElse, IsMarked}
use Rattle.code_meaning.specs.Depths.{IsLeveled}
use Rattle.code_meaning.specs.StateMeaning.{Made, IsOld, IsMade}
use Rattle.code_meaning.proofs.RegisterTerms.{shown_moved, all_moved, shown_same}
use Rattle.code_meaning.proofs.Levels.{drop_cases, leveled_no_slots, leveled_level, leveled_pushed, leveled_settled, leveled_return}
use Rattle.code_meaning.proofs.BranchEquations.{made_write, made_place}

-- equations with none behind them
pub says_alone : (P : ℕ → Type 0) (done todo es : List Equation) → todo ≡ [] → SaysSame P (done ++ todo) es → SaysSame P done es
says_alone P done todo es is s = subst (λ l. SaysSame P l es) (ap (λ l. done ++ l) is ∙ append-nil done) s

pub says_itself : (P : ℕ → Type 0) (es : List Equation) → SaysSame P (es ++ []) es
says_itself P es = subst (λ l. SaysSame P l es) (sym (append-nil es)) (record { there = λ u k. k; back = λ u k. (u, k, λ x l. refl) })

module _ (M N : ℕ) (marks : List ℕ) (name : Naming) (h : Cells) (qs : List Indexical) (returns : List Return) (stack : List Saved) (b : Branch) where
  abbrev Makes : Registers → Places → List Equation → Type 0
  Makes c p todo = IsMade M N marks name h qs c returns stack b p todo

  -- the slots may be anything, where none is known
  pub made_no_slots : (c c' : Registers) (p : Places) (todo : List Equation) → AreSame c.x c'.x → c'.noted ≡ c.noted → Makes c p todo → Makes c' (no_slots p) todo
  made_no_slots c c' p todo same noted m = record {
    done = m.done;
    look = m.look;
    kept = m.kept;
    same = m.same;
    xs = shown_same name h m.look (Made p b.fresh) p.x c.x c'.x same m.xs;
    ys = λ n t e. absurd (none-some t e);
    saved = m.saved;
    leveled = leveled_no_slots marks p.levels p.noted c returns stack m.leveled c' noted;
    own = m.own;
    covered = m.covered;
    used = m.used;
    scoped = m.scoped;
  }

  -- a slot holds no cell, where the depths that are counted on are these
  pub made_put : (c c' : Registers) (p : Places) (todo : List Equation) → Makes c p todo → (n : ℕ) (depths : ℕ → Option Depth) → IsLeveled marks depths p.noted c' returns stack → AreSame c.x c'.x
      → AreSameElse n c.y c'.y → Makes c' (record p { y = drop_at n p.y; levels = depths }) todo
  made_put c c' p todo m n depths levels xs ys = record {
    done = m.done;
    look = m.look;
    kept = m.kept;
    same = m.same;
    xs = shown_same name h m.look (Made p b.fresh) p.x c.x c'.x xs m.xs;
    ys = λ j t e. (let w = drop_cases n p.y j t e in let o = m.ys j t w.1 in (o.0, ys j w.0 ∙ o.1, o.2));
    saved = m.saved;
    leveled = levels;
    own = m.own;
    covered = m.covered;
    used = m.used;
    scoped = m.scoped;
  }

  -- a slot takes a depth that was noted
  pub made_marked : (c c' : Registers) (p : Places) (todo : List Equation) → Makes c p todo → (n : ℕ) (d : Depth) → p.noted ≡ Some d → IsMarked c n c.noted c' → Makes c' (put_level p n d) todo
  made_marked c c' p todo m n d e s = made_put c c' p todo m n (put_at n d p.levels) (leveled_level marks p.levels p.noted c returns stack m.leveled n d c' e s) s.xs s.ys

  module _ (c : Registers) (p : Places) (todo : List Equation) (m : Makes c p todo) where
    -- a variable of the head is taken to be what a register holds, which stays there
    pub made_learnt : (a v : ℕ) (t : Term) (later : List Equation) → IsFresh p v → p.x a ≡ Some t → todo ≡ record { left = t; right = Var v } ∷ later → Makes c (write (learn p v) (X a) (Var v)) later
    made_learnt a v t later f e is =
        let one = m.xs a t e in
        let r = made_place M N marks name qs returns stack b h c p todo m v f t one.0 one.2 later is in
        (made_write M N marks name qs returns stack b h c c (learn p v) later r.0 (X a) (Var v) one.0 r.1 (record { here = one.1; else = λ n d. refl }, λ n. refl, λ n. refl, refl)).0

    -- the equations are restated
    pub made_restated : (top : ℕ) (ds : List Equation) → p.top ≤ top → ((v : ℕ) → p.top ≤ v → v < top → p.known v ≡ false)
        → EquationsOf (Has (record p { top = top })) ds → SaysSame (Has p) ds todo → Makes c (record p { top = top }) ds
    made_restated top ds wide none of says =
        let q : Places = record p { top = top } in
        let there : (v : ℕ) → Made p b.fresh v → Made q b.fresh v = λ v k. (k.0, elim k.1 [ inl l ↦ inl l | inr l ↦ inr (omega (arith, l, wide)) ]) in
        let back : (v : ℕ) → Made q b.fresh v → Made p b.fresh v = λ v k. (
          k.0,
          elim k.1 [ inl l ↦ inl l | inr l ↦ elim (cases_lt v p.top) [ inl i ↦ inr i | inr i ↦ absurd (true≢false (sym k.0 ∙ none v i l)) ] ],
        ) in
        let all : (v : ℕ) → v < b.fresh → Has p v = λ v l. elim (cases_lt v p.top) [ inl i ↦ inr i | inr i ↦ inl (m.covered v l i) ] in
        record {
          done = m.done;
          look = m.look;
          kept = kept_known M N h qs m.done b.posted (Made p b.fresh) m.look m.kept (Made q b.fresh) there back;
          same = still_says_same (Has p) b.fresh m.done todo ds b.equations all (more_each (Made p b.fresh) (Has p) (λ v k. inl k.0) m.done m.kept.stored.heap.scoped) says m.same;
          xs = shown_moved name h h m.look m.look (Made p b.fresh) (Made q b.fresh) there (λ t d o i e. (i, e)) p.x c.x m.xs;
          ys = shown_moved name h h m.look m.look (Made p b.fresh) (Made q b.fresh) there (λ t d o i e. (i, e)) p.y c.y m.ys;
          saved = m.saved;
          leveled = m.leveled;
          own = m.own;
          covered = λ v l k. m.covered v l (omega (arith, k, wide));
          used = m.used;
          scoped = m.scoped;
        }

    -- other choice points are there
    pub made_leveled : (marks' : List ℕ) → IsLeveled marks' p.levels p.noted c returns stack → IsMade M N marks' name h qs c returns stack b p todo
    made_leveled marks' levels = record {
      done = m.done;
      look = m.look;
      kept = m.kept;
      same = m.same;
      xs = m.xs;
      ys = m.ys;
      saved = m.saved;
      leveled = levels;
      own = m.own;
      covered = m.covered;
      used = m.used;
      scoped = m.scoped;
    }

    -- a choice point comes
    pub made_pushed : (n : ℕ) → IsMade M N (n ∷ marks) name h qs c returns stack b p todo
    made_pushed n = made_leveled (n ∷ marks) (leveled_pushed marks p.levels p.noted c returns stack m.leveled n)

    -- each variable of the branch is made
    pub all_made : IsWhole p → (v : ℕ) → v < b.fresh → Made p b.fresh v
    all_made w v l = (elim (cases_lt v p.top) [ inl i ↦ w v i | inr i ↦ m.covered v l i ], inl l)

    -- The heap and the store stand for the branch then.
    pub settled_kept : IsWhole p → todo ≡ [] → IsKept M N h qs b.equations b.posted (λ v. v < b.fresh) m.look
    settled_kept w is = kept_forget M N h qs m.done b.posted (Made p b.fresh) m.look m.kept b.equations (λ v. v < b.fresh) m.used (all_made w)
        (says_alone (λ v. v < b.fresh) m.done todo b.equations is m.same) m.scoped

    -- a goal is reached: all equations are made, and the code's own variables are forgotten
    pub made_settled : (q : Places) → IsSettled p q → todo ≡ [] → Makes c q []
    made_settled q s is =
        let own_low : (v : ℕ) → v < p.own → Made q b.fresh v = λ v l. (s.known v, inl (let o = m.own in omega (arith, l, o))) in
        let P : ℕ → Type 0 = λ v. v < b.fresh in
        record {
          done = b.equations;
          look = m.look;
          kept = kept_known M N h qs b.equations b.posted P m.look (settled_kept s.whole is)
              (Made q b.fresh) (λ v l. (s.known v, inl l)) (λ v k. elim k.1 [ inl l ↦ l | inr l ↦ (let t = s.top in absurd (omega (arith, l, t))) ]);
          same = says_itself P b.equations;
          xs = λ n t e. (let i = s.xs n t e in let w = m.xs n t i.0 in (w.0, w.1, record { known = more_of (λ v. v < p.own) (Made q b.fresh) own_low t i.1; own = w.2.own; value = w.2.value }));
          ys = λ n t e. (let i = s.ys n t e in let w = m.ys n t i.0 in (w.0, w.1, record { known = more_of (λ v. v < p.own) (Made q b.fresh) own_low t i.1; own = w.2.own; value = w.2.value }));
          saved = all_moved name h h m.look m.look (IsOld p b.fresh) (IsOld q b.fresh) (λ v k. (s.known v, k.1)) (λ t d o i e. (i, e)) b.fresh b.fresh (omega arith) returns stack m.saved;
          leveled = leveled_settled marks p q c returns stack m.leveled s;
          own = (let o = m.own in let e = s.own in omega (arith, o, e));
          covered = λ v l k. s.known v;
          used = m.used;
          scoped = m.scoped;
        }

-- The newest continuation is gone on with.
module _ (M N : ℕ) (marks : List ℕ) (name : Naming) (h : Cells) (qs : List Indexical) (r : Return) (returns : List Return) (s : Saved) (stack : List Saved) (b : Branch) where
  pub made_returned : (c c' : Registers) (p : Places) (todo : List Equation) → IsMade M N marks name h qs c (r ∷ returns) (s ∷ stack) b p todo → IsWhole p → todo ≡ [] → AreSame s.slots c'.y
      → AreSame s.levels c'.levels → (r.to ≡ s.to) × IsMade M N marks name h qs c' returns stack b (returned r) []
  made_returned c c' p todo m whole is same levels =
      let P : ℕ → Type 0 = λ v. v < b.fresh in
      let q : Places = returned r in
      let wider : (v : ℕ) → IsOld p b.fresh v → Made q b.fresh v = λ v k. (refl, inl k.1) in
      let of = m.saved in (
        of.0,
        record {
          done = b.equations;
          look = m.look;
          kept = kept_known M N h qs b.equations b.posted P m.look (settled_kept M N marks name h qs (r ∷ returns) (s ∷ stack) b c p todo m whole is)
              (Made q b.fresh) (λ v l. (refl, inl l)) (λ v k. elim k.1 [ inl l ↦ l | inr l ↦ absurd (omega (arith, l)) ]);
          same = says_itself P b.equations;
          xs = λ n t e. absurd (none-some t e);
          ys = shown_same name h m.look (Made q b.fresh) r.slots s.slots c'.y same
              (shown_moved name h h m.look m.look (IsOld p b.fresh) (Made q b.fresh) wider (λ t d o i e. (i, e)) r.slots s.slots of.2);
          saved = all_moved name h h m.look m.look (IsOld p b.fresh) (IsOld q b.fresh) (λ v k. (refl, k.1)) (λ t d o i e. (i, e)) b.fresh b.fresh (omega arith) returns stack of.3;
          leveled = leveled_return marks p.levels p.noted c r returns s stack m.leveled c' levels;
          own = of.1;
          covered = λ v l k. refl;
          used = m.used;
          scoped = m.scoped;
        },
      )
