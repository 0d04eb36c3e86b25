-- Steps of the whole state: on in a clause, before a clause, to a choice point and back to it.
use Rattle.std.proofs.Common.{◌≡◌, ℕ, ◌<◌, ◌≤◌, List, [], ◌∷◌, ◌++◌, length, Option, Some, None, refl, ap, subst, inl, inr, arith, append_assoc}
use Rattle.fd_language.specs.Family.{Family}
use Rattle.fd_language.specs.Range.{Indexical}
use Rattle.fd_language.specs.Unifier.{Equation}
use Rattle.fd_model.specs.Children.{Kept}
use Rattle.fd_model.specs.Goal.{Goal, Branch, Program, Query, Event, End}
use Rattle.fd_model.specs.Models.{IsModel}
use Rattle.fd_model.proofs.Lemmas.{split_both, weaker}
use Rattle.heap_cells.specs.Cells.{Cells}
use Rattle.heap_cells.specs.Terms.{Naming}
use Rattle.branch_meaning.specs.RemainingEvents.{Ahead, Spends}
use Rattle.branch_meaning.proofs.Lemmas.{ahead_drop, same_model, gone_by, ahead_none}
use Rattle.branch_lemmas.proofs.Lemmas.{kept_no_model}
use Rattle.wam_code.specs.declared.instruction.Code.{Code}
use Rattle.wam_code.specs.declared.instruction.Code.TheVariants.{Jump, FailNow, TryMeElse, RetryMeElse, TrustMe, Try, Retry, Trust, SwitchOnTerm}
use Rattle.wam_code.specs.declared.instruction.Code.TheVariants.{SwitchOnConstant, SwitchOnInteger, SwitchOnStructure}
use Rattle.wam_code.specs.declared.parts.Entry.{Entry}
use Rattle.wam_code.specs.Area.{Area, Holds}
use Rattle.wam_code.specs.Places.{Places}
use Rattle.wam_code.specs.CodeMeaning.{Caller, Rule, Rest, Means}
use Rattle.code_meaning.specs.Registers.{Registers, Saved}
use Rattle.code_meaning.specs.StateMeaning.{Made, Stands}
use Rattle.code_meaning.specs.ClauseChoices.{IsTrying, TriesBoth, IsFirst, IsChoice}
use Rattle.code_meaning.specs.MachineStates.{Goes, resume, Choice, Runs, Returns}
use Rattle.code_meaning.proofs.Levels.{leveled_pushed}
use Rattle.code_meaning.proofs.RestatedEquations.{made_pushed}
use Rattle.code_meaning.proofs.InstructionSteps.{here, step_jump}
use Rattle.code_meaning.proofs.ClauseChoices.{step_enter, step_go}

-- the consistent ones of a list's later part, which are no more than those of all
pub kept_later : (M N : ℕ) (xs ys cs : List Branch) → Kept M N (xs ++ ys) cs → (ds : List Branch) × Kept M N ys ds × (length ds ≤ length cs)
kept_later M N [] ys cs h = (cs, h, omega arith)
kept_later M N (x ∷ xs) ys cs (inl h) = let r = kept_later M N xs ys h.1.0 h.1.2 in (r.0, r.1, (let e = ap length h.1.1 in let l = r.2 in omega (arith, e, l)))
kept_later M N (x ∷ xs) ys cs (inr h) = kept_later M N xs ys cs h.1

-- no place in a clause is a choice
no_rule : (area : Area) (w : Caller) (rest : Rest) (i : Code) (at : ℕ) (p : Places) (es : List Equation) (gs : List Goal) → IsChoice i → Rule area w rest i at p es gs → ⊥
no_rule area w rest (TryMeElse to) at p es gs c r = r
no_rule area w rest (RetryMeElse to) at p es gs c r = r
no_rule area w rest TrustMe at p es gs c r = r
no_rule area w rest (Try to) at p es gs c r = r
no_rule area w rest (Retry to) at p es gs c r = r
no_rule area w rest (Trust to) at p es gs c r = r
no_rule area w rest FailNow at p es gs c r = r
no_rule area w rest (SwitchOnTerm v k i s) at p es gs c r = r
no_rule area w rest (SwitchOnConstant n) at p es gs c r = r
no_rule area w rest (SwitchOnInteger n) at p es gs c r = r
no_rule area w rest (SwitchOnStructure n) at p es gs c r = r
no_rule area w rest _ at p es gs c r = absurd c

module _ (M N : ℕ) (marks : List ℕ) (area : Area) (shown : List ℕ) (name : Naming) (h : Cells) (qs : List Indexical) (at : ℕ) (c : Registers) (stack : List Saved) where
  -- the store has no model: neither has the branch
  pub stands_no_model : (b : Branch) → Stands M N marks area shown name h qs at c stack b → ((T : Family) → IsModel M N [] qs T → ⊥) → (S : Family) → IsModel M N b.equations b.posted S → ⊥
  stands_no_model b m none S k =
      let g = m.made in
      let all = same_model M N (λ x. x < b.fresh) (g.done ++ m.todo) b.equations b.posted S g.same g.used k in
      kept_no_model M N h qs g.done b.posted (Made m.p b.fresh) g.look g.kept none S (weaker M N (g.done ++ m.todo) g.done b.posted S (λ u i. (split_both u g.done m.todo i).0) all)

  module _ (raw : List Branch) (m : Goes M N marks area shown name h qs at c stack raw) where
    -- at an instruction of a clause there is one branch
    pub goes_inside : (i : Code) → IsFirst i → Holds area at i → (b : Branch) × Stands M N marks area shown name h qs at c stack b × (raw ≡ b ∷ [])
    goes_inside i first f = elim m [
      | inl s ↦ s
      | inr s ↦ let t = step_enter M N marks area shown name h qs at s.0 c stack s.1 raw s.2 i first f c (λ n. refl) refl in (t.0, t.2, t.1)
    ]

    -- and at a choice there is a call
    pub goes_before : (i : Code) → IsChoice i → Holds area at i → (e : Entry) × (b : Branch) × IsTrying M N marks area shown name h qs at e c stack b raw
    goes_before i choice f = elim m [
      | inl s ↦ (let w : Caller = record { goals = s.1.after; shown = shown } in let k = here M N marks area shown name h qs at c stack s.0 s.1 i f in
          absurd (no_rule area w (Means area w) i at k.0 k.1 s.0.goals choice k.3))
      | inr s ↦ s
    ]

    pub goes_jump : (to : ℕ) → Holds area at (Jump to) → Goes M N marks area shown name h qs to c stack raw
    goes_jump to f = elim m [
      | inl s ↦ inl (s.0, step_jump M N marks area shown name h qs at c stack s.0 s.1 to f, s.2)
      | inr s ↦ inr (s.0, s.1, step_go M N marks area shown name h qs at s.0 c stack s.1 raw s.2 to f)
    ]

-- What is to be tried is the same where a choice point comes.
pub trying_pushed : (M N n : ℕ) (marks : List ℕ) (area : Area) (shown : List ℕ) (name : Naming) (h : Cells) (qs : List Indexical) (at : ℕ) (e : Entry)
    (c : Registers) (stack : List Saved) (b : Branch) (kids : List Branch)
    → IsTrying M N marks area shown name h qs at e c stack b kids → IsTrying M N (n ∷ marks) area shown name h qs at e c stack b kids
trying_pushed M N n marks area shown name h qs at e c stack b kids m = record {
  noted = m.noted;
  calling = record {
    look = m.calling.look;
    ts = m.calling.ts;
    rest = m.calling.rest;
    returns = m.calling.returns;
    counted = m.calling.counted;
    goals = m.calling.goals;
    below = m.calling.below;
    asked = m.calling.asked;
    kept = m.calling.kept;
    held = m.calling.held;
    saved = m.calling.saved;
    leveled = leveled_pushed marks (λ i. None) (Some m.noted) c m.calling.returns stack m.calling.leveled n;
    continues = m.calling.continues;
  };
  shape = m.shape;
  shows = m.shows;
  clauses = m.clauses;
  tries = m.tries;
  fit = m.fit;
  scoped = m.scoped;
  kids_are = m.kids_are;
}

-- And so is what the machine stands for in a clause.
pub stands_pushed : (M N n : ℕ) (marks : List ℕ) (area : Area) (shown : List ℕ) (name : Naming) (h : Cells) (qs : List Indexical) (at : ℕ) (c : Registers) (stack : List Saved) (b : Branch)
    → Stands M N marks area shown name h qs at c stack b → Stands M N (n ∷ marks) area shown name h qs at c stack b
stands_pushed M N n marks area shown name h qs at c stack b m = record {
  p = m.p;
  todo = m.todo;
  returns = m.returns;
  after = m.after;
  made = made_pushed M N marks name h qs m.returns stack b c m.p m.todo m.made n;
  continues = m.continues;
  means = m.means;
  below = m.below;
  asked = m.asked;
}

pub spends_more : (X Y : List Event → ℕ → Type 0) → ((es : List Event) (r : ℕ) → X es r → Y es r) → (said es : List Event) (r : ℕ) → Spends X said es r → Spends Y said es r
spends_more X Y f said es r s = (s.0, s.1, s.2, s.3, f s.0 s.1 s.4)

module _ (M N : ℕ) (area : Area) (prog : Program) (q : Query) (name : Naming) (n : ℕ) (k : Option ℕ) (es : List Event) (r : ℕ) where
  module _ (h : Cells) (qs : List Indexical) (at : ℕ) (c : Registers) (stack : List Saved) (cs : List Choice) (m : Runs M N area prog q name h qs at c stack cs n k es r) where
    -- the same branches at another place
    runs_moved : (h' : Cells) (qs' : List Indexical) (to : ℕ) (c' : Registers) (stack' : List Saved)
        → Goes M N m.marks area q.shown name h' qs' to c' stack' m.first → Runs M N area prog q name h' qs' to c' stack' cs n k es r
    runs_moved h' qs' to c' stack' g = record { first = m.first; others = m.others; marks = m.marks; here = g; wait = m.wait; ahead = m.ahead }

    pub runs_jump : (to : ℕ) → Holds area at (Jump to) → Runs M N area prog q name h qs to c stack cs n k es r
    runs_jump to f = runs_moved h qs to c stack (goes_jump M N m.marks area q.shown name h qs at c stack m.first m.here to f)

    module _ (i : Code) (first : IsFirst i) (f : Holds area at i) where
      inside : (b : Branch) × Stands M N m.marks area q.shown name h qs at c stack b × (m.first ≡ b ∷ [])
      inside = goes_inside M N m.marks area q.shown name h qs at c stack m.first m.here i first f

      -- An instruction of a clause is taken, on whatever branch it is.
      pub runs_on : (h' : Cells) (qs' : List Indexical) (to : ℕ) (c' : Registers) (stack' : List Saved)
          → ((marks : List ℕ) (b : Branch) → Stands M N marks area q.shown name h qs at c stack b → Stands M N marks area q.shown name h' qs' to c' stack' b)
          → Runs M N area prog q name h' qs' to c' stack' cs n k es r
      runs_on h' qs' to c' stack' step = let s = inside in runs_moved h' qs' to c' stack' (inl (s.0, step m.marks s.0 s.1, s.2))

      -- Its branch has no model.
      pub runs_gone : ((marks : List ℕ) (b : Branch) → Stands M N marks area q.shown name h qs at c stack b → (S : Family) → IsModel M N b.equations b.posted S
          → ⊥) → Returns M N area prog q name cs n k es r
      runs_gone gone =
          let s = inside in
          let a : Ahead M N prog q n k (s.0 ∷ m.others) es r = subst (λ l. Ahead M N prog q n k (l ++ m.others) es r) s.2 m.ahead in
          record { others = m.others; marks = m.marks; wait = m.wait; ahead = ahead_drop M N prog q n k s.0 m.others es r (gone_by M N s.0 (gone m.marks s.0 s.1) a.fit.0) a }

    module _ (i : Code) (choice : IsChoice i) (f : Holds area at i) where
      abbrev Trying : ℕ → Type 0
      Trying to = (marks : List ℕ) (e : Entry) (b : Branch) → IsTrying M N marks area q.shown name h qs at e c stack b m.first → IsTrying M N marks area q.shown name h qs to e c stack b m.first

      before : (e : Entry) × (b : Branch) × IsTrying M N m.marks area q.shown name h qs at e c stack b m.first
      before = goes_before M N m.marks area q.shown name h qs at c stack m.first m.here i choice f

      -- a choice goes on at one place
      pub runs_tries : (to : ℕ) → Trying to → Runs M N area prog q name h qs to c stack cs n k es r
      runs_tries to step = let t = before in runs_moved h qs to c stack (inr (t.0, t.1, step m.marks t.0 t.1 t.2))

      -- no clause is left to be tried
      pub runs_over : ((marks : List ℕ) (e : Entry) (b : Branch) → IsTrying M N marks area q.shown name h qs at e c stack b m.first → m.first ≡ []) → Returns M N area prog q name cs n k es r
      runs_over none = let t = before in record { others = m.others; marks = m.marks; wait = m.wait; ahead = subst (λ l. Ahead M N prog q n k (l ++ m.others) es r) (none m.marks t.0 t.1 t.2) m.ahead }

      -- The clauses of two places: those of the other one become a choice point, with the registers as they are.
      pub runs_both : (to other : ℕ) → ((marks : List ℕ) (e : Entry) (b : Branch) → IsTrying M N marks area q.shown name h qs at e c stack b m.first
          → TriesBoth M N marks area q.shown name h qs to other e c stack b m.first)
          → Runs M N area prog q name h qs to c stack (record { left = resume other; registers = c; stack = stack; heap = h; store = qs } ∷ cs) n k es r
      runs_both to other split =
          let t = before in
          let s = split m.marks t.0 t.1 t.2 in
          let a : Ahead M N prog q n k (s.before ++ (s.behind ++ m.others)) es r = subst (λ l. Ahead M N prog q n k l es r)
          (append_assoc s.before s.behind m.others) (subst (λ l. Ahead M N prog q n k (l ++ m.others) es r) s.both m.ahead) in
          let d = kept_later M N s.before (s.behind ++ m.others) a.branches a.kept in
          record {
            first = s.before;
            others = s.behind ++ m.others;
            marks = length d.0 ∷ m.marks;
            here = inr (t.0, t.1, trying_pushed M N (length d.0) m.marks area q.shown name h qs to t.0 c stack t.1 s.before s.now);
            wait = (s.behind, m.others, m.marks, d.0, inr (t.0, t.1, s.later), m.wait, refl, d.1, refl);
            ahead = a;
          }

  -- Back to the newest choice point: the machine goes on at its place, with what it has saved.
  pub back_resumes : (at : ℕ) (h : Cells) (qs : List Indexical) (c : Registers) (stack : List Saved) (cs : List Choice)
      → Returns M N area prog q name (record { left = resume at; registers = c; stack = stack; heap = h; store = qs } ∷ cs) n k es r
      → Runs M N area prog q name h qs at c stack cs n k es r
  back_resumes at h qs c stack cs m = record {
    first = m.wait.0;
    others = m.wait.1;
    marks = m.wait.2;
    here = m.wait.4;
    wait = m.wait.5;
    ahead = subst (λ l. Ahead M N prog q n k l es r) m.wait.6 m.ahead;
  }

  -- No choice point is left.
  pub back_ends : Returns M N area prog q name [] n k es r → (es ≡ End ∷ []) × (r ≡ 0)
  back_ends m = ahead_none M N prog q n k es r (subst (λ l. Ahead M N prog q n k l es r) m.wait.0 m.ahead)
