-- The steps from `true`, `fail`, `=` and `;`, and from any goal where the budget is spent.
use Rattle.std.proofs.Common.{◌≡◌, ℕ, suc, ◌<◌, List, [], ◌∷◌, ◌++◌, length, Option, Some, refl, ap, sym, ◌∙◌, subst, inl, arith}
use Rattle.std.proofs.lemmas.Option.{same_Some}
use Rattle.fd_language.specs.Term.{Term, apply}
use Rattle.fd_language.specs.Family.{Family}
use Rattle.fd_language.specs.Range.{Indexical}
use Rattle.fd_model.specs.declared.kinds.BuiltinKind.{BuiltinKind}
use Rattle.fd_model.specs.declared.kinds.BuiltinKind.TheVariants as kind
use Rattle.fd_model.specs.Goal.{Goal, listed, Branch, Program, Query, Event, Budget}
use Rattle.fd_model.specs.Goal as goal
use Rattle.fd_model.specs.Children.{kept_by, with_goals, with_equations}
use Rattle.fd_model.specs.Lines.{says}
use Rattle.fd_model.specs.Models.{IsModel}
use Rattle.fd_model.specs.RunnablePrograms.{EachBelow, IsRunnableProgram}
use Rattle.heap_cells.specs.declared.Cell.{Cell}
use Rattle.heap_cells.specs.Cells.{Cells}
use Rattle.heap_cells.specs.Terms.{Naming, term_of}
use Rattle.heap_cells.proofs.Lemmas.{of_same}
use Rattle.unify_core.specs.declared.Touch.{Touch}
use Rattle.unify_core.specs.PairReduction.{IsSameSize}
use Rattle.unify_core.specs.Touches.{IsRefuted}
use Rattle.unify_core.specs.Unifications as core
use Rattle.unify_core.specs.Unifications.{cells_equal}
use Rattle.branch_meaning.specs.RemainingEvents.{at_top, offered, Spends}
use Rattle.branch_meaning.specs.Heap.{after, Below}
use Rattle.branch_meaning.specs.Models.{HasModel}
use Rattle.branch_meaning.specs.Store.{posts}
use Rattle.branch_meaning.proofs.Lemmas.{after_is, of_below}
use Rattle.branch_lemmas.specs.Frames.{store_touches, IsKept}
use Rattle.branch_lemmas.proofs.Lemmas.{kept_unified, kept_refuted}
use Rattle.wam_code.specs.declared.instruction.Code.{Code}
use Rattle.wam_code.specs.declared.instruction.Code.TheVariants as code
use Rattle.wam_code.specs.Area.{Area, Holds}
use Rattle.wam_code.specs.Places.{Places, IsWhole}
use Rattle.wam_code.specs.CodeMeaning.{BuiltinRule, Caller, Rule, Means}
use Rattle.code_meaning.specs.Registers.{Registers, Saved}
use Rattle.code_meaning.specs.StateMeaning.{Stands}
use Rattle.code_meaning.specs.MachineStates.{Choice, resume, Runs, Returns, IsTaking}
use Rattle.code_meaning.proofs.GoalStates.{ready_at, ready_kept, ready_consistent, ready_held, taking, taken_on, taken_same, goal_gives, goal_one, goal_gone}
use Rattle.code_meaning.proofs.GoalStates.{goal_none, goal_spent}
use Rattle.code_meaning.proofs.MachineStates.{goes_inside, kept_later, stands_pushed}
use Rattle.code_meaning.proofs.Disjunctions.{step_either}
use Rattle.fd_language.specs.Unifier.{Equation}
use Rattle.code_meaning.specs.ClauseChoices.{IsFirst}

-- instructions that take a goal
abbrev pub TakesGoal : Code → Type 0
TakesGoal (code.Call e) = Unit {0}
TakesGoal (code.Execute e) = Unit {0}
TakesGoal (code.Either to) = Unit {0}
TakesGoal (code.Builtin k) = Unit {0}
TakesGoal (code.Constrain k) = Unit {0}
TakesGoal (code.Label o) = Unit {0}
TakesGoal (code.PostRange r n) = Unit {0}
TakesGoal (code.Best o least) = Unit {0}
TakesGoal (code.TestOnly n) = Unit {0}
TakesGoal (code.EnterTest n m to) = Unit {0}
TakesGoal (code.CutTo n) = Unit {0}
TakesGoal _ = ⊥

pub takes_first : (i : Code) → TakesGoal i → IsFirst i
takes_first (code.Call e) t = tt
takes_first (code.Execute e) t = tt
takes_first (code.Either to) t = tt
takes_first (code.Builtin k) t = tt
takes_first (code.Constrain k) t = tt
takes_first (code.Label o) t = tt
takes_first (code.PostRange r n) t = tt
takes_first (code.Best o least) t = tt
takes_first (code.TestOnly n) t = tt
takes_first (code.EnterTest n m to) t = tt
takes_first (code.CutTo n) t = tt
takes_first _ t = absurd t

pub takes_one : (area : Area) (i : Code) → TakesGoal i → (w : Caller) (at : ℕ) (p : Places) (es : List Equation) (gs : List Goal)
    → Rule area w (Means area w) i at p es gs → (IsWhole p × (es ≡ [])) × ((g : Goal) × (later : List Goal) × (gs ≡ g ∷ later))
takes_one area (code.Call e) t w at p es gs r = ((r.4.whole, r.5), (r.0, r.1, r.6))
takes_one area (code.Execute e) t w at p es gs r = ((r.2, r.3), (r.0, w.goals, r.4))
takes_one area (code.Either to) t w at p es gs r = ((r.4.whole, r.5), (goal.Either r.0 r.1, r.2, r.6))
takes_one area (code.Builtin k) t w at p es gs r = ((r.4.whole, r.5), (r.0, r.1, r.6))
takes_one area (code.Constrain k) t w at p es gs r = ((r.4.whole, r.5), (r.0, r.1, r.6))
takes_one area (code.Label o) t w at p es gs r = ((r.4.whole, r.5), (r.0, r.1, r.6))
takes_one area (code.PostRange n k) t w at p es gs r = ((r.4.whole, r.5), (r.0, r.1, r.6))
takes_one area (code.Best o least) t w at p es gs r = ((r.4.whole, r.5), (r.0, r.1, r.6))
takes_one area (code.TestOnly n) t w at p es gs r = ((r.5.whole, r.7), (goal.If r.0 r.1, r.2, r.8))
takes_one area (code.EnterTest n m to) t w at p es gs r = ((r.7.whole, r.9), (r.0, r.4, r.10))
takes_one area (code.CutTo n) t w at p es gs r = ((r.4.whole, r.6), (goal.Cut (Some r.0.branches), r.1, r.7))
takes_one area _ t w at p es gs r = absurd t

-- no budget is left for a goal
pub runs_spent : (M N : ℕ) (area : Area) (prog : Program) (q : Query) (name : Naming) (h : Cells) (qs : List Indexical) (at : ℕ) (c : Registers)
    (stack : List Saved) (cs : List Choice) (k : Option ℕ) (es : List Event) (r : ℕ)
    → HasModel M N qs → (i : Code) → TakesGoal i → Holds area at i → Runs M N area prog q name h qs at c stack cs 0 k es r → (es ≡ Budget ∷ []) × (r ≡ 0)
runs_spent M N area prog q name h qs at c stack cs k es r model i t f m =
    let s = goes_inside M N m.marks area q.shown name h qs at c stack m.first m.here i (takes_first i t) f in
    let d = ready_at M N m.marks area q.shown name h qs at c stack s.0 s.1 i f (λ w p es g. (takes_one area i t w at p es s.0.goals g).0) in
    let g = (takes_one area i t _ at d.0.p [] s.0.goals d.1).1 in
    goal_spent M N area prog q name h qs at c stack cs k es r s.0 (ready_consistent M N m.marks area q.shown name h qs at c stack s.0 d.0 model) g.0 g.1 g.2 m s.2

-- Two terms whose cells are known are equated by a goal.
module _ (M N : ℕ) (marks : List ℕ) (area : Area) (shown : List ℕ) (name : Naming) (h : Cells) (qs : List Indexical) (at : ℕ) (c : Registers)
    (stack : List Saved) (b : Branch) (taken : Places → Goal → Type 0) (m : IsTaking M N marks area shown name h qs at c stack b taken)
    (l u : Term) (d e : Cell) (known : Below b.fresh l × Below b.fresh u) (on_l : apply m.ready.made.look l ≡ term_of name h d) (on_u : apply m.ready.made.look u ≡ term_of name h e) where
  abbrev pub equated : Branch
  equated = with_equations b m.later (record { left = l; right = u } ∷ []) b.fresh

  kept : IsKept M N h qs b.equations b.posted (λ v. v < b.fresh) m.ready.made.look
  kept = ready_kept M N marks area shown name h qs at c stack b m.ready

  pub taken_equal : (now : Cells) (ts : List Touch) → core.IsUnified name h d e now ts → IsSameSize h now
      → Stands M N marks area shown name now (qs ++ posts (store_touches ts)) (suc at) c stack equated
  taken_equal now ts g size = taken_on M N marks area shown name h qs at c stack b taken m equated refl (omega arith) now (qs ++ posts (store_touches ts)) (after g.unifier m.ready.made.look)
      (kept_unified M N name h qs b.equations b.posted (λ v. v < b.fresh) m.ready.made.look kept l u d e known on_l on_u now ts g size)
      (λ t k o i j. (of_same h now k (sym size.slots) (sym (ap length size.compounds)) i, after_is g.unifier m.ready.made.look t ∙ ap (apply g.unifier) j ∙ sym (g.terms k)))

  pub taken_unequal : IsRefuted h (cells_equal name h d e) → (S : Family) → IsModel M N equated.equations equated.posted S → ⊥
  taken_unequal no_one = kept_refuted M N name h qs b.equations b.posted (λ v. v < b.fresh) m.ready.made.look kept l u d e known on_l on_u no_one

module _ (M N : ℕ) (area : Area) (prog : Program) (q : Query) (name : Naming) (h : Cells) (qs : List Indexical) (at : ℕ) (c : Registers) (stack : List Saved)
    (cs : List Choice) (k : Option ℕ) (es : List Event) (r : ℕ)
    (runnable : IsRunnableProgram M prog) (n : ℕ) (model : HasModel M N qs) (m : Runs M N area prog q name h qs at c stack cs (suc n) k es r) where
  abbrev Then : Cells → List Indexical → List Choice → List Event → ℕ → Type 0
  Then h' qs' ds = Runs M N area prog q name h' qs' (suc at) c stack ds n k

  abbrev Back : List Event → ℕ → Type 0
  Back = Returns M N area prog q name cs n k

  abbrev pub Builtins : BuiltinKind → Branch → Type 0
  Builtins kind b = IsTaking M N m.marks area q.shown name h qs at c stack b (λ p. BuiltinRule kind p)

  pub at_builtin : (kind : BuiltinKind) → Holds area at (code.Builtin kind) → (b : Branch) × Builtins kind b × (m.first ≡ b ∷ [])
  at_builtin kind f =
      let s = goes_inside M N m.marks area q.shown name h qs at c stack m.first m.here (code.Builtin kind) tt f in
      (s.0, taking M N m.marks area q.shown name h qs at c stack s.0 (λ p. BuiltinRule kind p) (code.Builtin kind) (λ w p es r. r) f s.1, s.2)

  pub run_true : Holds area at (code.Builtin kind.True) → Spends (Then h qs cs) [] es r
  run_true f =
      let s = at_builtin kind.True f in
      let b = s.0 in
      let t = s.1 in
      let kid = with_goals b t.later in
      goal_one M N area prog q name h qs at c stack cs k es r b (ready_consistent M N m.marks area q.shown name h qs at c stack b t.ready model) t.goal t.later
      t.goals runnable n m s.2 (λ i. ap (kept_by i) t.is) kid []
      (λ u D v. ap (λ g. offered M N (at_top m.marks) prog b g t.later u D) t.is) (λ u D v. ap (says u D b) t.is)
      h qs (suc at) c stack (taken_same M N m.marks area q.shown name h qs at c stack b (λ p. BuiltinRule kind.True p) t kid refl refl refl refl)

  fails : (kind : BuiltinKind) → ((p : Places) (g : Goal) → BuiltinRule kind p g → g ≡ goal.Fail) → Holds area at (code.Builtin kind) → Spends Back [] es r
  fails kind is f =
      let s = at_builtin kind f in
      let b = s.0 in
      let t = s.1 in
      let e = is t.ready.p t.goal t.is in
      goal_none M N area prog q name h qs at c stack cs k es r b (ready_consistent M N m.marks area q.shown name h qs at c stack b t.ready model) t.goal t.later
      t.goals runnable n m s.2 (λ i. ap (kept_by i) e) []
      (λ u D v. ap (λ g. offered M N (at_top m.marks) prog b g t.later u D) e) (λ u D v. ap (says u D b) e)

  pub run_fail : Holds area at (code.Builtin kind.Fail) → Spends Back [] es r
  run_fail = fails kind.Fail (λ p g e. e)

  pub run_false : Holds area at (code.Builtin kind.False) → Spends Back [] es r
  run_false = fails kind.False (λ p g e. e)

  -- `=`, where d and e are the cells of both sides
  module _ (f : Holds area at (code.Builtin kind.Unify)) (d e : Cell) (at_d : c.x 1 ≡ Some d) (at_e : c.x 2 ≡ Some e) where
    abbrev b : Branch
    b = (at_builtin kind.Unify f).0

    abbrev t : Builtins kind.Unify b
    t = (at_builtin kind.Unify f).1

    abbrev left : Term
    left = t.is.0

    abbrev right : Term
    right = t.is.1

    low : Below b.fresh left × Below b.fresh right
    low = let i = (subst (EachBelow b.fresh) (t.goals ∙ ap (λ g. g ∷ t.later) t.is.4) t.ready.below).0 in (of_below b.fresh left i.0, of_below b.fresh right i.1)

    held : (i : ℕ) (x : Term) (a : Cell) → t.ready.p.x i ≡ Some x → Below b.fresh x → c.x i ≡ Some a → apply t.ready.made.look x ≡ term_of name h a
    held i x a e l o = let w = ready_held M N m.marks area q.shown name h qs at c stack b t.ready i x e l in w.2.value ∙ ap (term_of name h) (same_Some w.0 a (sym w.1 ∙ o))

    on_left : apply t.ready.made.look left ≡ term_of name h d
    on_left = held 1 left d t.is.2 low.0 at_d

    on_right : apply t.ready.made.look right ≡ term_of name h e
    on_right = held 2 right e t.is.3 low.1 at_e

    abbrev kid : Branch
    kid = with_equations b t.later (record { left = left; right = right } ∷ []) b.fresh

    pub run_unify : (now : Cells) (ts : List Touch) → core.IsUnified name h d e now ts → IsSameSize h now → Spends (Then now (qs ++ posts (store_touches ts)) cs) [] es r
    run_unify now ts u size = goal_one M N area prog q name h qs at c stack cs k es r b
        (ready_consistent M N m.marks area q.shown name h qs at c stack b t.ready model) t.goal t.later t.goals runnable n m (at_builtin kind.Unify f).2
        (λ i. ap (kept_by i) t.is.4) kid []
        (λ u D v. ap (λ g. offered M N (at_top m.marks) prog b g t.later u D) t.is.4) (λ u D v. ap (says u D b) t.is.4)
        now (qs ++ posts (store_touches ts)) (suc at) c stack
        (taken_equal M N m.marks area q.shown name h qs at c stack b (λ p. BuiltinRule kind.Unify p) t left right d e low on_left on_right now ts u size)

    pub run_refuted : IsRefuted h (cells_equal name h d e) → Spends Back [] es r
    run_refuted no_one = goal_gone M N area prog q name h qs at c stack cs k es r b
        (ready_consistent M N m.marks area q.shown name h qs at c stack b t.ready model) t.goal t.later t.goals runnable n m (at_builtin kind.Unify f).2
        (λ i. ap (kept_by i) t.is.4) kid []
        (λ u D v. ap (λ g. offered M N (at_top m.marks) prog b g t.later u D) t.is.4) (λ u D v. ap (says u D b) t.is.4)
        (taken_unequal M N m.marks area q.shown name h qs at c stack b (λ p. BuiltinRule kind.Unify p) t left right d e low on_left on_right no_one)

  -- `;`: the other side becomes a choice point
  pub run_either : (to : ℕ) → Holds area at (code.Either to) → Spends (Then h qs (record { left = resume to; registers = c; stack = stack; heap = h; store = qs } ∷ cs)) [] es r
  run_either to f =
      let s = goes_inside M N m.marks area q.shown name h qs at c stack m.first m.here (code.Either to) tt f in
      let b = s.0 in
      let d = ready_at M N m.marks area q.shown name h qs at c stack b s.1 (code.Either to) f (λ w p es g. (g.4.whole, g.5)) in
      let t = step_either M N m.marks area q.shown name h qs at c stack b s.1 to f in
      let one = with_goals b (listed t.0 ++ t.2) in
      let other = with_goals b (listed t.1 ++ t.2) in
      let g = goal_gives M N area prog q name h qs at c stack cs k es r b (ready_consistent M N m.marks area q.shown name h qs at c stack b d.0 model)
      (goal.Either t.0 t.1) t.2 t.3 runnable n m s.2 (λ i. refl) (one ∷ other ∷ []) [] (λ u D v. refl) (λ u D v. refl) in
      let d' = kept_later M N (one ∷ []) (other ∷ m.others) g.4.branches g.4.kept in (
        g.0,
        g.1,
        g.2,
        g.3,
        record {
          first = one ∷ [];
          others = other ∷ m.others;
          marks = length d'.0 ∷ m.marks;
          here = inl (one, stands_pushed M N (length d'.0) m.marks area q.shown name h qs (suc at) c stack one t.4, refl);
          wait = (other ∷ [], m.others, m.marks, d'.0, inl (other, t.5, refl), m.wait, refl, d'.1, refl);
          ahead = g.4;
        },
      )
