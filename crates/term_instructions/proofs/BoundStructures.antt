-- A structure is built for an open variable, which is bound to it.
use Rattle.std.proofs.Common.{◌≡◌, ℕ, ◌<◌, Bool, true, false, List, [], ◌∷◌, length, Result, Ok, Err, refl, ap, sym, ◌∙◌, subst, inl, append-nil}
use Rattle.std.specs.Prelude.{IfOk}
use Rattle.std.proofs.lemmas.Bool.{false≢true}
use Rattle.fd_language.specs.declared.TheConstants.{INFINITY}
use Rattle.fd_language.specs.Unifier.{IsMostGeneral}
use Rattle.term_pool.specs.declared.AtomId.{AtomId}
use Rattle.heap_cells.specs.declared.Cell.{Cell}
use Rattle.heap_cells.specs.declared.Cell.TheVariants as cell
use Rattle.heap_cells.specs.Cells.{Cells}
use Rattle.heap_cells.specs.Terms.{Same, term_of}
use Rattle.branch_lemmas.specs.Frames.{IsGrown}
use Rattle.branch_lemmas.proofs.Lemmas.{grown_both}
use Rattle.unify_core.specs.declared.Touch.{Touch}
use Rattle.unify_core.specs.Outcome.{IfTrue, IfFalse}
use Rattle.unify_core.specs.Touches.{IsRefuted}
use Rattle.unify_core.specs.Unifications.{AreUnified, CannotUnify, IsEqualled}
use Rattle.branch_state.specs.Compounds.{EqualsOrNot, BindsCompound}
use Rattle.branch_state.specs.States as branch
use Rattle.branch_state.specs.States.{IsCell, IsSound, IsSoundBelow, IsSameBelow, with_heap}
use Rattle.branch_state.specs.Steps.{posted_with}
use Rattle.wam_code.specs.Area.{Area}
use Rattle.wam_code.specs.VerifiedCode.{IsAtom}
use Rattle.code_areas.specs.Areas.{Contents}
use Rattle.code_safety.specs.RepresentedBranch.{went_to}
use Rattle.code_safety.specs.declared.instruction_outcomes.Went.{Went}
use Rattle.code_safety.specs.declared.instruction_outcomes.Went.TheVariants.{On, Back}
use Rattle.code_safety.proofs.Lemmas.{equated, same_below, below_heap, below_both}
use Rattle.term_instructions.specs.WriteMode.{IsGatheredTo, BuildsFor, BuildsOn}
use Rattle.term_instructions.proofs.Head.{built_then}
use Rattle.term_instructions.proofs.BuildSteps.{gathered_both}

-- what holds of a cell that another one comes to
module _ (h : Cells) (d e : Cell) (same : Same h d e) where
  unified_as : (b : Cell) (now : Cells) (ts : List Touch) → AreUnified h e b now ts → AreUnified h d b now ts
  unified_as b now ts u name =
      let k = u name in
      record {
        unifier = k.unifier;
        general = subst (λ t. IsMostGeneral (record { left = t; right = term_of name h b } ∷ []) k.unifier) (sym (same name)) k.general;
        terms = k.terms;
        cells = k.cells;
        outside = k.outside;
        touches = k.touches;
      }

  equalled_as : (b : Cell) (now : Cells) (before after : List Touch) → IsEqualled h e b now before after → IsEqualled h d b now before after
  equalled_as b now before after q = record { more = q.more; touches = q.touches; unified = unified_as b now q.more q.unified; size = q.size }

  cannot_as : (b : Cell) → CannotUnify h e b → CannotUnify h d b
  cannot_as b un name o = subst (λ t. IsRefuted h (record { left = t; right = term_of name h b } ∷ [])) (sym (same name)) (un name o)

module _ (area : Area) (f : AtomId) (n : ℕ) (atom : IsAtom area f) (s : branch.State) (from : ℕ) (c : Contents) (var : ℕ)
    (there : var < length s.heaps.now.slots) (empty : List Cell) (none : empty ≡ [])
    (s2 : branch.State) (next : ℕ) (c2 : Contents) (cells : List Cell) (g : IsGatheredTo area n s from c empty s2 next c2 cells) (all : length cells ≡ n)
    (given : List Cell) (given_is : given ≡ cells) (before after : List Touch) (s4 : branch.State) (heap : s4 ≡ with_heap s2 s4.heaps.now) (equal : Bool)
    (b : BindsCompound f given var s2 s4 before after equal) where
  middle_same : (d : Cell) → IsCell s d → Same s.heaps.now d (cell.Ref var) → Same b.middle.heaps.now d (cell.Ref var)
  middle_same d own same name =
      let grown : IsGrown s.heaps.now b.middle.heaps.now = grown_both s.heaps.now s2.heaps.now b.middle.heaps.now g.grown b.made.grown in
      grown.terms name d own.0 ∙ same name ∙ sym (grown.terms name (cell.Ref var) there)

  middle_heap : s4 ≡ with_heap b.middle s4.heaps.now
  middle_heap = heap ∙ sym (ap (λ (t : branch.State). with_heap t s4.heaps.now) b.heap)

  -- It is bound, and what the store was told is posted.
  pub bound_then : equal ≡ true → before ≡ [] → (s5 : branch.State) (told : List Touch) → told ≡ after → (posted : Bool) (E : Type 0) → s5.heaps ≡ s4.heaps
      → IsSameBelow s4 s5 → IfTrue {E = E} (Ok posted) (s5.levels.current.posted ≡ posted_with s4 told)
      → IfFalse {E = E} (Ok posted) (branch.HasNoModel INFINITY (posted_with s4 told))
      → IfTrue {E = E} (Ok posted) (IsSound s5) → IfFalse {E = E} (Ok posted) (IsSoundBelow s5) → BuildsFor area f n var s from c s5 c2 (went_to next posted)
  bound_then so untold s5 told told_is posted E heaps below all_posted gone sound back d own same =
      let is : IsEqualled b.middle.heaps.now (cell.Ref var) b.built s4.heaps.now before after = at_equal equal so b.equals in
      let q = equated b.middle s4 s5 d b.built before after told untold told_is
      (equalled_as b.middle.heaps.now d (cell.Ref var) (middle_same d own same) b.built s4.heaps.now before after is) middle_heap heaps {E = E} (Ok posted)
      all_posted gone sound back in
      built_then area f n d atom s from c own empty none s2 next c2 cells g all b.middle b.built given given_is b.made b.heap b.sound s5 posted q
      (below_both b.middle s4 s5 (below_heap b.middle s4 middle_heap) below)
    where
      at_equal : (e : Bool) → e ≡ true → EqualsOrNot b.middle.heaps.now (cell.Ref var) b.built s4.heaps.now before after e
          → IsEqualled b.middle.heaps.now (cell.Ref var) b.built s4.heaps.now before after
      at_equal true so q = q
      at_equal false so q = absurd (false≢true so)

  -- It is bound, and there is nothing to tell the store.
  pub bound_untold : equal ≡ true → before ≡ [] → after ≡ [] → (E : Type 0) → IfTrue {E = E} (Ok equal) (IsSound s4) → BuildsFor area f n var s from c s4 c2 (On next)
  bound_untold so untold told E sound = bound_then so untold s4 [] (sym told) true E refl (same_below s4) (sym (append-nil s4.levels.current.posted)) tt (at_true equal so sound) tt
    where
      at_true : (e : Bool) → e ≡ true → IfTrue {E = E} (Ok e) (IsSound s4) → IsSound s4
      at_true true so k = k
      at_true false so k = absurd (false≢true so)

  -- It occurs among the arguments.
  pub unbound_then : equal ≡ false → IsSoundBelow s4 → BuildsFor area f n var s from c s4 c2 Back
  unbound_then so back d own same =
      built_then area f n d atom s from c own empty none s2 next c2 cells g all b.middle b.built given given_is b.made b.heap b.sound s4 false
      (inl (cannot_as b.middle.heaps.now d (cell.Ref var) (middle_same d own same) b.built (at_unequal equal so b.equals)), back) (below_heap b.middle s4 middle_heap)
    where
      at_unequal : (e : Bool) → e ≡ false → EqualsOrNot b.middle.heaps.now (cell.Ref var) b.built s4.heaps.now before after e → CannotUnify b.middle.heaps.now (cell.Ref var) b.built
      at_unequal true so q = absurd (false≢true (sym so))
      at_unequal false so q = q

-- Building goes on from where gathering began,
pub built_from : (area : Area) (f : AtomId) (n var : ℕ) (s : branch.State) (from : ℕ) (c : Contents) → var < length s.heaps.now.slots
    → (s1 : branch.State) (at : ℕ) (c1 : Contents) (cells : List Cell) → IsGatheredTo area n s from c [] s1 at c1 cells
    → (s' : branch.State) (c' : Contents) {E : Type 0} (r : Result Went E)
    → IfOk r (BuildsOn area f n var s1 at c1 cells s' c') → IfOk r (BuildsFor area f n var s from c s' c')
built_from area f n var s from c there s1 at c1 cells g s' c' (Ok w) q = q s from c there g
built_from area f n var s from c there s1 at c1 cells g s' c' (Err e) q = tt

-- and from where some arguments were gathered.
pub built_on : (area : Area) (f : AtomId) (n var : ℕ) (s1 : branch.State) (at : ℕ) (c1 : Contents) (cells : List Cell) (s2 : branch.State) (next : ℕ)
    (c2 : Contents) (cells2 : List Cell) → IsGatheredTo area n s1 at c1 cells s2 next c2 cells2 → (given : List Cell) → given ≡ cells2
    → (s' : branch.State) {E : Type 0} (r : Result Went E)
    → IfOk r (BuildsOn area f n var s2 next c2 given s' c2) → IfOk r (BuildsOn area f n var s1 at c1 cells s' c2)
built_on area f n var s1 at c1 cells s2 next c2 cells2 g given is s' (Ok w) q = λ s from c there k.
    q s from c there (subst (λ l. IsGatheredTo area n s from c [] s2 next c2 l) (sym is) (gathered_both area n s from c [] s1 at c1 cells s2 next c2 cells2 k g))
built_on area f n var s1 at c1 cells s2 next c2 cells2 g given is s' (Err e) q = tt
