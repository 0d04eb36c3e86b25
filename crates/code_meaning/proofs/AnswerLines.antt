-- The end of a query: the answer's line is read off the slots' cells.
use Rattle.std.proofs.Common.{◌≡◌, ℕ, suc, ◌<◌, List, [], ◌∷◌, ◌++◌, length, map, Option, Some, None, refl, ap, sym, ◌∙◌, subst, arith}
use Rattle.std.proofs.lemmas.Option.{same_Some}
use Rattle.fd_language.specs.Term.{Var, Substitution, apply}
use Rattle.fd_language.specs.Family.{Family, IsInside}
use Rattle.fd_language.specs.Range.{Indexical}
use Rattle.fd_model.specs.Goal.{Program, Query, Branch, Event, Answer, Limit}
use Rattle.fd_model.specs.Lines.{answer_line, line_of, as_terms}
use Rattle.fd_model.specs.Models.{IsModel}
use Rattle.fd_model.specs.BranchViews.{IsConsistent, IsView}
use Rattle.fd_model.specs.RunnablePrograms.{NumbersBelow}
use Rattle.heap_cells.specs.declared.Cell.{Cell}
use Rattle.heap_cells.specs.Cells.{Cells}
use Rattle.heap_cells.specs.Terms.{Naming, term_of}
use Rattle.heap_cells.specs.HeapInvariant.{IsHeap}
use Rattle.branch_meaning.specs.RemainingEvents.{Ahead}
use Rattle.fd_language.specs.SingleValues.{value_at}
use Rattle.branch_meaning.specs.HeldBranches.{fixed_held}
use Rattle.branch_meaning.specs.AnswerTexts.{cell_text}
use Rattle.branch_meaning.proofs.Lemmas.{ahead_last, ahead_fewer, ahead_any, line_same, Known}
use Rattle.branch_lemmas.specs.Frames.{link_in, held_of}
use Rattle.branch_lemmas.specs.SeenHeap.{read_term}
use Rattle.branch_lemmas.proofs.Lemmas.{settled_look, settled_held, settled_rest}
use Rattle.wam_code.specs.declared.instruction.Code.TheVariants.{AnswerNow}
use Rattle.wam_code.specs.Area.{Area, Holds}
use Rattle.wam_code.specs.Places.{Places}
use Rattle.wam_code.specs.CodeMeaning.{Shows}
use Rattle.code_meaning.specs.Registers.{Registers, Saved, AreIn, AreShown}
use Rattle.code_meaning.specs.StateMeaning.{Made, Stands}
use Rattle.code_meaning.specs.Answers.{answer_terms, slots_line}
use Rattle.code_meaning.specs.MachineStates.{Choice, IsReady, Runs, Returns}
use Rattle.code_meaning.proofs.GoalStates.{ready_at, ready_kept, ready_consistent}
use Rattle.code_meaning.proofs.MachineStates.{goes_inside}

known : (n : ℕ) (vs : List ℕ) → NumbersBelow n vs → Known (λ v. v < n) vs
known n [] b = tt
known n (v ∷ vs) b = (b.0, known n vs b.1)

slots_show : (name : Naming) (h : Cells) (look : Substitution) (P : ℕ → Type 0) (G : Family) (p : Places) (cells : ℕ → Option Cell)
    → AreShown name h look P p.y cells → (i : ℕ) (vs : List ℕ) (ds : List Cell) → Shows p i vs → AreIn cells i ds → length ds ≡ length vs
    → map (λ v. apply (λ c. value_at (link_in h c) G c) (look v)) vs ≡ answer_terms name h G ds
slots_show name h look P G p cells s i [] [] v d e = refl
slots_show name h look P G p cells s i [] (d ∷ ds) v k e = absurd (omega (arith, e))
slots_show name h look P G p cells s i (v ∷ vs) [] k d e = absurd (omega (arith, e))
slots_show name h look P G p cells s i (v ∷ vs) (d ∷ ds) k f e =
    let w = s i (Var v) k.0 in
    let one : look v ≡ term_of name h d = w.2.value ∙ ap (term_of name h) (same_Some w.0 d (sym w.1 ∙ f.0)) in
    let more = slots_show name h look P G p cells s (suc i) vs ds k.1 f.1 (omega (arith, e)) in
    ap (λ t. apply (λ c. value_at (link_in h c) G c) t ∷ map (λ v. apply (λ c. value_at (link_in h c) G c) (look v)) vs) one ∙ ap (λ l. read_term h G (term_of name h d) ∷ l) more

module _ (M N : ℕ) (area : Area) (prog : Program) (q : Query) (name : Naming) (h : Cells) (valid : IsHeap h) (qs : List Indexical) (G : Family)
    (model : IsModel M N [] qs G) (most : (R : Family) → IsModel M N [] qs R → IsInside R G) (at : ℕ) (c : Registers) (stack : List Saved)
    (cs : List Choice) (n : ℕ) (es : List Event) (r : ℕ) (f : Holds area at AnswerNow) (ds : List Cell) (cells : AreIn c.y 1 ds) (counted : length ds ≡ length q.shown) where
  -- the branch's answer line is that of the slots' cells
  module _ (marks : List ℕ) (b : Branch) (m : Stands M N marks area q.shown name h qs at c stack b) where
    ends : (s : IsReady M N marks area q.shown name h qs at c stack b) × Shows s.p 1 q.shown × (b.goals ≡ [])
    ends = let e = ready_at M N marks area q.shown name h qs at c stack b m AnswerNow f (λ w p es r. (r.0, r.2)) in (e.0, e.1.1, e.1.3)

    abbrev s : IsReady M N marks area q.shown name h qs at c stack b
    s = ends.0

    consistent : IsConsistent M N b.equations b.posted
    consistent = ready_consistent M N marks area q.shown name h qs at c stack b s (G, model)

    line_is : (u : Substitution) (D : Family) → IsView M N b.equations b.posted u D → answer_line q u D b ≡ slots_line q name h qs G ds
    line_is u D v =
        let P : ℕ → Type 0 = λ v. v < b.fresh in
        let kept = ready_kept M N marks area q.shown name h qs at c stack b s in
        let F = fixed_held (held_of name h qs) G in
        let look = settled_look M N name h valid qs b.equations b.posted P s.made.look kept G most in
        let held = settled_held M N name h valid qs b.equations b.posted P s.made.look kept G most in
        let rest = settled_rest M N name h valid qs b.equations b.posted P s.made.look kept G most q model in
        let same = slots_show name h s.made.look (Made s.p b.fresh) G s.p c.y s.made.ys 1 q.shown ds ends.1 cells counted in
        sym (ap (λ l. line_of (cell_text F G (as_terms l)) q.names l) (sym same)
        ∙ line_same M N F b.equations b.posted P look held G rest u D v consistent q.names q.shown (known b.fresh q.shown s.asked))

  module _ (k : Option ℕ) (m : Runs M N area prog q name h qs at c stack cs n k es r) where
    here : (b : Branch) × Stands M N m.marks area q.shown name h qs at c stack b × (m.first ≡ b ∷ [])
    here = goes_inside M N m.marks area q.shown name h qs at c stack m.first m.here AnswerNow tt f

    ahead : Ahead M N prog q n k (here.0 ∷ m.others) es r
    ahead = subst (λ l. Ahead M N prog q n k (l ++ m.others) es r) here.2 m.ahead

  abbrev line : List ℕ
  line = slots_line q name h qs G ds

  -- the last allowed answer
  pub run_last : Runs M N area prog q name h qs at c stack cs n (Some 1) es r → (es ≡ Answer line ∷ Limit ∷ []) × (r ≡ 0)
  run_last m =
      let b = (here (Some 1) m).0 in
      let s = (here (Some 1) m).1 in
      let t = ahead_last M N prog q n b m.others es r (consistent m.marks b s) (ends m.marks b s).2 (ahead (Some 1) m) in
      (t.0.says ∙ ap (λ l. Answer l ∷ Limit ∷ []) (line_is m.marks b s t.0.unifier t.0.family t.0.view), t.1)

  -- an answer, with more to come
  pub run_fewer : (j : ℕ) → Runs M N area prog q name h qs at c stack cs n (Some (suc (suc j))) es r
      → (later : List Event) × (es ≡ Answer line ∷ later) × Returns M N area prog q name cs n (Some (suc j)) later r
  run_fewer j m =
      let b = (here (Some (suc (suc j))) m).0 in
      let s = (here (Some (suc (suc j))) m).1 in
      let t = ahead_fewer M N prog q n b m.others es r (consistent m.marks b s) (ends m.marks b s).2 j (ahead (Some (suc (suc j))) m) in
      (t.0, t.1.says ∙ ap (λ l. Answer l ∷ t.0) (line_is m.marks b s t.1.unifier t.1.family t.1.view), record { others = m.others; marks = m.marks; wait = m.wait; ahead = t.2 })

  pub run_any : Runs M N area prog q name h qs at c stack cs n None es r → (later : List Event) × (es ≡ Answer line ∷ later) × Returns M N area prog q name cs n None later r
  run_any m =
      let b = (here None m).0 in
      let s = (here None m).1 in
      let t = ahead_any M N prog q n b m.others es r (consistent m.marks b s) (ends m.marks b s).2 (ahead None m) in
      (t.0, t.1.says ∙ ap (λ l. Answer l ∷ t.0) (line_is m.marks b s t.1.unifier t.1.family t.1.view), record { others = m.others; marks = m.marks; wait = m.wait; ahead = t.2 })
