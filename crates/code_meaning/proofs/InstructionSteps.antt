-- The machine's step at each instruction.
use Rattle.std.proofs.Common.{◌≡◌, ℕ, suc, ◌<◌, ℤ, true, List, [], ◌∷◌, length, Option, Some, None, refl, ap, sym, ◌∙◌, subst, arith}
use Rattle.std.proofs.lemmas.Option.{none-some}
use Rattle.fd_language.specs.Term.{Name, Term, Terms, Var, Int, Atom, no_terms, term, Substitution}
use Rattle.fd_language.specs.Unifier.{Equation}
use Rattle.fd_language.specs.Range.{Indexical}
use Rattle.fd_language.specs.Variables.{TermBelow, TermsBelow}
use Rattle.fd_model.specs.Goal.{Goal, Call, Branch}
use Rattle.fd_model.specs.RunnablePrograms.{EachBelow}
use Rattle.heap_cells.specs.declared.Cell.{Cell}
use Rattle.heap_cells.specs.declared.Cell.TheVariants as cell
use Rattle.heap_cells.specs.Cells.{Cells, IsOf, with_new_slot}
use Rattle.heap_cells.specs.Terms.{Naming}
use Rattle.heap_cells.specs.HeapInvariant.{IsHeap}
use Rattle.heap_cells.proofs.Lemmas.{term-Int, term-Atom}
use Rattle.branch_meaning.specs.Heap.{AllOf}
use Rattle.branch_meaning.proofs.Lemmas.{more_of, functions, of_all}
use Rattle.term_pool.specs.declared.AtomId.{AtomId}
use Rattle.wam_code.specs.declared.instruction.Register.{Register}
use Rattle.wam_code.specs.declared.instruction.Register.TheVariants.{X}
use Rattle.wam_code.specs.declared.instruction.Code.{Code}
use Rattle.wam_code.specs.declared.instruction.Code.TheVariants.{GetVariable, GetValue, GetConstant, GetInteger, PutVariable, PutValue, PutConstant, PutInteger}
use Rattle.wam_code.specs.declared.instruction.Code.TheVariants.{Allocate, Deallocate, Call as CallTo, Execute, Proceed, Jump, Level}
use Rattle.wam_code.specs.declared.parts.Entry.{Entry}
use Rattle.wam_code.specs.Area.{Area, Holds, HasEntry, name_of}
use Rattle.wam_code.specs.Places.{Places, write, put_level, learn, no_registers, no_slots, IsWhole, IsSettled, Hold, made}
use Rattle.wam_code.specs.CodeMeaning.{Caller, CallRule, Rule, Means, Return, returned, Continues}
use Rattle.wam_code.proofs.Lemmas.{at_place, quietly_keeps}
use Rattle.code_meaning.specs.Registers.{Registers, Saved, cell_in, AreSame, IsWritten, IsMarked, IsShown, AreHeld, AllShown}
use Rattle.code_meaning.specs.Depths.{depth_of, IsLeveled}
use Rattle.code_meaning.specs.StateMeaning.{Made, IsOld, IsMade, Stands, IsCalling}
use Rattle.code_meaning.specs.Steps.{GoesOnEqual}
use Rattle.code_meaning.proofs.RegisterTerms.{all_moved}
use Rattle.code_meaning.proofs.Levels.{leveled_call, leveled_execute}
use Rattle.code_meaning.proofs.BranchEquations.{made_read, made_write, made_place, made_cell, made_unified, made_refuted}
use Rattle.code_meaning.proofs.RestatedEquations.{made_no_slots, made_marked, made_learnt, made_restated, made_returned, settled_kept}

below_arguments : (n : ℕ) (f : Name) (ts : Terms) → TermBelow n (made f ts) → TermsBelow n ts
below_arguments n f no_terms b = tt
below_arguments n f (term t ts) b = b

module _ (M N : ℕ) (marks : List ℕ) (area : Area) (shown : List ℕ) (name : Naming) (h : Cells) (qs : List Indexical) (at : ℕ) (c : Registers)
    (stack : List Saved) (b : Branch) (m : Stands M N marks area shown name h qs at c stack b) where
  abbrev pub w : Caller
  w = record { goals = m.after; shown = shown }

  -- the rule of the instruction that stands here
  pub here : (i : Code) → Holds area at i → (p : Places) × (todo : List Equation) × IsMade M N marks name h qs c m.returns stack b p todo × Rule area w (Means area w) i at p todo b.goals
  here i f =
      let k = at_place area w at m.p m.todo b.goals i f m.means in
      quietly_keeps (λ q ds. IsMade M N marks name h qs c m.returns stack b q ds) (λ q ds. Rule area w (Means area w) i at q ds b.goals)
      (λ p es a v t later g n e is. made_learnt M N marks name h qs m.returns stack b c p es g a v t later n e is)
      (λ p es top ds g l none of says. made_restated M N marks name h qs m.returns stack b c p es g top ds l none of says)
      k.0 m.p m.todo m.made k.1

  abbrev Next : Cells → List Indexical → ℕ → Registers → Type 0
  Next h' qs' to c' = Stands M N marks area shown name h' qs' to c' stack b

  next : (h' : Cells) (qs' : List Indexical) (to : ℕ) (c' : Registers) (p : Places) (todo : List Equation)
      → IsMade M N marks name h' qs' c' m.returns stack b p todo → Means area w to p todo b.goals → Next h' qs' to c'
  next h' qs' to c' p todo g k = record { p = p; todo = todo; returns = m.returns; after = m.after; made = g; continues = m.continues; means = k; below = m.below; asked = m.asked }

  -- the register takes the argument as it is
  pub step_get_variable : (r : Register) (a : ℕ) → Holds area at (GetVariable r a) → (d : Cell) × (c.x a ≡ Some d) × IsOf h d × ((c' : Registers) → IsWritten c r d c' → Next h qs (suc at) c')
  step_get_variable r a f =
      let k = here (GetVariable r a) f in
      let p = k.0 in
      let v = k.3.0 in
      let e = k.3.2 in
      let one = k.2.xs a e.0 e.2 in
      let g = made_place M N marks name qs m.returns stack b h c p k.1 k.2 v k.3.1 e.0 one.0 one.2 e.1 e.3 in
      (one.0, one.1, one.2.own, λ c' s. next h qs (suc at) c' (write (learn p v) r (Var v)) e.1 (made_write M N marks name qs m.returns stack b h c c' (learn p v) e.1 g.0 r (Var v) one.0 g.1 s).0 e.4)

  -- an equation of what a register holds with a term whose cell is known
  equal : (p : Places) (todo : List Equation) (g : IsMade M N marks name h qs c m.returns stack b p todo) (l r : Term) (d e : Cell) (later : List Equation)
      → todo ≡ record { left = l; right = r } ∷ later → Means area w (suc at) p later b.goals
      → IsShown name h g.look (Made p b.fresh) l d → IsShown name h g.look (Made p b.fresh) r e → GoesOnEqual M N marks area shown name h qs (suc at) c stack b d e
  equal p todo g l r d e later is k at_l at_r = record {
    unified = λ now ts u size. next now _ (suc at) c p later (made_unified M N marks name qs m.returns stack b h c p todo g l r d e at_l at_r later is now ts u size) k;
    refuted = made_refuted M N marks name qs m.returns stack b h c p todo g l r d e at_l at_r later is;
  }

  pub step_get_value : (r : Register) (a : ℕ) → Holds area at (GetValue r a) → (d : Cell) × (e : Cell) × (c.x a ≡ Some d) × (cell_in c r ≡ Some e) × IsOf h d
      × IsOf h e × GoesOnEqual M N marks area shown name h qs (suc at) c stack b d e
  step_get_value r a f =
      let k = here (GetValue r a) f in
      let e = k.3.2 in
      let one = k.2.xs a e.0 e.2 in
      let two = made_read M N marks name qs m.returns stack b h c k.0 k.1 k.2 r k.3.0 k.3.1 in
      (one.0, two.0, one.1, two.1, one.2.own, two.2.own, equal k.0 k.1 k.2 e.0 k.3.0 one.0 two.0 e.1 e.3 e.4 one.2 two.2)

  module _ (valid : IsHeap h) where
    at_atom : (P : ℕ → Type 0) (look : Substitution) (a : AtomId) → name a ≡ name_of area a → IsShown name h look P (Atom (name_of area a)) (cell.Atom a)
    at_atom P look a e = record { known = tt; own = tt; value = ap Atom (sym e) ∙ sym (term-Atom name h valid a) }

    at_integer : (P : ℕ → Type 0) (look : Substitution) (z : ℤ) → IsShown name h look P (Int z) (cell.Int z)
    at_integer P look z = record { known = tt; own = tt; value = sym (term-Int name h valid z) }

    pub step_get_constant : (k : AtomId) (a : ℕ) → Holds area at (GetConstant k a) → name k ≡ name_of area k
        → (d : Cell) × (c.x a ≡ Some d) × IsOf h d × GoesOnEqual M N marks area shown name h qs (suc at) c stack b d (cell.Atom k)
    step_get_constant i a f named =
        let k = here (GetConstant i a) f in
        let e = k.3 in
        let one = k.2.xs a e.0 e.2 in
        (one.0, one.1, one.2.own, equal k.0 k.1 k.2 e.0 (Atom (name_of area i)) one.0 (cell.Atom i) e.1 e.3 e.4 one.2 (at_atom (Made k.0 b.fresh) k.2.look i named))

    pub step_get_integer : (z : ℤ) (a : ℕ) → Holds area at (GetInteger z a) → (d : Cell) × (c.x a ≡ Some d) × IsOf h d × GoesOnEqual M N marks area shown name h qs (suc at) c stack b d (cell.Int z)
    step_get_integer z a f =
        let k = here (GetInteger z a) f in
        let e = k.3 in
        let one = k.2.xs a e.0 e.2 in
        (one.0, one.1, one.2.own, equal k.0 k.1 k.2 e.0 (Int z) one.0 (cell.Int z) e.1 e.3 e.4 one.2 (at_integer (Made k.0 b.fresh) k.2.look z))

    -- a new variable of the heap, in both registers
    pub step_put_variable : (r : Register) (a : ℕ) → Holds area at (PutVariable r a) → (c' c'' : Registers) → IsWritten c r (cell.Ref (length h.slots)) c'
        → IsWritten c' (X a) (cell.Ref (length h.slots)) c'' → Next (with_new_slot h) qs (suc at) c''
    step_put_variable r a f c' c'' s t =
        let k = here (PutVariable r a) f in
        let p = k.0 in
        let v = k.3.0 in
        let now = with_new_slot h in
        let d : Cell = cell.Ref (length h.slots) in
        let g = made_cell M N marks name qs m.returns stack b h valid c p k.1 k.2 v k.3.1 in
        let i = made_write M N marks name qs m.returns stack b now c c' (learn p v) k.1 g.0 r (Var v) d g.1 s in
        let j = made_write M N marks name qs m.returns stack b now c' c'' (write (learn p v) r (Var v)) k.1 i.0 (X a) (Var v) d i.1 t in
        next now qs (suc at) c'' (write (write (learn p v) r (Var v)) (X a) (Var v)) k.1 j.0 k.3.2

    pub step_put_constant : (k : AtomId) (a : ℕ) → Holds area at (PutConstant k a) → name k ≡ name_of area k → (c' : Registers) → IsWritten c (X a) (cell.Atom k) c' → Next h qs (suc at) c'
    step_put_constant i a f named c' s =
        let k = here (PutConstant i a) f in
        let t : Term = Atom (name_of area i) in
        next h qs (suc at) c' (write k.0 (X a) t) k.1 (made_write M N marks name qs m.returns stack b h c c' k.0 k.1 k.2 (X a) t (cell.Atom i) (at_atom (Made k.0 b.fresh) k.2.look i named) s).0 k.3

    pub step_put_integer : (z : ℤ) (a : ℕ) → Holds area at (PutInteger z a) → (c' : Registers) → IsWritten c (X a) (cell.Int z) c' → Next h qs (suc at) c'
    step_put_integer z a f c' s =
        let k = here (PutInteger z a) f in
        next h qs (suc at) c' (write k.0 (X a) (Int z)) k.1
        (made_write M N marks name qs m.returns stack b h c c' k.0 k.1 k.2 (X a) (Int z) (cell.Int z) (at_integer (Made k.0 b.fresh) k.2.look z) s).0 k.3

  pub step_put_value : (r : Register) (a : ℕ) → Holds area at (PutValue r a) → (d : Cell) × (cell_in c r ≡ Some d) × IsOf h d × ((c' : Registers) → IsWritten c (X a) d c' → Next h qs (suc at) c')
  step_put_value r a f =
      let k = here (PutValue r a) f in
      let one = made_read M N marks name qs m.returns stack b h c k.0 k.1 k.2 r k.3.0 k.3.1 in
      (one.0, one.1, one.2.own, λ c' s. next h qs (suc at) c' (write k.0 (X a) k.3.0) k.1 (made_write M N marks name qs m.returns stack b h c c' k.0 k.1 k.2 (X a) k.3.0 one.0 one.2 s).0 k.3.2)

  -- frames come and go
  pub step_allocate : (n : ℕ) → Holds area at (Allocate n) → (c' : Registers) → AreSame c.x c'.x → c'.noted ≡ c.noted → Next h qs (suc at) c'
  step_allocate n f c' same noted = let k = here (Allocate n) f in next h qs (suc at) c' (no_slots k.0) k.1 (made_no_slots M N marks name h qs m.returns stack b c c' k.0 k.1 same noted k.2) k.3

  pub step_deallocate : Holds area at Deallocate → (c' : Registers) → AreSame c.x c'.x → c'.noted ≡ c.noted → Next h qs (suc at) c'
  step_deallocate f c' same noted = let k = here Deallocate f in next h qs (suc at) c' (no_slots k.0) k.1 (made_no_slots M N marks name h qs m.returns stack b c c' k.0 k.1 same noted k.2) k.3

  -- a slot takes the number that was noted
  pub step_level : (n : ℕ) → Holds area at (Level n) → (c' : Registers) → IsMarked c n c.noted c' → Next h qs (suc at) c'
  step_level n f c' s =
      let k = here (Level n) f in
      let g = made_marked M N marks name h qs m.returns stack b c c' k.0 k.1 k.2 n k.3.0 k.3.1 s in
      next h qs (suc at) c' (put_level k.0 n k.3.0) k.1 g k.3.2

  pub step_jump : (to : ℕ) → Holds area at (Jump to) → Next h qs to c
  step_jump to f = let k = here (Jump to) f in next h qs to c k.0 k.1 k.2 k.3

  -- the newest continuation's place, with its slots
  pub step_proceed : Holds area at Proceed → (s : Saved) (rest : List Saved) → stack ≡ s ∷ rest → (c' : Registers) → AreSame s.slots c'.y
      → AreSame s.levels c'.levels → Stands M N marks area shown name h qs s.to c' rest b
  step_proceed f s rest is c' same levels = let k = here Proceed f in go k.0 k.1 k.3.0 k.3.1 k.3.2 m.returns (subst (λ l. IsMade M N marks name h qs c m.returns l b k.0 k.1) is k.2) m.continues
    where
      go : (p : Places) (todo : List Equation) → IsWhole p → todo ≡ [] → b.goals ≡ m.after → (rs : List Return)
          → IsMade M N marks name h qs c rs (s ∷ rest) b p todo → Continues area shown rs m.after → Stands M N marks area shown name h qs s.to c' rest b
      go p todo whole none is [] g k = absurd g.saved
      go p todo whole none is (r ∷ rs) g k =
          let t = made_returned M N marks name h qs r rs s rest b c c' p todo g whole none same levels in
          record {
            p = returned r;
            todo = [];
            returns = rs;
            after = k.0;
            made = t.1;
            continues = k.1;
            means = subst (λ gs. Means area (record { goals = k.0; shown = shown }) s.to (returned r) [] gs) (sym is)
                (subst (λ to. Means area (record { goals = k.0; shown = shown }) to (returned r) [] m.after) t.0 k.2);
            below = m.below;
            asked = m.asked;
          }

  -- ---- calls

  held_of : (p : Places) (todo : List Equation) (g : IsMade M N marks name h qs c m.returns stack b p todo) (c' : Registers) → AreSame c.x c'.x
      → (i : ℕ) (ts : Terms) → Hold p i ts → AllOf (λ v. v < b.fresh) ts → AreHeld name h g.look (λ v. v < b.fresh) i c'.x ts
  held_of p todo g c' xs i no_terms k o = tt
  held_of p todo g c' xs i (term t ts) k o = let one = g.xs i t k.0 in ((one.0, xs i ∙ one.1, record { known = o.0; own = one.2.own; value = one.2.value }), held_of p todo g c' xs (suc i) ts k.1 o.1)

  -- a goal is called, with the goals rest behind it
  calls : (p : Places) (todo : List Equation) (g : IsMade M N marks name h qs c m.returns stack b p todo) → IsWhole p → todo ≡ []
      → (e : ℕ) (goal : Goal) (rest : List Goal) → CallRule area e p goal → b.goals ≡ goal ∷ rest
      → (c' : Registers) → AreSame c.x c'.x → (rs : List Return) (ss : List Saved) → AllShown name h g.look (λ v. v < b.fresh) b.fresh rs ss
      → IsLeveled marks (λ n. None) (Some (depth_of marks)) c' rs ss → Continues area shown rs rest
      → (entry : Entry) × HasEntry area e entry × IsCalling M N marks (depth_of marks) area shown name h qs entry c' ss b
  calls p todo g whole none e goal rest call is c' xs rs ss all levels k =
      let f : Name = name_of area call.0.name in
      let goals : b.goals ≡ Call (made f call.1) ∷ rest = is ∙ ap (λ g. g ∷ rest) call.5 in
      let low : TermBelow b.fresh (made f call.1) = (subst (EachBelow b.fresh) goals m.below).0 in (
        call.0,
        call.2,
        record {
          look = g.look;
          ts = call.1;
          rest = rest;
          returns = rs;
          counted = call.3;
          goals = goals;
          below = m.below;
          asked = m.asked;
          kept = settled_kept M N marks name h qs m.returns stack b c p todo g whole none;
          held = held_of p todo g c' xs 1 call.1 call.4 (of_all b.fresh call.1 (below_arguments b.fresh f call.1 low));
          saved = all;
          leveled = levels;
          continues = k;
        },
      )

  old_saved : (p : Places) (todo : List Equation) (g : IsMade M N marks name h qs c m.returns stack b p todo) → AllShown name h g.look (λ v. v < b.fresh) b.fresh m.returns stack
  old_saved p todo g = all_moved name h h g.look g.look (IsOld p b.fresh) (λ v. v < b.fresh) (λ v k. k.1) (λ t d o i e. (i, e)) b.fresh b.fresh (omega arith) m.returns stack g.saved

  pub step_execute : (e : ℕ) → Holds area at (Execute e) → (c' : Registers) → AreSame c.x c'.x → c'.noted ≡ length marks
      → (entry : Entry) × HasEntry area e entry × IsCalling M N marks (depth_of marks) area shown name h qs entry c' stack b
  step_execute e f c' xs noted =
      let k = here (Execute e) f in
      calls k.0 k.1 k.2 k.3.2 k.3.3 e k.3.0 m.after k.3.1 k.3.4 c' xs m.returns stack (old_saved k.0 k.1 k.2)
      (leveled_execute marks k.0.levels k.0.noted c m.returns stack k.2.leveled c' noted) m.continues

  -- what a continuation goes on with
  returned_is : (p q : Places) → IsSettled (no_registers p) q → (to : ℕ) (gs : List Goal) → Means area w to q [] gs
      → Means area w to (returned (record { to = to; slots = q.y; levels = q.levels; own = q.own })) [] gs
  returned_is p q s to gs k =
      let xs : q.x ≡ (λ n. None) = functions (λ n. nothing (q.x n) (λ t e. none-some t (s.xs n t e).0)) in
      let noted : q.noted ≡ None = nothing q.noted (λ d e. none-some d (s.noted d e)) in
      let known : q.known ≡ (λ v. true) = functions s.known in
      subst (λ t. Means area w to (record { x = λ n. None; y = q.y; levels = q.levels; noted = None; known = λ v. true; own = q.own; top = t }) [] gs) s.top
      (subst (λ l. Means area w to (record { x = λ n. None; y = q.y; levels = q.levels; noted = None; known = l; own = q.own; top = q.top }) [] gs) known
      (subst (λ o. Means area w to (record { x = λ n. None; y = q.y; levels = q.levels; noted = o; known = q.known; own = q.own; top = q.top }) [] gs) noted
      (subst (λ x. Means area w to (record { x = x; y = q.y; levels = q.levels; noted = q.noted; known = q.known; own = q.own; top = q.top }) [] gs) xs k)))
    where
      nothing : {A : Type 0} → (o : Option A) → ((t : A) → o ≡ Some t → ⊥) → o ≡ None
      nothing None h = refl
      nothing (Some t) h = absurd (h t refl)

  -- the code behind the call, with the slots as they are, becomes a continuation
  pub step_call : (e : ℕ) → Holds area at (CallTo e) → (slots : ℕ → Option Cell) → AreSame c.y slots → (levels : ℕ → Option ℕ) → AreSame c.levels levels
      → (c' : Registers) → AreSame c.x c'.x → c'.noted ≡ length marks
      → (entry : Entry) × HasEntry area e entry × IsCalling M N marks (depth_of marks) area shown name h qs entry c' (record { to = suc at; slots = slots; levels = levels } ∷ stack) b
  step_call e f slots same levels depths c' xs noted =
      let k = here (CallTo e) f in
      let p = k.0 in
      let q = k.3.2 in
      let s = k.3.4 in
      let r : Return = record { to = suc at; slots = q.y; levels = q.levels; own = q.own } in
      let saved : Saved = record { to = suc at; slots = slots; levels = levels } in
      let low : (v : ℕ) → v < p.own → v < b.fresh = λ v l. (let o = k.2.own in omega (arith, l, o)) in
      calls p k.1 k.2 s.whole k.3.5 e k.3.0 k.3.1 k.3.3 k.3.6 c' xs (r ∷ m.returns) (saved ∷ stack) (
        refl,
        (let o = k.2.own in let i = s.own in omega (arith, o, i)),
        (λ n t i. (let j = s.ys n t i in let one = k.2.ys n t j.0 in
            (one.0, same n ∙ one.1, record { known = more_of (λ v. v < p.own) (λ v. v < b.fresh) low t j.1; own = one.2.own; value = one.2.value }))),
        old_saved p k.1 k.2,
      )
      (leveled_call marks p.levels p.noted c m.returns stack k.2.leveled r saved c' s.levels depths noted)
      (m.after, m.continues, returned_is p q s (suc at) k.3.1 k.3.7)
