-- The unify instructions on a compound term that is there.
use Rattle.std.proofs.Common.{◌≡◌, ℕ, suc, ◌<◌, ◌==◌, ℤ, Bool, true, false, cond, List, [], ◌∷◌, ◌++◌, Some, None, refl, ap, sym, ◌∙◌, subst, inl, inr, arith}
use Rattle.std.proofs.lemmas.Bool.{cases_eq, true≢false}
use Rattle.fd_language.specs.Term.{Term, Terms, Var, Int, Atom, no_terms, term, Substitution, term_count}
use Rattle.fd_language.specs.Unifier.{Equation}
use Rattle.fd_language.specs.Family.{has}
use Rattle.fd_language.specs.Range.{Indexical}
use Rattle.fd_model.specs.Children.{paired}
use Rattle.fd_model.specs.ClosedFamilies.{constrained}
use Rattle.fd_model.specs.Goal.{Branch}
use Rattle.fd_model.proofs.Lemmas.{split_both, weaker}
use Rattle.heap_cells.specs.declared.Cell.{Cell}
use Rattle.heap_cells.specs.declared.Cell.TheVariants as cell
use Rattle.heap_cells.specs.Cells.{Cells, IsOf}
use Rattle.heap_cells.specs.Terms.{Naming}
use Rattle.heap_cells.specs.HeapInvariant.{IsHeap}
use Rattle.heap_cells.proofs.Lemmas.{term-Int, term-Atom}
use Rattle.branch_meaning.specs.EquivalentEquations.{SaysSame}
use Rattle.branch_meaning.proofs.Lemmas.{same_model}
use Rattle.branch_lemmas.proofs.Lemmas.{kept_forget}
use Rattle.term_pool.specs.declared.AtomId.{AtomId}
use Rattle.branch_meaning.specs.Store.{posts}
use Rattle.branch_lemmas.specs.Frames.{store_touches}
use Rattle.wam_code.specs.declared.instruction.Register.{Register}
use Rattle.wam_code.specs.declared.instruction.Register.TheVariants.{X, Y}
use Rattle.wam_code.specs.declared.instruction.Code.TheVariants.{UnifyVariable, UnifyValue, UnifyConstant, UnifyInteger, UnifyVoid}
use Rattle.wam_code.specs.Area.{Area, Holds, name_of}
use Rattle.wam_code.specs.Places.{Places, write, learn, read, IsFresh}
use Rattle.wam_code.specs.CodeMeaning.{Owed, Means, Return}
use Rattle.wam_code.proofs.Lemmas.{at_unify}
use Rattle.code_meaning.specs.Registers.{Registers, Saved, cell_in, IsWritten, IsShown, AllShown}
use Rattle.code_meaning.specs.StateMeaning.{Made, IsOld, IsMade, Stands}
use Rattle.code_meaning.specs.ReadMode.{AreCells, IsWider, local, ArePlain, Reads, ReadsOnEqual}
use Rattle.code_meaning.proofs.Levels.{leveled_fewer}
use Rattle.code_meaning.proofs.BranchEquations.{made_read, made_write, made_place, made_unified, unified_keeps, made_refuted, learnt_here, learnt_else}
use Rattle.code_meaning.proofs.BranchEquations.{learnt_more}
use Rattle.code_meaning.proofs.RestatedEquations.{says_alone}

-- ---- wider places

wider_write : (p wide : Places) (fresh base : ℕ) (r : Register) (t : Term) → IsWider p wide fresh base → IsWider (write p r t) (write wide r t) fresh base
wider_write p wide fresh base (X n) t w = record {
  xs = λ k. ap (λ o. cond (k == n) (Some t) o) (w.xs k);
  ys = w.ys;
  levels = w.levels;
  noted = w.noted;
  known = w.known;
  made = w.made;
  low = w.low;
  top = w.top;
  above = w.above;
}
wider_write p wide fresh base (Y n) t w = record {
  xs = w.xs;
  ys = λ k. ap (λ o. cond (k == n) (Some t) o) (w.ys k);
  levels = λ k. ap (λ o. cond (k == n) None o) (w.levels k);
  noted = w.noted;
  known = w.known;
  made = w.made;
  low = w.low;
  top = w.top;
  above = w.above;
}

wider_learn : (p wide : Places) (fresh base v : ℕ) → v < p.top → IsWider p wide fresh base → IsWider (learn p v) (learn wide v) fresh base
wider_learn p wide fresh base v low w = record {
  xs = w.xs;
  ys = w.ys;
  levels = w.levels;
  noted = w.noted;
  known = λ x l k. elim (cases_eq x v) [
    | inl e ↦ (learnt_here p v x e, inr (omega (arith, e, low)))
    | inr d ↦ let m = w.known x l (sym (learnt_else wide v x d) ∙ k) in (learnt_more p v x m.0, m.1)
  ];
  made = λ x m. elim (cases_eq x v) [
    | inl e ↦ learnt_here wide v x e
    | inr d ↦ learnt_more wide v x (w.made x (sym (learnt_else p v x d) ∙ m.0, m.1))
  ];
  low = w.low;
  top = w.top;
  above = w.above;
}

wider_fresh : (p wide : Places) (fresh base v : ℕ) → IsFresh p v → IsWider p wide fresh base → IsFresh wide v
wider_fresh p wide fresh base v f w = (
  unknown (wide.known v) refl,
  (let t = w.top in let a = w.above in let l = f.1 in omega (arith, t, a, l)),
)
  where
    unknown : (k : Bool) → wide.known v ≡ k → wide.known v ≡ false
    unknown false e = e
    unknown true e = (let t = w.top in let l = f.1 in absurd (true≢false (sym (w.known v (omega (arith, t, l)) e).0 ∙ f.0)))

wider_read : (p wide : Places) (fresh base : ℕ) (r : Register) → IsWider p wide fresh base → read wide r ≡ read p r
wider_read p wide fresh base (X n) w = w.xs n
wider_read p wide fresh base (Y n) w = w.ys n

pub cells_keep : (name : Naming) (h now : Cells) (look look' : Substitution) (P Q : ℕ → Type 0)
    → ((s : Term) (e : Cell) → IsShown name h look P s e → IsShown name now look' Q s e) → (ds : List Cell) (ts : Terms) → AreCells name h look P ds ts
    → AreCells name now look' Q ds ts
cells_keep name h now look look' P Q k [] no_terms a = tt
cells_keep name h now look look' P Q k [] (term t ts) a = a
cells_keep name h now look look' P Q k (d ∷ ds) no_terms a = a
cells_keep name h now look look' P Q k (d ∷ ds) (term t ts) a = (k t d a.0, cells_keep name h now look look' P Q k ds ts a.1)

all_again : (name : Naming) (h : Cells) (look : Substitution) (P Q : ℕ → Type 0) (fresh base : ℕ) (rs : List Return) (ss : List Saved)
    → AllShown name h look P base rs ss → ArePlain Q fresh rs → AllShown name h look Q fresh rs ss
all_again name h look P Q fresh base [] [] a k = tt
all_again name h look P Q fresh base (r ∷ rs) [] a k = a
all_again name h look P Q fresh base [] (s ∷ ss) a k = a
all_again name h look P Q fresh base (r ∷ rs) (s ∷ ss) a k = (
  a.0,
  k.0,
  (λ n t e. (let w = a.2 n t e in (w.0, w.1, record { known = k.1 n t e; own = w.2.own; value = w.2.value }))),
  all_again name h look P Q fresh base rs ss a.3 k.2,
)

-- ---- one argument

module _ (M N : ℕ) (marks : List ℕ) (area : Area) (shown : List ℕ) (name : Naming) (h : Cells) (qs : List Indexical) (c : Registers) (d : Cell)
    (left : List Cell) (stack : List Saved) (b : Branch) where
  -- the variable v takes the cell, and then the places are mid
  take : (at voids : ℕ) (m : Reads M N marks area shown name h qs voids at c (d ∷ left) stack b) (s : Term) (ss : Terms) (t : Term) (us : Terms)
      (made : IsMade M N marks name h qs c m.returns stack (local b m.whole m.base) m.wide (paired (term s ss) (term t us)))
      → AreCells name h made.look (Made m.wide m.base) (d ∷ left) (term s ss) → term_count (term t us) ≡ term_count (term s ss)
      → (v : ℕ) → IsFresh m.p v → t ≡ Var v
      → (now : IsMade M N marks name h qs c m.returns stack (local b m.whole m.base) (learn m.wide v) (paired ss us))
      × IsShown name h now.look (Made (learn m.wide v) m.base) (Var v) d × AreCells name h now.look (Made (learn m.wide v) m.base) left ss
      × IsWider (learn m.p v) (learn m.wide v) b.fresh m.base
  take at voids m s ss t us g cells counted v f is =
      let k = made_place M N marks name qs m.returns stack (local b m.whole m.base) h c m.wide (paired (term s ss) (term t us)) g v
      (wider_fresh m.p m.wide b.fresh m.base v f m.wider) s d cells.0 (paired ss us) (ap (λ u. record { left = s; right = u } ∷ paired ss us) is) in
      (k.0, k.1, cells_keep name h h g.look k.0.look (Made m.wide m.base) (Made (learn m.wide v) m.base) k.2 left ss cells.1, wider_learn m.p m.wide b.fresh m.base v f.1 m.wider)

  -- the rest of what is read
  reads : (at voids : ℕ) (m : Reads M N marks area shown name h qs voids at c (d ∷ left) stack b) (now : Cells) (qs' : List Indexical) (voids' at' : ℕ)
      (c' : Registers) (p wide : Places) (ss us : Terms) (made : IsMade M N marks name now qs' c' m.returns stack (local b m.whole m.base) wide (paired ss us))
      → AreCells name now made.look (Made wide m.base) left ss → term_count us ≡ term_count ss
      → IsWider p wide b.fresh m.base → Owed area voids' at' p us m.next m.q → Reads M N marks area shown name now qs' voids' at' c' left stack b
  reads at voids m now qs' voids' at' c' p wide ss us g cells counted wider owed = record {
    p = p;
    wide = wide;
    base = m.base;
    q = m.q;
    next = m.next;
    ts = us;
    sides = ss;
    whole = m.whole;
    todo = m.todo;
    returns = m.returns;
    after = m.after;
    made = g;
    cells = cells;
    counted = counted;
    wider = wider;
    owed = owed;
    ahead = m.ahead;
    continues = m.continues;
    means = m.means;
    below = m.below;
    asked = m.asked;
  }

  -- the terms of the first cell
  abbrev First : (at voids : ℕ) → Reads M N marks area shown name h qs voids at c (d ∷ left) stack b → Type 0
  First at voids m = (s : Term) × (ss : Terms) × (t : Term) × (us : Terms)
      × (made : IsMade M N marks name h qs c m.returns stack (local b m.whole m.base) m.wide (paired (term s ss) (term t us)))
      × AreCells name h made.look (Made m.wide m.base) (d ∷ left) (term s ss) × (suc (term_count us) ≡ suc (term_count ss))
      × Owed area voids at m.p (term t us) m.next m.q

  first : (at voids : ℕ) (m : Reads M N marks area shown name h qs voids at c (d ∷ left) stack b) → First at voids m
  first at voids m = go m.sides m.ts m.made m.cells m.counted m.owed
    where
      go : (ss us : Terms) (made : IsMade M N marks name h qs c m.returns stack (local b m.whole m.base) m.wide (paired ss us))
          → AreCells name h made.look (Made m.wide m.base) (d ∷ left) ss → term_count us ≡ term_count ss → Owed area voids at m.p us m.next m.q
          → First at voids m
      go no_terms us g a n o = absurd a
      go (term s ss) no_terms g a n o = absurd (omega (arith, n))
      go (term s ss) (term t us) g a n o = (s, ss, t, us, g, a, n, o)

  tail_count : (n k : ℕ) → suc n ≡ suc k → n ≡ k
  tail_count n k e = omega (arith, e)

  -- UnifyVariable: the register takes the cell
  pub read_variable : (at : ℕ) (m : Reads M N marks area shown name h qs 0 at c (d ∷ left) stack b) (r : Register) → Holds area at (UnifyVariable r)
      → (c' : Registers) → IsWritten c r d c' → Reads M N marks area shown name h qs 0 (suc at) c' left stack b
  read_variable at m r f c' w =
      let k = first at 0 m in
      let o = at_unify area at m.p k.2 k.3 m.next m.q (UnifyVariable r) f k.7 in
      let v = o.2.0 in
      let one = take at 0 m k.0 k.1 k.2 k.3 k.4 k.5 k.6 v o.2.1 o.2.2 in
      let two = made_write M N marks name qs m.returns stack (local b m.whole m.base) h c c' (learn m.wide v) (paired k.1 k.3) one.0 r (Var v) d one.1 w in
      let owed : Owed area 0 (suc at) (write (learn m.p v) r (Var v)) k.3 m.next m.q = subst (λ p. Owed area 0 (suc at) p k.3 m.next m.q) o.2.4
      (subst (λ n. Owed area n (suc at) o.1 k.3 m.next m.q) o.2.3 o.3) in
      reads at 0 m h qs 0 (suc at) c' (write (learn m.p v) r (Var v)) (write (learn m.wide v) r (Var v)) k.1 k.3 two.0
      (cells_keep name h h one.0.look two.0.look (Made (learn m.wide v) m.base) (Made (write (learn m.wide v) r (Var v)) m.base) two.2 left k.1 one.2)
      (tail_count (term_count k.3) (term_count k.1) k.6) (wider_write (learn m.p v) (learn m.wide v) b.fresh m.base r (Var v) one.3) owed

  -- UnifyVoid: the cell is passed over
  pub read_void : (at n : ℕ) (m : Reads M N marks area shown name h qs 0 at c (d ∷ left) stack b) → Holds area at (UnifyVoid (suc n)) → Reads M N marks area shown name h qs n (suc at) c left stack b
  read_void at n m f =
      let k = first at 0 m in
      let o = at_unify area at m.p k.2 k.3 m.next m.q (UnifyVoid (suc n)) f k.7 in
      let v = o.2.0 in
      let one = take at 0 m k.0 k.1 k.2 k.3 k.4 k.5 k.6 v o.2.1 o.2.2 in
      let owed : Owed area n (suc at) (learn m.p v) k.3 m.next m.q = subst (λ p. Owed area n (suc at) p k.3 m.next m.q) o.2.4 (subst (λ n. Owed area n (suc at) o.1 k.3 m.next m.q) o.2.3 o.3) in
      reads at 0 m h qs n (suc at) c (learn m.p v) (learn m.wide v) k.1 k.3 one.0 one.2 (tail_count (term_count k.3) (term_count k.1) k.6) one.3 owed

  -- and those behind it
  pub read_voids : (at n : ℕ) (m : Reads M N marks area shown name h qs (suc n) at c (d ∷ left) stack b) → Reads M N marks area shown name h qs n at c left stack b
  read_voids at n m =
      let k = first at (suc n) m in
      let one = take at (suc n) m k.0 k.1 k.2 k.3 k.4 k.5 k.6 k.7.0 k.7.1 k.7.2 in
      reads at (suc n) m h qs n at c (learn m.p k.7.0) (learn m.wide k.7.0) k.1 k.3 one.0 one.2 (tail_count (term_count k.3) (term_count k.1) k.6) one.3 k.7.3

  -- a term whose cell is known
  equal : (at : ℕ) (m : Reads M N marks area shown name h qs 0 at c (d ∷ left) stack b) (k : First at 0 m) (t : Term) (e : Cell) → k.2 ≡ t
      → IsShown name h k.4.look (Made m.wide m.base) t e → Owed area 0 (suc at) m.p k.3 m.next m.q
      → ReadsOnEqual M N marks area shown name h qs (suc at) c left stack b d e
  equal at m k t e is at_e owed =
      let bl = local b m.whole m.base in
      let todo : List Equation = paired (term k.0 k.1) (term k.2 k.3) in
      let same : todo ≡ record { left = k.0; right = t } ∷ paired k.1 k.3 = ap (λ u. record { left = k.0; right = u } ∷ paired k.1 k.3) is in
      record {
        unified = λ now ts u size.
            let g = made_unified M N marks name qs m.returns stack bl h c m.wide todo k.4 k.0 t d e k.5.0 at_e (paired k.1 k.3) same now ts u size in
            reads at 0 m now (qs ++ posts (store_touches ts)) 0 (suc at) c m.p m.wide k.1 k.3 g
            (cells_keep name h now k.4.look g.look (Made m.wide m.base) (Made m.wide m.base)
            (unified_keeps M N marks name qs m.returns stack bl h c m.wide todo k.4 k.0 t d e k.5.0 at_e (paired k.1 k.3) same now ts u size)
            left k.1 k.5.1)
            (tail_count (term_count k.3) (term_count k.1) k.6) m.wider owed;
        refuted = λ no_one S g.
            made_refuted M N marks name qs m.returns stack bl h c m.wide todo k.4 k.0 t d e k.5.0 at_e (paired k.1 k.3) same no_one S
            (weaker M N (m.whole ++ m.todo) m.whole b.posted S (λ u j. (split_both u m.whole m.todo j).0)
            (same_model M N (λ v. v < b.fresh) (m.whole ++ m.todo) b.equations b.posted S m.ahead.same m.ahead.used g));
      }

  pub read_value : (at : ℕ) (m : Reads M N marks area shown name h qs 0 at c (d ∷ left) stack b) (r : Register) → Holds area at (UnifyValue r)
      → (e : Cell) × (cell_in c r ≡ Some e) × IsOf h e × ReadsOnEqual M N marks area shown name h qs (suc at) c left stack b d e
  read_value at m r f =
      let k = first at 0 m in
      let o = at_unify area at m.p k.2 k.3 m.next m.q (UnifyValue r) f k.7 in
      let one = made_read M N marks name qs m.returns stack (local b m.whole m.base) h c m.wide (paired (term k.0 k.1) (term k.2 k.3)) k.4 r k.2
      (wider_read m.p m.wide b.fresh m.base r m.wider ∙ o.2.0) in
      let owed : Owed area 0 (suc at) m.p k.3 m.next m.q = subst (λ p. Owed area 0 (suc at) p k.3 m.next m.q) o.2.2 (subst (λ n. Owed area n (suc at) o.1 k.3 m.next m.q) o.2.1 o.3) in
      (one.0, one.1, one.2.own, equal at m k k.2 one.0 refl one.2 owed)

  module _ (valid : IsHeap h) where
    pub read_constant : (at : ℕ) (m : Reads M N marks area shown name h qs 0 at c (d ∷ left) stack b) (i : AtomId) → Holds area at (UnifyConstant i)
        → name i ≡ name_of area i → ReadsOnEqual M N marks area shown name h qs (suc at) c left stack b d (cell.Atom i)
    read_constant at m i f named =
        let k = first at 0 m in
        let o = at_unify area at m.p k.2 k.3 m.next m.q (UnifyConstant i) f k.7 in
        let owed : Owed area 0 (suc at) m.p k.3 m.next m.q = subst (λ p. Owed area 0 (suc at) p k.3 m.next m.q) o.2.2 (subst (λ n. Owed area n (suc at) o.1 k.3 m.next m.q) o.2.1 o.3) in
        equal at m k (Atom (name_of area i)) (cell.Atom i) o.2.0 (record { known = tt; own = tt; value = ap Atom (sym named) ∙ sym (term-Atom name h valid i) }) owed

    pub read_integer : (at : ℕ) (m : Reads M N marks area shown name h qs 0 at c (d ∷ left) stack b) (z : ℤ) → Holds area at (UnifyInteger z)
        → ReadsOnEqual M N marks area shown name h qs (suc at) c left stack b d (cell.Int z)
    read_integer at m z f =
        let k = first at 0 m in
        let o = at_unify area at m.p k.2 k.3 m.next m.q (UnifyInteger z) f k.7 in
        let owed : Owed area 0 (suc at) m.p k.3 m.next m.q = subst (λ p. Owed area 0 (suc at) p k.3 m.next m.q) o.2.2 (subst (λ n. Owed area n (suc at) o.1 k.3 m.next m.q) o.2.1 o.3) in
        equal at m k (Int z) (cell.Int z) o.2.0 (record { known = tt; own = tt; value = sym (term-Int name h valid z) }) owed

-- The last argument is read: the machine stands for the branch again.
pub read_end : (M N : ℕ) (marks : List ℕ) (area : Area) (shown : List ℕ) (name : Naming) (h : Cells) (qs : List Indexical) (at : ℕ) (c : Registers)
    (stack : List Saved) (b : Branch) → Reads M N marks area shown name h qs 0 at c [] stack b → Stands M N marks area shown name h qs at c stack b
read_end M N marks area shown name h qs at c stack b m = go m.sides m.ts m.made m.cells m.counted m.owed
  where
    go : (ss us : Terms) (made : IsMade M N marks name h qs c m.returns stack (local b m.whole m.base) m.wide (paired ss us))
        → AreCells name h made.look (Made m.wide m.base) [] ss → term_count us ≡ term_count ss → Owed area 0 at m.p us m.next m.q
        → Stands M N marks area shown name h qs at c stack b
    go (term s ss) us g a n o = absurd a
    go no_terms (term t us) g a n o = absurd (omega (arith, n))
    go no_terms no_terms g a n o =
        let q = m.q in
        let w = subst (λ p. IsWider p m.wide b.fresh m.base) (sym o.2) m.wider in
        let low : (v : ℕ) → Made q b.fresh v → v < m.base = λ v k. elim k.1 [ inl l ↦ (let i = w.low in omega (arith, l, i)) | inr l ↦ (let i = w.top in omega (arith, l, i)) ] in
        let wider : (v : ℕ) → Made q b.fresh v → Made m.wide m.base v = λ v k. (w.made v k, inl (low v k)) in
        let says : SaysSame (λ v. v < m.base) g.done m.whole = says_alone (λ v. v < m.base) g.done [] m.whole refl g.same in
        let says_made : SaysSame (Made q b.fresh) g.done m.whole = record { there = says.there; back = λ u k. (let r = says.back u k in (r.0, r.1, λ x l. r.2 x (low x l))) } in
        let used : (v : ℕ) → has (constrained b.posted) v ≡ true → Made q b.fresh v = λ v k. (let l = m.ahead.used v k in let i = w.low in
        w.known v (omega (arith, l, i)) (g.kept.stored.used v k).0) in
        record {
          p = q;
          todo = m.todo;
          returns = m.returns;
          after = m.after;
          made = record {
            done = m.whole;
            look = g.look;
            kept = kept_forget M N h qs g.done b.posted (Made m.wide m.base) g.look g.kept m.whole (Made q b.fresh) used wider says_made m.ahead.made;
            same = m.ahead.same;
            xs = λ n t e. (let i = g.xs n t (w.xs n ∙ e) in (i.0, i.1, record { known = m.ahead.plain.0 n t e; own = i.2.own; value = i.2.value }));
            ys = λ n t e. (let i = g.ys n t (w.ys n ∙ e) in (i.0, i.1, record { known = m.ahead.plain.1 n t e; own = i.2.own; value = i.2.value }));
            saved = all_again name h g.look (IsOld m.wide m.base) (IsOld q b.fresh) b.fresh m.base m.returns stack g.saved m.ahead.saved;
            leveled = leveled_fewer marks m.wide.levels m.wide.noted c m.returns stack g.leveled q.levels q.noted (λ n d e. w.levels n ∙ e) (λ d e. w.noted ∙ e);
            own = m.ahead.own;
            covered = m.ahead.covered;
            used = m.ahead.used;
            scoped = m.ahead.scoped;
          };
          continues = m.continues;
          means = subst (λ to. Means area (record { goals = m.after; shown = shown }) to q m.todo b.goals) o.1 m.means;
          below = m.below;
          asked = m.asked;
        }
