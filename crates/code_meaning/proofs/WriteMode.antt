-- The unify instructions where a compound term is built.
use Rattle.std.proofs.Common.{◌≡◌, ℕ, suc, ℤ, List, [], ◌∷◌, ◌++◌, length, Some, refl, ap, sym, ◌∙◌, subst, arith}
use Rattle.fd_language.specs.Term.{Term, Terms, Var, Int, Atom, no_terms, term, Substitution, term_count, joined_terms}
use Rattle.fd_language.specs.Range.{Indexical}
use Rattle.fd_model.specs.Goal.{Branch}
use Rattle.heap_cells.specs.declared.Cell.{Cell}
use Rattle.heap_cells.specs.declared.Cell.TheVariants as cell
use Rattle.heap_cells.specs.Cells.{Cells, IsOf, with_new_slot}
use Rattle.heap_cells.specs.Terms.{Naming}
use Rattle.heap_cells.specs.HeapInvariant.{IsHeap}
use Rattle.heap_cells.proofs.Lemmas.{term-Int, term-Atom}
use Rattle.term_pool.specs.declared.AtomId.{AtomId}
use Rattle.wam_code.specs.declared.instruction.Register.{Register}
use Rattle.wam_code.specs.declared.instruction.Code.TheVariants.{UnifyVariable, UnifyValue, UnifyConstant, UnifyInteger, UnifyVoid}
use Rattle.wam_code.specs.Area.{Area, Holds, name_of}
use Rattle.wam_code.specs.Places.{Places, write, learn}
use Rattle.wam_code.specs.CodeMeaning.{Owed}
use Rattle.wam_code.proofs.Lemmas.{at_unify}
use Rattle.code_meaning.specs.Registers.{Registers, Saved, cell_in, IsWritten, IsShown}
use Rattle.code_meaning.specs.StateMeaning.{Made, IsMade}
use Rattle.code_meaning.specs.ReadMode.{AreCells}
use Rattle.code_meaning.specs.WriteMode.{End, Builds}
use Rattle.code_meaning.proofs.BranchEquations.{made_read, made_write, made_cell}
use Rattle.code_meaning.proofs.ReadMode.{cells_keep}

joined_next : (ss : Terms) (t : Term) (ts : Terms) → joined_terms (joined_terms ss (term t no_terms)) ts ≡ joined_terms ss (term t ts)
joined_next no_terms t ts = refl
joined_next (term s ss) t ts = ap (term s) (joined_next ss t ts)

cells_next : (name : Naming) (h : Cells) (look : Substitution) (P : ℕ → Type 0) (ds : List Cell) (ss : Terms) (e : Cell) (t : Term)
    → AreCells name h look P ds ss → IsShown name h look P t e → AreCells name h look P (ds ++ e ∷ []) (joined_terms ss (term t no_terms))
cells_next name h look P [] no_terms e t a s = (s, tt)
cells_next name h look P [] (term u us) e t a s = absurd a
cells_next name h look P (d ∷ ds) no_terms e t a s = absurd a
cells_next name h look P (d ∷ ds) (term u us) e t a s = (a.0, cells_next name h look P ds us e t a.1 s)

module _ (M N : ℕ) (marks : List ℕ) (area : Area) (shown : List ℕ) (name : Naming) (h : Cells) (qs : List Indexical) (c : Registers) (cells : List Cell)
    (left : ℕ) (stack : List Saved) (b : Branch) (Ends : End) where
  abbrev Now : ℕ → ℕ → ℕ → Type 0
  Now voids at k = Builds M N marks area shown name h qs voids at c cells k stack b Ends

  abbrev Then : Cells → ℕ → ℕ → Registers → Cell → Type 0
  Then now voids at c' e = Builds M N marks area shown name now qs voids at c' (cells ++ e ∷ []) left stack b Ends

  -- one more argument
  gathers : (voids at : ℕ) (m : Now voids at (suc left)) (now : Cells) (voids' at' : ℕ) (c' : Registers) (p : Places) (t : Term) (us : Terms) (e : Cell)
      (g : IsMade M N marks name now qs c' m.returns stack b p m.todo) → AreCells name now g.look (Made p b.fresh) cells m.gathered
      → IsShown name now g.look (Made p b.fresh) t e
      → term_count us ≡ left → m.ts ≡ term t us → Owed area voids' at' p us m.next m.q → Then now voids' at' c' e
  gathers voids at m now voids' at' c' p t us e g are s counted is owed = record {
    p = p;
    q = m.q;
    next = m.next;
    gathered = joined_terms m.gathered (term t no_terms);
    ts = us;
    todo = m.todo;
    returns = m.returns;
    after = m.after;
    made = g;
    are = cells_next name now g.look (Made p b.fresh) cells m.gathered e t are s;
    counted = counted;
    owed = owed;
    ends = subst (λ l. Ends l m.next m.q m.todo m.after) (ap (joined_terms m.gathered) is ∙ sym (joined_next m.gathered t us)) m.ends;
    continues = m.continues;
    below = m.below;
    asked = m.asked;
  }

  first : (voids at : ℕ) (m : Now voids at (suc left)) → (t : Term) × (us : Terms) × (m.ts ≡ term t us) × (term_count us ≡ left) × Owed area voids at m.p (term t us) m.next m.q
  first voids at m = go m.ts refl m.counted m.owed
    where
      go : (ts : Terms) → m.ts ≡ ts → term_count ts ≡ suc left → Owed area voids at m.p ts m.next m.q
          → (t : Term) × (us : Terms) × (m.ts ≡ term t us) × (term_count us ≡ left) × Owed area voids at m.p (term t us) m.next m.q
      go no_terms e n o = absurd (omega (arith, n))
      go (term t us) e n o = (t, us, e, omega (arith, n), o)

  pub build_value : (at : ℕ) (m : Now 0 at (suc left)) (r : Register) → Holds area at (UnifyValue r) → (e : Cell) × (cell_in c r ≡ Some e) × IsOf h e × Then h 0 (suc at) c e
  build_value at m r f =
      let k = first 0 at m in
      let o = at_unify area at m.p k.0 k.1 m.next m.q (UnifyValue r) f k.4 in
      let one = made_read M N marks name qs m.returns stack b h c m.p m.todo m.made r k.0 o.2.0 in
      let owed : Owed area 0 (suc at) m.p k.1 m.next m.q = subst (λ p. Owed area 0 (suc at) p k.1 m.next m.q) o.2.2 (subst (λ n. Owed area n (suc at) o.1 k.1 m.next m.q) o.2.1 o.3) in
      (one.0, one.1, one.2.own, gathers 0 at m h 0 (suc at) c m.p k.0 k.1 one.0 m.made m.are one.2 k.3 k.2 owed)

  module _ (valid : IsHeap h) where
    pub build_constant : (at : ℕ) (m : Now 0 at (suc left)) (i : AtomId) → Holds area at (UnifyConstant i) → name i ≡ name_of area i → Then h 0 (suc at) c (cell.Atom i)
    build_constant at m i f named =
        let k = first 0 at m in
        let o = at_unify area at m.p k.0 k.1 m.next m.q (UnifyConstant i) f k.4 in
        let owed : Owed area 0 (suc at) m.p k.1 m.next m.q = subst (λ p. Owed area 0 (suc at) p k.1 m.next m.q) o.2.2 (subst (λ n. Owed area n (suc at) o.1 k.1 m.next m.q) o.2.1 o.3) in
        gathers 0 at m h 0 (suc at) c m.p (Atom (name_of area i)) k.1 (cell.Atom i) m.made m.are
        (record { known = tt; own = tt; value = ap Atom (sym named) ∙ sym (term-Atom name h valid i) }) k.3 (k.2 ∙ ap (λ t. term t k.1) o.2.0) owed

    pub build_integer : (at : ℕ) (m : Now 0 at (suc left)) (z : ℤ) → Holds area at (UnifyInteger z) → Then h 0 (suc at) c (cell.Int z)
    build_integer at m z f =
        let k = first 0 at m in
        let o = at_unify area at m.p k.0 k.1 m.next m.q (UnifyInteger z) f k.4 in
        let owed : Owed area 0 (suc at) m.p k.1 m.next m.q = subst (λ p. Owed area 0 (suc at) p k.1 m.next m.q) o.2.2 (subst (λ n. Owed area n (suc at) o.1 k.1 m.next m.q) o.2.1 o.3) in
        gathers 0 at m h 0 (suc at) c m.p (Int z) k.1 (cell.Int z) m.made m.are (record { known = tt; own = tt; value = sym (term-Int name h valid z) }) k.3 (k.2 ∙ ap (λ t. term t k.1) o.2.0) owed

    abbrev fresh_cell : Cell
    fresh_cell = cell.Ref (length h.slots)

    -- a new variable of the heap, in the register too
    pub build_variable : (at : ℕ) (m : Now 0 at (suc left)) (r : Register) → Holds area at (UnifyVariable r) → (c' : Registers) → IsWritten c r fresh_cell c'
        → Then (with_new_slot h) 0 (suc at) c' fresh_cell
    build_variable at m r f c' w =
        let k = first 0 at m in
        let o = at_unify area at m.p k.0 k.1 m.next m.q (UnifyVariable r) f k.4 in
        let v = o.2.0 in
        let now = with_new_slot h in
        let p1 : Places = learn m.p v in
        let p2 : Places = write (learn m.p v) r (Var v) in
        let one = made_cell M N marks name qs m.returns stack b h valid c m.p m.todo m.made v o.2.1 in
        let two = made_write M N marks name qs m.returns stack b now c c' p1 m.todo one.0 r (Var v) fresh_cell one.1 w in
        let owed : Owed area 0 (suc at) p2 k.1 m.next m.q = subst (λ p. Owed area 0 (suc at) p k.1 m.next m.q) o.2.4 (subst (λ n. Owed area n (suc at) o.1 k.1 m.next m.q) o.2.3 o.3) in
        let are = cells_keep name now now one.0.look two.0.look (Made p1 b.fresh) (Made p2 b.fresh) two.2 cells m.gathered
        (cells_keep name h now m.made.look one.0.look (Made m.p b.fresh) (Made p1 b.fresh) one.2 cells m.gathered m.are) in
        gathers 0 at m now 0 (suc at) c' p2 (Var v) k.1 fresh_cell two.0 are two.1 k.3 (k.2 ∙ ap (λ t. term t k.1) o.2.2) owed

    pub build_void : (at n : ℕ) (m : Now 0 at (suc left)) → Holds area at (UnifyVoid (suc n)) → Then (with_new_slot h) n (suc at) c fresh_cell
    build_void at n m f =
        let k = first 0 at m in
        let o = at_unify area at m.p k.0 k.1 m.next m.q (UnifyVoid (suc n)) f k.4 in
        let v = o.2.0 in
        let now = with_new_slot h in
        let p1 : Places = learn m.p v in
        let one = made_cell M N marks name qs m.returns stack b h valid c m.p m.todo m.made v o.2.1 in
        let owed : Owed area n (suc at) p1 k.1 m.next m.q = subst (λ p. Owed area n (suc at) p k.1 m.next m.q) o.2.4 (subst (λ n. Owed area n (suc at) o.1 k.1 m.next m.q) o.2.3 o.3) in
        gathers 0 at m now n (suc at) c p1 (Var v) k.1 fresh_cell one.0
        (cells_keep name h now m.made.look one.0.look (Made m.p b.fresh) (Made p1 b.fresh) one.2 cells m.gathered m.are) one.1 k.3
        (k.2 ∙ ap (λ t. term t k.1) o.2.2) owed

    pub build_voids : (at n : ℕ) (m : Now (suc n) at (suc left)) → Then (with_new_slot h) n at c fresh_cell
    build_voids at n m =
        let k = first (suc n) at m in
        let v = k.4.0 in
        let now = with_new_slot h in
        let p1 : Places = learn m.p v in
        let one = made_cell M N marks name qs m.returns stack b h valid c m.p m.todo m.made v k.4.1 in
        gathers (suc n) at m now n at c p1 (Var v) k.1 fresh_cell one.0
        (cells_keep name h now m.made.look one.0.look (Made m.p b.fresh) (Made p1 b.fresh) one.2 cells m.gathered m.are) one.1 k.3
        (k.2 ∙ ap (λ t. term t k.1) k.4.2) k.4.3
