-- Where a compound term begins to be built, and where it is built.
use Rattle.std.proofs.Common.{◌≡◌, ℕ, suc, List, [], ◌∷◌, Option, Some, None, cond, refl, ap, sym, ◌∙◌, subst, inl, inr, arith, eq-eqb, ne_eqb}
use Rattle.std.proofs.lemmas.Bool.{cases_eq}
use Rattle.std.proofs.lemmas.Option.{none-some}
use Rattle.fd_language.specs.Term.{Name, Term, Terms, Comp, no_terms, term, Substitution, apply, apply_all, term_count, joined_terms}
use Rattle.fd_language.specs.Unifier.{Equation}
use Rattle.fd_language.specs.Range.{Indexical}
use Rattle.fd_model.specs.Goal.{Branch}
use Rattle.heap_cells.specs.declared.Cell.{Cell}
use Rattle.heap_cells.specs.Cells.{Cells, IsOf}
use Rattle.heap_cells.specs.Terms.{Naming, terms_by, term_of}
use Rattle.branch_meaning.specs.Heap.{AllOf}
use Rattle.branch_lemmas.specs.Frames.{IsGrown}
use Rattle.branch_lemmas.proofs.Lemmas.{of_grown, kept_grown}
use Rattle.term_pool.specs.declared.AtomId.{AtomId}
use Rattle.wam_code.specs.declared.instruction.Register.TheVariants.{X}
use Rattle.wam_code.specs.declared.instruction.Code.TheVariants.{GetStructure, PutStructure}
use Rattle.wam_code.specs.Area.{Area, Holds, name_of}
use Rattle.wam_code.specs.Places.{Places, drop_at, write, without}
use Rattle.wam_code.specs.CodeMeaning.{Means, Owed, Return}
use Rattle.code_meaning.specs.Registers.{Registers, Saved, AreSame, IsWritten, IsShown}
use Rattle.code_meaning.specs.StateMeaning.{Made, IsOld, IsMade, Stands}
use Rattle.code_meaning.specs.Steps.{GoesOnEqual}
use Rattle.code_meaning.specs.ReadMode.{AreCells}
use Rattle.code_meaning.specs.WriteMode.{End, GetEnd, PutEnd, Builds}
use Rattle.code_meaning.proofs.RegisterTerms.{one_moved, shown_moved, all_moved, shown_same}
use Rattle.code_meaning.proofs.Levels.{leveled_same}
use Rattle.code_meaning.proofs.BranchEquations.{made_write, made_unified, made_refuted}
use Rattle.code_meaning.proofs.ReadMode.{cells_keep}
use Rattle.code_meaning.proofs.InstructionSteps.{here}

drop_here : (i : ℕ) (r : ℕ → Option Term) → drop_at i r i ≡ None
drop_here i r = ap (λ b. cond b None (r i)) (eq-eqb i i refl)

drop_else : (i : ℕ) (r : ℕ → Option Term) (n : ℕ) → (n ≡ i → ⊥) → drop_at i r n ≡ r n
drop_else i r n d = ap (λ b. cond b None (r n)) (ne_eqb n i d)

joined_none : (ts : Terms) → joined_terms ts no_terms ≡ ts
joined_none no_terms = refl
joined_none (term t ts) = ap (term t) (joined_none ts)

module _ (M N : ℕ) (marks : List ℕ) (name : Naming) (qs : List Indexical) (returns : List Return) (stack : List Saved) (b : Branch) (h : Cells) (c : Registers)
    (p : Places) (todo : List Equation) (m : IsMade M N marks name h qs c returns stack b p todo) where
  -- the code counts on one register less, which may hold another cell
  made_without : (a : ℕ) (c' : Registers) → ((n : ℕ) → (n ≡ a → ⊥) → c'.x n ≡ c.x n) → AreSame c.y c'.y → AreSame c.levels c'.levels → c'.noted ≡ c.noted
      → IsMade M N marks name h qs c' returns stack b (without p a) todo
  made_without a c' xs ys levels noted = record {
    done = m.done;
    look = m.look;
    kept = m.kept;
    same = m.same;
    xs = λ n t e. elim (cases_eq n a) [
      | inl i ↦ absurd (none-some t (sym (drop_here a p.x) ∙ ap (drop_at a p.x) (sym i) ∙ e))
      | inr d ↦ let w = m.xs n t (sym (drop_else a p.x n d) ∙ e) in (w.0, xs n d ∙ w.1, w.2)
    ];
    ys = shown_same name h m.look (Made p b.fresh) p.y c.y c'.y ys m.ys;
    saved = m.saved;
    leveled = leveled_same marks p.levels p.noted c returns stack m.leveled c' levels noted;
    own = m.own;
    covered = m.covered;
    used = m.used;
    scoped = m.scoped;
  }

  -- the heap grows
  made_grown : (now : Cells) → IsGrown h now → (g : IsMade M N marks name now qs c returns stack b p todo)
      × ((s : Term) (e : Cell) → IsShown name h m.look (Made p b.fresh) s e → IsShown name now g.look (Made p b.fresh) s e)
  made_grown now g =
      let moves : (P : ℕ → Type 0) (t : Term) (e : Cell) → IsOf h e → apply m.look t ≡ term_of name h e
      → IsOf now e × (apply m.look t ≡ term_of name now e) = λ P t e o k. (of_grown h now g e o, k ∙ sym (g.terms name e o)) in (
        record {
          done = m.done;
          look = m.look;
          kept = kept_grown M N h qs m.done b.posted (Made p b.fresh) m.look m.kept now g;
          same = m.same;
          xs = shown_moved name h now m.look m.look (Made p b.fresh) (Made p b.fresh) (λ x k. k) (λ t e o. moves (Made p b.fresh) t e) p.x c.x m.xs;
          ys = shown_moved name h now m.look m.look (Made p b.fresh) (Made p b.fresh) (λ x k. k) (λ t e o. moves (Made p b.fresh) t e) p.y c.y m.ys;
          saved = all_moved name h now m.look m.look (IsOld p b.fresh) (IsOld p b.fresh) (λ x k. k) (λ t e o. moves (IsOld p b.fresh) t e) b.fresh b.fresh (omega arith) returns stack m.saved;
          leveled = m.leveled;
          own = m.own;
          covered = m.covered;
          used = m.used;
          scoped = m.scoped;
        },
        one_moved name h now m.look m.look (Made p b.fresh) (Made p b.fresh) (λ x k. k) (λ t e o. moves (Made p b.fresh) t e),
      )

all_known : (name : Naming) (h : Cells) (look : Substitution) (P : ℕ → Type 0) (ds : List Cell) (ts : Terms) → AreCells name h look P ds ts → AllOf P ts
all_known name h look P [] no_terms a = tt
all_known name h look P [] (term t ts) a = absurd a
all_known name h look P (d ∷ ds) no_terms a = absurd a
all_known name h look P (d ∷ ds) (term t ts) a = (a.0.known, all_known name h look P ds ts a.1)

all_values : (name : Naming) (h : Cells) (look : Substitution) (P : ℕ → Type 0) (ds : List Cell) (ts : Terms) → AreCells name h look P ds ts → apply_all look ts ≡ terms_by (term_of name h) ds
all_values name h look P [] no_terms a = refl
all_values name h look P [] (term t ts) a = absurd a
all_values name h look P (d ∷ ds) no_terms a = absurd a
all_values name h look P (d ∷ ds) (term t ts) a = let first = a.0.value in let rest = all_values name h look P ds ts a.1 in cc

-- a heap that grows keeps the terms of its cells
terms_kept : (name : Naming) (h now : Cells) (look : Substitution) (P : ℕ → Type 0) → IsGrown h now → (ds : List Cell) (ts : Terms)
    → AreCells name h look P ds ts → terms_by (term_of name now) ds ≡ terms_by (term_of name h) ds
terms_kept name h now look P g [] no_terms a = refl
terms_kept name h now look P g [] (term t ts) a = absurd a
terms_kept name h now look P g (d ∷ ds) no_terms a = absurd a
terms_kept name h now look P g (d ∷ ds) (term t ts) a = let first = g.terms name d a.0.own in let rest = terms_kept name h now look P g ds ts a.1 in cc

-- the new compound term is that of the gathered ones
built_shown : (name : Naming) (h now : Cells) (f : AtomId) (g : Name) → name f ≡ g → (ds : List Cell) (e : Cell) → IsOf now e
    → term_of name now e ≡ Comp (name f) (terms_by (term_of name h) ds) → terms_by (term_of name now) ds ≡ terms_by (term_of name h) ds
    → (look : Substitution) (P : ℕ → Type 0) (ts : Terms) → AreCells name now look P ds ts
    → IsShown name now look P (Comp g ts) e
built_shown name h now f g named ds e own is kept look P ts a = record {
  known = all_known name now look P ds ts a;
  own = own;
  value = ap (Comp g) (all_values name now look P ds ts a ∙ kept) ∙ ap (λ n. Comp n (terms_by (term_of name h) ds)) (sym named) ∙ sym is;
}

module _ (M N : ℕ) (marks : List ℕ) (area : Area) (shown : List ℕ) (name : Naming) (h : Cells) (qs : List Indexical) (at : ℕ) (c : Registers) (stack : List Saved) (b : Branch) where
  -- a head's argument: it is gathered first, and then the arguments of the term that is to be equal to it
  pub start_get : Stands M N marks area shown name h qs at c stack b → (f : AtomId) (n a : ℕ) → Holds area at (GetStructure f n a)
      → (d : Cell) × (c.x a ≡ Some d) × IsOf h d × Builds M N marks area shown name h qs 0 (suc at) c (d ∷ []) n stack b (GetEnd area shown b (name_of area f))
  start_get m f n a holds =
      let k = here M N marks area shown name h qs at c stack b m (GetStructure f n a) holds in
      let e = k.3.4 in
      let one = k.2.xs a e.0 e.2 in (
        one.0,
        one.1,
        one.2.own,
        record {
          p = k.0;
          q = k.3.2;
          next = k.3.1;
          gathered = term e.0 no_terms;
          ts = k.3.0;
          todo = k.1;
          returns = m.returns;
          after = m.after;
          made = k.2;
          are = (one.2, tt);
          counted = k.3.3.0;
          owed = k.3.3.1;
          ends = (e.0, k.3.0, e.1, refl, e.3, e.4);
          continues = m.continues;
          below = m.below;
          asked = m.asked;
        },
      )

  -- a goal's argument: the register may hold any cell meanwhile
  pub start_put : Stands M N marks area shown name h qs at c stack b → (f : AtomId) (n a : ℕ) → Holds area at (PutStructure f n a) → (c' : Registers)
      → ((i : ℕ) → (i ≡ a → ⊥) → c'.x i ≡ c.x i) → AreSame c.y c'.y → AreSame c.levels c'.levels → c'.noted ≡ c.noted
      → Builds M N marks area shown name h qs 0 (suc at) c' [] n stack b (PutEnd area shown b (name_of area f) a)
  start_put m f n a holds c' xs ys levels noted =
      let k = here M N marks area shown name h qs at c stack b m (PutStructure f n a) holds in
      record {
        p = without k.0 a;
        q = k.3.2;
        next = k.3.1;
        gathered = no_terms;
        ts = k.3.0;
        todo = k.1;
        returns = m.returns;
        after = m.after;
        made = made_without M N marks name qs m.returns stack b h c k.0 k.1 k.2 a c' xs ys levels noted;
        are = tt;
        counted = k.3.3.0;
        owed = k.3.3.1;
        ends = k.3.4;
        continues = m.continues;
        below = m.below;
        asked = m.asked;
      }

  -- the cell new of the heap now is the compound term of the cells ds
  module _ (f : AtomId) (named : name f ≡ name_of area f) (ds : List Cell) (now : Cells) (new : Cell) (grown : IsGrown h now) (own : IsOf now new)
      (is : term_of name now new ≡ Comp (name f) (terms_by (term_of name h) ds)) where
    -- nothing is left to be given
    at_end : (cells : List Cell) (Ends : End) (m : Builds M N marks area shown name h qs 0 at c cells 0 stack b Ends) → (m.next ≡ at) × (m.q ≡ m.p) × Ends m.gathered m.next m.q m.todo m.after
    at_end cells Ends m = go m.ts m.counted m.owed m.ends
      where
        go : (ts : Terms) → term_count ts ≡ 0 → Owed area 0 at m.p ts m.next m.q → Ends (joined_terms m.gathered ts) m.next m.q m.todo m.after
            → (m.next ≡ at) × (m.q ≡ m.p) × Ends m.gathered m.next m.q m.todo m.after
        go no_terms n o e = (o.1, o.2, subst (λ l. Ends l m.next m.q m.todo m.after) (joined_none m.gathered) e)
        go (term t ts) n o e = absurd (omega (arith, n))

    pub end_get : (d : Cell) → Builds M N marks area shown name h qs 0 at c (d ∷ ds) 0 stack b (GetEnd area shown b (name_of area f)) → GoesOnEqual M N marks area shown name now qs at c stack b d new
    end_get d m =
        let e = at_end (d ∷ ds) (GetEnd area shown b (name_of area f)) m in
        let k = made_grown M N marks name qs m.returns stack b h c m.p m.todo m.made now grown in
        let P = Made m.p b.fresh in
        let a = e.2.0 in
        let us = e.2.1 in
        let later = e.2.2 in
        let g = name_of area f in
        let are : AreCells name now k.0.look P (d ∷ ds) (term a us) = subst (AreCells name now k.0.look P (d ∷ ds)) e.2.3
        (cells_keep name h now m.made.look k.0.look P P k.1 (d ∷ ds) m.gathered m.are) in
        let given : AreCells name h m.made.look P (d ∷ ds) (term a us) = subst (AreCells name h m.made.look P (d ∷ ds)) e.2.3 m.are in
        let built = built_shown name h now f g named ds new own is (terms_kept name h now m.made.look P grown ds us given.1) k.0.look P us are.1 in
        let means : Means area (record { goals = m.after; shown = shown }) at m.p later b.goals = subst
        (λ q. Means area (record { goals = m.after; shown = shown }) at q later b.goals) e.1
        (subst (λ to. Means area (record { goals = m.after; shown = shown }) to m.q later b.goals) e.0 e.2.5) in
        record {
          unified = λ then' ts u size. record {
            p = m.p;
            todo = later;
            returns = m.returns;
            after = m.after;
            made = made_unified M N marks name qs m.returns stack b now c m.p m.todo k.0 a (Comp g us) d new are.0 built later e.2.4 then' ts u size;
            continues = m.continues;
            means = means;
            below = m.below;
            asked = m.asked;
          };
          refuted = made_refuted M N marks name qs m.returns stack b now c m.p m.todo k.0 a (Comp g us) d new are.0 built later e.2.4;
        }

    pub end_put : (r : ℕ) → Builds M N marks area shown name h qs 0 at c ds 0 stack b (PutEnd area shown b (name_of area f) r) → (c' : Registers)
        → IsWritten c (X r) new c' → Stands M N marks area shown name now qs at c' stack b
    end_put r m c' w =
        let e = at_end ds (PutEnd area shown b (name_of area f) r) m in
        let k = made_grown M N marks name qs m.returns stack b h c m.p m.todo m.made now grown in
        let P = Made m.p b.fresh in
        let t : Term = Comp (name_of area f) m.gathered in
        let are = cells_keep name h now m.made.look k.0.look P P k.1 ds m.gathered m.are in
        let built = built_shown name h now f (name_of area f) named ds new own is (terms_kept name h now m.made.look P grown ds m.gathered m.are) k.0.look P m.gathered are in
        let there : Means area (record { goals = m.after; shown = shown }) at (write m.p (X r) t) m.todo b.goals =
        subst (λ q. Means area (record { goals = m.after; shown = shown }) at (write q (X r) t) m.todo b.goals) e.1
        (subst (λ to. Means area (record { goals = m.after; shown = shown }) to (write m.q (X r) t) m.todo b.goals) e.0 e.2) in
        record {
          p = write m.p (X r) t;
          todo = m.todo;
          returns = m.returns;
          after = m.after;
          made = (made_write M N marks name qs m.returns stack b now c c' m.p m.todo k.0 (X r) t new built w).0;
          continues = m.continues;
          means = there;
          below = m.below;
          asked = m.asked;
        }
