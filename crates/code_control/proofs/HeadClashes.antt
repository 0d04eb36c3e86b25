-- A clause whose head asks for another name, number or structure than is there has a branch without a model.
use Rattle.std.proofs.Common.{◌≡◌, ℕ, suc, false, List, ℤ, Some, replicate, Bor, refl, ap, sym, ◌∙◌, subst, inl, inr}
use Rattle.std.proofs.lemmas.Option.{same_Some}
use Rattle.fd_language.specs.declared.TheConstants.{INFINITY}
use Rattle.fd_language.specs.Term.{Term, Terms, Int, Atom, Comp, Substitution, apply, apply_all, term_count}
use Rattle.fd_model.specs.Goal.{Branch}
use Rattle.term_pool.specs.declared.AtomId.{AtomId}
use Rattle.heap_cells.specs.declared.Cell.{Cell}
use Rattle.heap_cells.specs.declared.Seen.{Seen}
use Rattle.heap_cells.specs.declared.Seen.TheVariants as seen
use Rattle.heap_cells.specs.Cells.{Cells}
use Rattle.heap_cells.specs.SeenCells.{IsSeen}
use Rattle.heap_cells.specs.Terms.{Naming, IsOneToOne, term_of, terms_by, compound_term}
use Rattle.heap_cells.specs.HeapInvariant.{IsHeap}
use Rattle.heap_cells.proofs.Lemmas.{term-Int, term-Atom, term-Struct}
use Rattle.branch_state.specs.States as branch
use Rattle.wam_code.specs.declared.instruction.Code.{Code}
use Rattle.wam_code.specs.declared.instruction.Code.TheVariants.{GetConstant, GetInteger, GetStructure, Allocate}
use Rattle.wam_code.specs.declared.instruction.Key.{Key}
use Rattle.wam_code.specs.declared.instruction.Key.TheVariants as key
use Rattle.wam_code.specs.declared.parts.Entry.{Entry}
use Rattle.wam_code.specs.Area.{Area, Holds, name_of}
use Rattle.code_areas.specs.Areas.{nothing_held, cell_at, Contents}
use Rattle.code_meaning.specs.ClauseChoices.{IsFirst}
use Rattle.code_meaning.proofs.Lemmas.{count_terms, step_get_structure, step_allocate, step_enter, count_applied}
use Rattle.code_safety.specs.Machine.{registers_of, stack_of}
use Rattle.code_safety.specs.Safety.{IsSafe}
use Rattle.code_safety.specs.RepresentedBranch.{IsNaming, HasNoModel, StandsForBranch}
use Rattle.code_safety.proofs.Lemmas.{get_constant_stands, get_integer_stands}
use Rattle.code_control.specs.ClauseSelection.{AsksHere, Asks, Meets, IsRuledOut, AreGone, TriesAt}
use Rattle.code_control.proofs.Threads.{allocate_safe, sound_below}

-- ---- terms that can't be equal

module _ (name : Naming) (apart : IsOneToOne name) (h : Cells) (valid : IsHeap h) (d : Cell) (u : Substitution) where
  abbrev t : Term
  t = term_of name h d

  there_integer : (z : ℤ) → IsSeen h d (seen.Int z) → apply u t ≡ Int z
  there_integer z e = ap (apply u) (e name ∙ term-Int name h valid z)

  there_atom : (a : AtomId) → IsSeen h d (seen.Atom a) → apply u t ≡ Atom (name a)
  there_atom a e = ap (apply u) (e name ∙ term-Atom name h valid a)

  there_structure : (f : AtomId) (args : Bor (List Cell)) → IsSeen h d (seen.Struct f args) → apply u t ≡ Comp (name f) (apply_all u (terms_by (term_of name h) args.now))
  there_structure f args e = ap (apply u) (e.3 name ∙ term-Struct name h valid e.0 ∙ ap (compound_term name (term_of name h)) e.2)

  no_atom : (i : AtomId) (x : Seen) → IsSeen h d x → (Meets x (key.Atom i) → ⊥) → apply u t ≡ Atom (name i) → ⊥
  no_atom i (seen.Open v) e un q = un tt
  no_atom i (seen.Constrained v j) e un q = un tt
  no_atom i (seen.Int z) e un q = let w : Int z ≡ Atom (name i) = sym (there_integer z e) ∙ q in absurd (cc)
  no_atom i (seen.Atom a) e un q = let w : Atom (name a) ≡ Atom (name i) = sym (there_atom a e) ∙ q in un (apart i a (let k : name i ≡ name a = cc in k))
  no_atom i (seen.Struct g args) e un q = let w : Comp (name g) (apply_all u (terms_by (term_of name h) args.now)) ≡ Atom (name i) = sym (there_structure g args e) ∙ q in absurd (cc)

  no_integer : (y : ℤ) (x : Seen) → IsSeen h d x → (Meets x (key.Int y) → ⊥) → apply u t ≡ Int y → ⊥
  no_integer y (seen.Open v) e un q = un tt
  no_integer y (seen.Constrained v j) e un q = un tt
  no_integer y (seen.Int z) e un q = let w : Int z ≡ Int y = sym (there_integer z e) ∙ q in un (let k : y ≡ z = cc in k)
  no_integer y (seen.Atom a) e un q = let w : Atom (name a) ≡ Int y = sym (there_atom a e) ∙ q in absurd (cc)
  no_integer y (seen.Struct g args) e un q = let w : Comp (name g) (apply_all u (terms_by (term_of name h) args.now)) ≡ Int y = sym (there_structure g args e) ∙ q in absurd (cc)

  no_structure : (f : AtomId) (n : ℕ) (us : Terms) → term_count us ≡ n → (x : Seen) → IsSeen h d x → (Meets x (key.Struct f n) → ⊥) → apply u t ≡ Comp (name f) us → ⊥
  no_structure f n us size (seen.Open v) e un q = un tt
  no_structure f n us size (seen.Constrained v j) e un q = un tt
  no_structure f n us size (seen.Int z) e un q = let w : Int z ≡ Comp (name f) us = sym (there_integer z e) ∙ q in absurd (cc)
  no_structure f n us size (seen.Atom a) e un q = let w : Atom (name a) ≡ Comp (name f) us = sym (there_atom a e) ∙ q in absurd (cc)
  no_structure f n us size (seen.Struct g args) e un q =
      let w : Comp (name g) (apply_all u (terms_by (term_of name h) args.now)) ≡ Comp (name f) us = sym (there_structure g args e) ∙ q in
      let parts : apply_all u (terms_by (term_of name h) args.now) ≡ us = cc in
      un (apart f g (let k : name f ≡ name g = cc in k), sym size ∙ sym (ap term_count parts) ∙ count_applied u (terms_by (term_of name h) args.now) ∙ count_terms (term_of name h) args.now)

-- ---- a clause's branch

-- at the place that asks
module _ (area : Area) (s : branch.State) (at : ℕ) (c : Contents) (safe : IsSafe area s at 0 c) (d : Cell) (x : Seen) (e : IsSeen s.heaps.now d x)
    (marks : List ℕ) (shown : List ℕ) (name : Naming) (b : Branch) (naming : IsNaming area name)
    (m : StandsForBranch s.infinity marks area shown name s at c b) where
  asked_none : (a : ℕ) (k : Key) → AsksHere area at a k → cell_at c.registers a ≡ Some d → (Meets x k → ⊥) → HasNoModel s.infinity b
  asked_none a (key.Atom i) f there un =
      get_constant_stands area s at c safe i a f d there s false (
        inl (λ name' apart u k. absurd (no_atom name' apart s.heaps.now safe.sound.now.valid d u i x e un
            (k.0 ∙ ap (apply u) (term-Atom name' s.heaps.now safe.sound.now.valid i)))),
        sound_below s safe.sound,
      )
      s.infinity safe.sound.greatest.1 marks shown name b naming m
  asked_none a (key.Int z) f there un =
      get_integer_stands area s at c safe z a f d there s false (
        inl (λ name' apart u k. absurd (no_integer name' apart s.heaps.now safe.sound.now.valid d u z x e un
            (k.0 ∙ ap (apply u) (term-Int name' s.heaps.now safe.sound.now.valid z)))),
        sound_below s safe.sound,
      )
      s.infinity safe.sound.greatest.1 marks shown name b naming m
  asked_none a (key.Struct g n) f there un =
      let k = step_get_structure INFINITY s.infinity marks area shown name s.heaps.now s.levels.current.posted at (registers_of c) (stack_of c) b m g n a f in
      let mine : k.0 ≡ d = same_Some k.0 d (sym k.1 ∙ there) in
      let named : name g ≡ name_of area g = naming.same g (safe.verified.there at (GetStructure g n a) f) in
      k.4 (λ u us size q. absurd (no_structure name naming.apart s.heaps.now safe.sound.now.valid d u g n us size x e un
      (ap (λ y. apply u (term_of name s.heaps.now y)) (sym mine) ∙ q ∙ ap (λ y. Comp y us) (sym named))))

module _ (area : Area) (s : branch.State) (at : ℕ) (c : Contents) (safe : IsSafe area s at 0 c) (out : IsRuledOut area s at c) where
  none_by : Asks area at out.argument out.wanted → (marks : List ℕ) (shown : List ℕ) (name : Naming) (b : Branch) → IsNaming area name
      → StandsForBranch s.infinity marks area shown name s at c b → HasNoModel s.infinity b
  none_by (inl f) marks shown name b naming m = asked_none area s at c safe out.so.cell out.so.shown out.so.is_seen marks shown name b naming m out.argument out.wanted f out.so.there out.so.so
  none_by (inr k) marks shown name b naming m =
      let framed : Contents = record c { slots = replicate k.0 nothing_held } in
      asked_none area s (suc at) framed (allocate_safe area s at c safe k.0 k.1) out.so.cell out.so.shown out.so.is_seen marks shown name b naming
      (step_allocate INFINITY s.infinity marks area shown name s.heaps.now s.levels.current.posted at (registers_of c) (stack_of c) b m k.0 k.1
      (registers_of framed) (λ n. refl) refl) out.argument out.wanted k.2 out.so.there out.so.so

  -- Each branch of the clause has no model.
  first_of : (a : ℕ) (k : Key) → AsksHere area at a k → (i : Code) × IsFirst i × Holds area at i
  first_of a (key.Atom i) f = (GetConstant i a, tt, f)
  first_of a (key.Int z) f = (GetInteger z a, tt, f)
  first_of a (key.Struct g n) f = (GetStructure g n a, tt, f)

  begins : Asks area at out.argument out.wanted → (i : Code) × IsFirst i × Holds area at i
  begins (inl f) = first_of out.argument out.wanted f
  begins (inr k) = (Allocate k.0, tt, k.1)

  -- A clause that is ruled out has no branch with a model.
  pub ruled_out_gone : (marks : List ℕ) (shown : List ℕ) (name : Naming) → IsNaming area name → (e : Entry) (b : Branch) (kids : List Branch)
      → TriesAt marks area shown name s at c e b kids → AreGone s.infinity kids
  ruled_out_gone marks shown name naming e b kids m =
      let i = begins out.asks in
      let k = step_enter INFINITY s.infinity marks area shown name s.heaps.now s.levels.current.posted at e (registers_of c) (stack_of c) b kids m i.0 i.1 i.2 (registers_of c) (λ n. refl) refl in
      subst (AreGone s.infinity) (sym k.1) (none_by out.asks marks shown name k.0 naming k.2, tt)
