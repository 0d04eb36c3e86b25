-- What the steps of the walk that reads a cell back come to.
use Rattle.std.proofs.Common.{◌≡◌, ℕ, ℤ, ◌<◌, refl, ap, sym, ◌∙◌, subst, inl, inr, List, [], ◌∷◌, ◌++◌, length}
use Rattle.std.specs.Prelude.{All, map, reverse}
use Rattle.fd_language.specs.SingleValues.{value_in}
use Rattle.fd_language.specs.Term.{Name, Term, Var, Int, Atom}
use Rattle.term_pool.specs.declared.AtomId.{AtomId}
use Rattle.term_pool.specs.declared.TermId.{TermId}
use Rattle.term_pool.specs.Contents.{Contents, name_in}
use Rattle.heap_cells.specs.declared.Cell.{Cell}
use Rattle.heap_cells.specs.declared.Cell.TheVariants as cell
use Rattle.heap_cells.specs.Cells.{Cells, Compound, free, linked, slot_at, compound_at, IsOf}
use Rattle.heap_cells.specs.Terms.{Naming, Same}
use Rattle.heap_cells.specs.Atoms.{HasAtomsBelow, IsAtomBelow}
use Rattle.heap_cells.specs.SeenTerms.{seen_term}
use Rattle.heap_cells.specs.HeapInvariant.{IsHeap}
use Rattle.heap_cells.proofs.Lemmas.{shown_atom, shown_compound, shown_free, shown_int, shown_linked}
use Rattle.domain_ranges.specs.Views.{family_of}
use Rattle.heap_terms.specs.declared.ReadTask.{ReadTask}
use Rattle.heap_terms.specs.declared.ReadTask.TheVariants.{Visit, Make}
use Rattle.heap_terms.specs.CellReads.{AddsTerm, VisitsCell}

module _ (names : List Name) (h : Cells) (valid : IsHeap h) (sets : List (List ℕ)) (c : Cell) (ks : List ReadTask) (ds : List TermId) where
  abbrev name : Naming
  name = name_in names

  read_leaf : (p : Contents) (es : List TermId) (x : Term) → x ≡ seen_term name h (family_of sets) c → AddsTerm x ds p es → VisitsCell names h sets c ks ds p ks es
  read_leaf p es x e a = inl (refl, (a.0, a.1, a.2 ∙ e, a.3))

  pub read_var : (p : Contents) (es : List TermId) (i : ℕ) → slot_at h i ≡ free → Same h c (cell.Ref i) → AddsTerm (Var i) ds p es → VisitsCell names h sets c ks ds p ks es
  read_var p es i u s a = read_leaf p es (Var i) (sym (shown_free name h valid (family_of sets) c i u s)) a

  -- a variable of the store, with its only value or several
  pub read_linked : (p : Contents) (es : List TermId) (i k : ℕ) (xs : List ℕ) → slot_at h i ≡ linked k → Same h c (cell.Ref i) → xs ≡ family_of sets k
      → AddsTerm (value_in xs i) ds p es → VisitsCell names h sets c ks ds p ks es
  read_linked p es i k xs u s e a = read_leaf p es (value_in xs i) (ap (λ v. value_in v i) e ∙ sym (shown_linked name h valid (family_of sets) c i k u s)) a

  pub read_int : (p : Contents) (es : List TermId) (z : ℤ) → Same h c (cell.Int z) → AddsTerm (Int z) ds p es → VisitsCell names h sets c ks ds p ks es
  read_int p es z s a = read_leaf p es (Int z) (sym (shown_int name h valid (family_of sets) c z s)) a

  pub read_atom : (p : Contents) (es : List TermId) (a : AtomId) (n : Name) → n ≡ name_in names a → Same h c (cell.Atom a) → AddsTerm (Atom n) ds p es → VisitsCell names h sets c ks ds p ks es
  read_atom p es a n e s x = read_leaf p es (Atom n) (ap Atom e ∙ sym (shown_atom name h valid (family_of sets) c a s)) x

  pub read_compound : HasAtomsBelow (length names) h → (p : Contents) (ms : List ReadTask) (f : AtomId) (args : List Cell) (j : ℕ) → j < length h.compounds
      → compound_at h j ≡ record { name = f; args = args } → Same h c (cell.Struct j) → ms ≡ (ks ++ Make f (length args) ∷ []) ++ reverse (map Visit args)
      → VisitsCell names h sets c ks ds p ms ds
  read_compound a p ms f args j l e s m = inr (
    f,
    args,
    shown_compound name h valid (family_of sets) c f args j e s,
    subst (λ (k : Compound). k.name.number < length names) e (a.names j l),
    subst (λ (k : Compound). All (IsOf h) k.args) e (valid.parts j),
    subst (λ (k : Compound). All (IsAtomBelow (length names)) k.args) e (a.args j),
    m,
    refl,
  )
