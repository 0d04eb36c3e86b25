-- Registers and continuations on a heap that changes.
use Rattle.std.proofs.Common.{◌≡◌, ℕ, ◌≤◌, List, [], ◌∷◌, Option, ap, sym, ◌∙◌, subst, inl, inr, arith}
use Rattle.std.proofs.lemmas.Bool.{cases_eq}
use Rattle.std.proofs.lemmas.Option.{same_Some}
use Rattle.fd_language.specs.Term.{Term, Substitution, apply}
use Rattle.heap_cells.specs.declared.Cell.{Cell}
use Rattle.heap_cells.specs.Cells.{Cells, IsOf}
use Rattle.heap_cells.specs.Terms.{Naming, term_of}
use Rattle.branch_meaning.specs.Heap.{Of}
use Rattle.branch_meaning.proofs.Lemmas.{more_of}
use Rattle.wam_code.specs.Places.{put_at}
use Rattle.wam_code.specs.CodeMeaning.{Return}
use Rattle.wam_code.proofs.Lemmas.{put_here, put_else}
use Rattle.code_meaning.specs.Registers.{Saved, IsPut, AreSame, IsShown, AreShown, AllShown}

-- the cells of known terms stay, or move with the heap
module _ (name : Naming) (h now : Cells) (look look' : Substitution) (P Q : ℕ → Type 0) (wider : (x : ℕ) → P x → Q x)
    (moves : (t : Term) (d : Cell) → Of P t → IsOf h d → apply look t ≡ term_of name h d → IsOf now d × (apply look' t ≡ term_of name now d)) where
  pub one_moved : (t : Term) (d : Cell) → IsShown name h look P t d → IsShown name now look' Q t d
  one_moved t d s = let k = moves t d s.known s.own s.value in record { known = more_of P Q wider t s.known; own = k.0; value = k.1 }

  pub shown_moved : (r : ℕ → Option Term) (c : ℕ → Option Cell) → AreShown name h look P r c → AreShown name now look' Q r c
  shown_moved r c s n t e = let w = s n t e in (w.0, w.1, one_moved t w.0 w.2)

  pub all_moved : (fresh more : ℕ) → fresh ≤ more → (rs : List Return) (ss : List Saved) → AllShown name h look P fresh rs ss → AllShown name now look' Q more rs ss
  all_moved fresh more l [] [] a = tt
  all_moved fresh more l (r ∷ rs) [] a = a
  all_moved fresh more l [] (s ∷ ss) a = a
  all_moved fresh more l (r ∷ rs) (s ∷ ss) a = (a.0, (let k = a.1 in omega (arith, k, l)), shown_moved r.slots s.slots a.2, all_moved fresh more l rs ss a.3)

module _ (name : Naming) (h : Cells) (look : Substitution) (P : ℕ → Type 0) where
  -- the same cells
  pub shown_same : (r : ℕ → Option Term) (c c' : ℕ → Option Cell) → AreSame c c' → AreShown name h look P r c → AreShown name h look P r c'
  shown_same r c c' i s n t e = let w = s n t e in (w.0, i n ∙ w.1, w.2)

  -- one more term and its cell
  pub shown_put : (r : ℕ → Option Term) (c c' : ℕ → Option Cell) (i : ℕ) (t : Term) (d : Cell) → IsShown name h look P t d → IsPut c i d c'
      → AreShown name h look P r c → AreShown name h look P (put_at i t r) c'
  shown_put r c c' i t d one put s n u e = elim (cases_eq n i) [
    | inl k ↦
        let same : t ≡ u = same_Some t u (sym (put_here i t r) ∙ ap (put_at i t r) (sym k) ∙ e) in
        (d, ap c' k ∙ put.here, subst (λ v. IsShown name h look P v d) same one)
    | inr k ↦ let w = s n u (sym (put_else i t r n k) ∙ e) in (w.0, put.else n k ∙ w.1, w.2)
  ]
