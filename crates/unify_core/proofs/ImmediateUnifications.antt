-- Unifications that one look decides.
use Rattle.std.proofs.Common.{◌≡◌, ℕ, ℤ, ◌<◌, ◌==◌, Bool, true, false, Ok, List, length, refl, ap, sym, ◌∙◌, inl, [], eqb-true, eq-eqb}
use Rattle.std.proofs.lemmas.Bool.{false≢true}
use Rattle.term_pool.specs.declared.AtomId.{AtomId}
use Rattle.fd_language.specs.declared.NoMemory.{NoMemory}
use Rattle.heap_cells.specs.declared.Cell.{Cell}
use Rattle.heap_cells.specs.declared.Cell.TheVariants as cell
use Rattle.heap_cells.specs.declared.Seen.TheVariants as seen
use Rattle.heap_cells.specs.Cells.{Cells, free, is_bound, slot_at, IsOf}
use Rattle.heap_cells.specs.Terms.{term_of, Same}
use Rattle.heap_cells.specs.HeapInvariant.{IsHeap}
use Rattle.unify_core.specs.declared.Touch.{Touch}
use Rattle.unify_core.specs.Outcome.{IsBinding, IfTrue, IfFalse}
use Rattle.unify_core.specs.Unifications.{CannotUnify, IsEqualled}
use Rattle.unify_core.proofs.PairReduction.{done_same}
use Rattle.unify_core.proofs.PairSteps.{open_done, constant_else}
use Rattle.unify_core.proofs.Unifications.{start, IsBehind, behind_first, behind_further, equalled, under_way_first, none_unified}

-- an open variable on the left that was bound to what the right side comes to
pub left_bound : (old now : Cells) → IsHeap old → (a b to : Cell) (v : ℕ) (ts : List Touch) → IsOf old a → IsOf old b → v < length old.slots
    → slot_at old v ≡ free → Same old a (cell.Ref v) → IsOf old to → Same old b to → IsBinding old v to now → IsBehind old a b now [] ts ts
left_bound old now valid a b to v ts p q there open_now s own t w =
    behind_further old old now a b (start a b) [] ts ts ts (behind_first old a b [] ts refl p q)
    (open_done old valid [] (record { left = a; right = b }) ts v to there own (ap is_bound open_now) (inl (s, t)) now open_now w)

-- two cells that come to constants
module _ (h : Cells) (valid : IsHeap h) (a b : Cell) (p : IsOf h a) (q : IsOf h b) where
  same_constants : (left right : Cell) (ts : List Touch) → Same h a left → Same h b right → left ≡ right → IsEqualled h a b h ts ts
  same_constants left right ts s t e =
      equalled h h a b [] ts ts refl (behind_further h h h a b (start a b) [] ts ts ts (behind_first h a b [] ts refl p q)
      (done_same h [] (record { left = a; right = b }) ts (λ name. s name ∙ ap (term_of name h) e ∙ sym (t name))))

  other_integers : (x y : ℤ) → Same h a (cell.Int x) → Same h b (cell.Int y) → (x ≡ y → ⊥) → CannotUnify h a b
  other_integers x y s t n = none_unified h h a b (start a b) [] (under_way_first h a b p q)
      (constant_else h valid [] (record { left = a; right = b }) (cell.Int x) (cell.Int y) s t (seen.Int x) (seen.Int y) refl (λ name. refl) refl
      (λ i. n (let k : x ≡ y = cc in k)) (λ i j. cc) (λ i k j. cc) (λ f cs j. cc) (λ i j. cc) (λ i k j. cc))

  other_atoms : (x y : AtomId) → Same h a (cell.Atom x) → Same h b (cell.Atom y) → (x ≡ y → ⊥) → CannotUnify h a b
  other_atoms x y s t n = none_unified h h a b (start a b) [] (under_way_first h a b p q)
      (constant_else h valid [] (record { left = a; right = b }) (cell.Atom x) (cell.Atom y) s t (seen.Atom x) (seen.Atom y) refl (λ name. refl) refl
      (λ i. n (let k : x ≡ y = cc in k)) (λ i j. cc) (λ i k j. cc) (λ f cs j. cc) (λ i j. cc) (λ i k j. cc))

  pub integers_true : (x y : ℤ) (equal : Bool) (ts : List Touch) → (equal ≡ true → x ≡ y) → Same h a (cell.Int x) → Same h b (cell.Int y) → IfTrue {E = NoMemory} (Ok equal) (IsEqualled h a b h ts ts)
  integers_true x y true ts f s t = same_constants (cell.Int x) (cell.Int y) ts s t (ap cell.Int (f refl))
  integers_true x y false ts f s t = tt

  pub integers_false : (x y : ℤ) (equal : Bool) → (equal ≡ false → x ≡ y → ⊥) → Same h a (cell.Int x) → Same h b (cell.Int y) → IfFalse {E = NoMemory} (Ok equal) (CannotUnify h a b)
  integers_false x y true f s t = tt
  integers_false x y false f s t = other_integers x y s t (f refl)

  pub atoms_true : (x y : AtomId) (equal : Bool) (ts : List Touch) → equal ≡ (x.number == y.number) → Same h a (cell.Atom x) → Same h b (cell.Atom y)
      → IfTrue {E = NoMemory} (Ok equal) (IsEqualled h a b h ts ts)
  atoms_true x y true ts e s t = same_constants (cell.Atom x) (cell.Atom y) ts s t (let q : x.number ≡ y.number = eqb-true x.number y.number (sym e) in
      ap (λ k. let f : AtomId = record { number = k } in cell.Atom f) q)
  atoms_true x y false ts e s t = tt

  pub atoms_false : (x y : AtomId) (equal : Bool) → equal ≡ (x.number == y.number) → Same h a (cell.Atom x) → Same h b (cell.Atom y) → IfFalse {E = NoMemory} (Ok equal) (CannotUnify h a b)
  atoms_false x y true e s t = tt
  atoms_false x y false e s t = other_atoms x y s t (λ q. false≢true (e ∙ eq-eqb x.number y.number (ap (λ (f : AtomId). f.number) q)))
