-- The atoms of a heap stay among the first of a pool.
use Rattle.std.proofs.Common.{◌≡◌, ℕ, zero, suc, ◌<◌, Bool, true, false, ltb, refl, ap, sym, ◌∙◌, subst, arith, inl, inr, [], ◌∷◌, length, length-append}
use Rattle.std.specs.Prelude.{All}
use Rattle.std.proofs.lemmas.Bool.{cases_eq, ltb-true, lt-ltb}
use Rattle.fd_language.specs.Term.{Name, Term, Atom}
use Rattle.term_pool.specs.declared.AtomId.{AtomId}
use Rattle.heap_cells.specs.declared.Cell.{Cell}
use Rattle.heap_cells.specs.declared.Cell.TheVariants as cell
use Rattle.heap_cells.specs.Cells.{Slot, Compound, free, linked, bound, Cells, slot_at, with_slot, with_new_slot, with_compound}
use Rattle.heap_cells.specs.Terms.{Naming, within, depth, slot_term, term_of, Same}
use Rattle.heap_cells.specs.Atoms.{IsAtomBelow, HasAtomsBelow}
use Rattle.heap_cells.specs.HeapInvariant.{IsHeap}
use Rattle.heap_cells.proofs.Ranks.{term-Atom}
use Rattle.heap_cells.proofs.Bindings.{slot_there, slot_elsewhere}
use Rattle.heap_cells.proofs.HeapGrowth.{new_slot_at, at_part}

-- a naming that tells the first n atoms from the others
told_by : Bool → Name
told_by true = []
told_by false = 0 ∷ []

told : ℕ → Naming
told n a = told_by (ltb a.number n)

told_low : (n : ℕ) (a : AtomId) → a.number < n → told n a ≡ []
unfolding told told_by
told_low n a l = ap told_by (lt-ltb a.number n l)

told_back : (n : ℕ) (a : AtomId) → told n a ≡ [] → a.number < n
unfolding told told_by
told_back n a e = ltb-true a.number n (go (ltb a.number n) e)
  where
    go : (b : Bool) → told_by b ≡ [] → b ≡ true
    go true q = refl
    go false q = cc

-- a term that is an atom is one of the low ones
abbrev IsLow : Term → Type 0
IsLow t = (x : Name) → t ≡ Atom x → x ≡ []

slot_low : (by : Cell → Term) (i : ℕ) (s : Slot) → ((c : Cell) → s ≡ bound c → IsLow (by c)) → IsLow (slot_term by i s)
slot_low by i free h x e = cc
slot_low by i (linked k) h x e = cc
slot_low by i (bound c) h x e = h c refl x e

within_low : (n : ℕ) (h : Cells) → HasAtomsBelow n h → (k : ℕ) (c : Cell) → IsAtomBelow n c → IsLow (within (told n) h k c)
within_low n h a zero c b x e = let f : [] ≡ x = cc in sym f
within_low n h a (suc k) (cell.Ref i) b x e = slot_low (within (told n) h k) i (slot_at h i) (λ c q. within_low n h a k c (a.slots i c q)) x e
within_low n h a (suc k) (cell.Int z) b x e = cc
within_low n h a (suc k) (cell.Atom y) b x e = let f : told n y ≡ x = cc in sym f ∙ told_low n y b
within_low n h a (suc k) (cell.Struct j) b x e = cc

-- A cell that stands for an atom stands for one of the first.
pub seen_atom : (n : ℕ) (h : Cells) → IsHeap h → HasAtomsBelow n h → (c : Cell) → IsAtomBelow n c → (x : AtomId) → Same h c (cell.Atom x) → x.number < n
unfolding term_of
seen_atom n h v a c b x s = told_back n x (within_low n h a (depth h) c b (told n x) (s (told n) ∙ term-Atom (told n) h v x))

-- So does each cell that stands for the same term.
pub same_below : (n : ℕ) (h : Cells) → IsHeap h → HasAtomsBelow n h → (c d : Cell) → IsAtomBelow n c → Same h c d → IsAtomBelow n d
same_below n h v a c (cell.Ref i) b s = tt
same_below n h v a c (cell.Int z) b s = tt
same_below n h v a c (cell.Atom x) b s = seen_atom n h v a c b x s
same_below n h v a c (cell.Struct j) b s = tt

-- A variable that is bound to such a cell.
pub bound_below : (n : ℕ) (h : Cells) → HasAtomsBelow n h → (v : ℕ) (to : Cell) → v < length h.slots → IsAtomBelow n to → HasAtomsBelow n (with_slot h v (bound to))
bound_below n h a v to there b = record {
  slots = λ i c e. elim (cases_eq i v) [
    | inl q ↦ (let f : bound to ≡ bound c = sym (slot_there h v (bound to) there) ∙ ap (slot_at (with_slot h v (bound to))) (sym q) ∙ e in let g : to ≡ c = cc in subst (IsAtomBelow n) g b)
    | inr d ↦ a.slots i c (sym (slot_elsewhere h v i (bound to) d) ∙ e)
  ];
  names = a.names;
  args = a.args;
}

-- A variable of the store, and a new variable.
pub linked_below : (n : ℕ) (h : Cells) → HasAtomsBelow n h → (v k : ℕ) → v < length h.slots → HasAtomsBelow n (with_slot h v (linked k))
linked_below n h a v k there = record {
  slots = λ i c e. elim (cases_eq i v) [
    | inl q ↦ (let f : linked k ≡ bound c = sym (slot_there h v (linked k) there) ∙ ap (slot_at (with_slot h v (linked k))) (sym q) ∙ e in absurd cc)
    | inr d ↦ a.slots i c (sym (slot_elsewhere h v i (linked k) d) ∙ e)
  ];
  names = a.names;
  args = a.args;
}

pub new_below : (n : ℕ) (h : Cells) → HasAtomsBelow n h → HasAtomsBelow n (with_new_slot h)
new_below n h a = record {
  slots = λ i c e. a.slots i c (sym (new_slot_at h.slots i) ∙ e);
  names = a.names;
  args = a.args;
}

-- A new compound term.
pub compound_below : (n : ℕ) (h : Cells) → HasAtomsBelow n h → (k : Compound) → k.name.number < n → All (IsAtomBelow n) k.args → HasAtomsBelow n (with_compound h k)
compound_below n h a k f b = record {
  slots = a.slots;
  names = at_part h k (λ j d. j < length (with_compound h k).compounds → d.name.number < n) (λ j l m. a.names j l) (λ m. f) (λ j l m. absurd (omega (arith, length-append h.compounds (k ∷ []))));
  args = at_part h k (λ j d. All (IsAtomBelow n) d.args) (λ j l. a.args j) b (λ j l m d q. absurd (omega arith));
}
