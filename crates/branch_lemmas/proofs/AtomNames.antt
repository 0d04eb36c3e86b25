-- The names of a pool, with others for the atoms that aren't there, are one to one; and a heap with atoms of the pool alone has the same terms by both.
use Rattle.std.proofs.Common.{◌≡◌, ℕ, zero, suc, ◌+◌, ◌<◌, ◌≤◌, true, false, cond, nat_lt, List, [], length, sum_by, refl, ap, sym, ◌∙◌, inl, inr, arith}
use Rattle.std.specs.Prelude.{All}
use Rattle.std.proofs.lemmas.Bool.{cases_Bool}
use Rattle.std.proofs.lemmas.Bool.Decides.{nat_tests}
use Rattle.std.proofs.lemmas.Option.{unwrap_or-slice_get}
use Rattle.std.proofs.lemmas.List.Sums.{get_or-le-sum_by}
use Rattle.fd_language.specs.Term.{Name, Atom, Comp}
use Rattle.fd_language.proofs.Lemmas.{two}
use Rattle.term_pool.specs.declared.AtomId.{AtomId}
use Rattle.term_pool.specs.Contents.{name_in}
use Rattle.term_pool.specs.PoolInvariant.{AreDistinct}
use Rattle.heap_cells.specs.declared.Cell.{Cell}
use Rattle.heap_cells.specs.declared.Cell.TheVariants as cell
use Rattle.heap_cells.specs.Atoms.{IsAtomBelow, HasAtomsBelow}
use Rattle.heap_cells.specs.Cells.{Cells, IsOf, slot_at, compound_at}
use Rattle.heap_cells.specs.Terms.{IsOneToOne, within, depth, term_of}
use Rattle.heap_cells.specs.HeapInvariant.{IsHeap}
use Rattle.heap_cells.proofs.Lemmas.{terms_agree, slot_agrees}
use Rattle.branch_lemmas.specs.AtomNames.{zeros, full}

length_zeros : (n : ℕ) → length (zeros n) ≡ n
length_zeros zero = refl
length_zeros (suc n) = ap suc (length_zeros n)

module _ (names : List Name) where
  name_low : (a : AtomId) → a.number < length names → length (name_in names a) ≤ sum_by length names
  name_low a l = let e = ap length (unwrap_or-slice_get names a.number []) in let b = get_or-le-sum_by length names a.number [] l in omega (arith, e, b)

  -- an atom of the pool has its name
  pub full_own : (a : AtomId) → a.number < length names → full names a ≡ name_in names a
  full_own a l = let t : nat_lt a.number (length names) ≡ true = grind (arith, nat_tests) in ap (λ b. cond b (name_in names a) (zeros (suc (sum_by length names + a.number)))) t

  full_else : (a : AtomId) → length names ≤ a.number → full names a ≡ zeros (suc (sum_by length names + a.number))
  full_else a l = let t : nat_lt a.number (length names) ≡ false = grind (arith, nat_tests) in ap (λ b. cond b (name_in names a) (zeros (suc (sum_by length names + a.number)))) t

  apart : (a b : AtomId) → a.number < length names → length names ≤ b.number → full names a ≡ full names b → ⊥
  apart a b l u e =
      let n = name_low a l in
      let m = ap length (sym (full_own a l) ∙ e ∙ full_else b u) in
      let z = length_zeros (suc (sum_by length names + b.number)) in
      omega (arith, n, m, z)

  same_atom : (a b : AtomId) → a.number ≡ b.number → a ≡ b
  same_atom a b e = ap (λ n. record { number = n }) e

  -- no two atoms have one name
  pub full_one : AreDistinct names → IsOneToOne (full names)
  full_one distinct a b e = elim (cases_Bool (nat_lt a.number (length names))) [
    | inl s ↦
        let l : a.number < length names = grind (arith, nat_tests) in
        elim (cases_Bool (nat_lt b.number (length names))) [
          | inl t ↦ let u : b.number < length names = grind (arith, nat_tests) in distinct a b l u (sym (full_own a l) ∙ e ∙ full_own b u)
          | inr t ↦ let u : length names ≤ b.number = grind (arith, nat_tests) in absurd (apart a b l u e)
        ]
    | inr s ↦
        let l : length names ≤ a.number = grind (arith, nat_tests) in
        elim (cases_Bool (nat_lt b.number (length names))) [
          | inl t ↦ let u : b.number < length names = grind (arith, nat_tests) in absurd (apart b a u l (sym e))
          | inr t ↦
              let u : length names ≤ b.number = grind (arith, nat_tests) in
              let m = ap length (sym (full_else a l) ∙ e ∙ full_else b u) in
              let y = length_zeros (suc (sum_by length names + a.number)) in
              let z = length_zeros (suc (sum_by length names + b.number)) in
              same_atom a b (omega (arith, m, y, z))
        ]
  ]

  module _ (h : Cells) (valid : IsHeap h) (atoms : HasAtomsBelow (length names) h) where
    abbrev Low : Cell → Type 0
    Low c = IsOf h c × IsAtomBelow (length names) c

    within_full : (n : ℕ) (c : Cell) → IsOf h c → IsAtomBelow (length names) c → within (full names) h n c ≡ within (name_in names) h n c
    within_full zero c o b = refl
    within_full (suc n) (cell.Ref i) o b = slot_agrees (within (full names) h n) (within (name_in names) h n) i (slot_at h i) (λ c e. within_full n c (valid.slots i c e) (atoms.slots i c e))
    within_full (suc n) (cell.Int z) o b = refl
    within_full (suc n) (cell.Atom a) o b = ap Atom (full_own a b)
    within_full (suc n) (cell.Struct j) o b =
        two Comp (full_own (compound_at h j).name (atoms.names j o))
        (terms_agree Low (within (full names) h n) (within (name_in names) h n) (λ c k. within_full n c k.0 k.1) (compound_at h j).args
        (both_low (compound_at h j).args (valid.parts j) (atoms.args j)))
      where
        both_low : (cs : List Cell) → All (IsOf h) cs → All (IsAtomBelow (length names)) cs → All Low cs
        both_low cs a b = λ k d l. (a k d l, b k d l)

    -- terms by these names are those by the pool's names
    pub full_term : (c : Cell) → IsOf h c → IsAtomBelow (length names) c → term_of (full names) h c ≡ term_of (name_in names) h c
    unfolding term_of
    full_term c o b = within_full (depth h) c o b
