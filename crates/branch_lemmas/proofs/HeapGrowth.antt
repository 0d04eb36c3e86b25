-- Heaps that grow while terms are built, and heaps whose variables become variables of the store.
use Rattle.std.proofs.Common.{◌≡◌, ◌≢◌, ℕ, ◌<◌, List, [], ◌∷◌, length, Some, refl, ap, sym, ◌∙◌, inl, inr, arith, length-append, length-set}
use Rattle.std.proofs.lemmas.Bool.{cases_eq}
use Rattle.std.proofs.lemmas.Option.{none-some, same_Some}
use Rattle.heap_cells.specs.declared.Cell.{Cell}
use Rattle.heap_cells.specs.Cells.{free, linked, Cells, slot_at, IsOf, with_slot, with_new_slot}
use Rattle.heap_cells.specs.HeapInvariant.{IsHeap}
use Rattle.heap_cells.proofs.Lemmas.{slot_there, slot_elsewhere, of_same, new_slot_at, var_kept, link_valid, link_kept}
use Rattle.branch_lemmas.specs.Frames.{link_of, link_in, IsGrown}
use Rattle.branch_lemmas.proofs.GrownCells.{of_grown}
use Rattle.branch_lemmas.specs.Posting.{IsLinkedMore}

pub grown_same : (h : Cells) → IsGrown h h
grown_same h = record { slots = λ i. refl; longer = omega arith; parts = omega arith; terms = λ name c o. refl }

pub grown_both : (old mid now : Cells) → IsGrown old mid → IsGrown mid now → IsGrown old now
grown_both old mid now f g = record {
  slots = λ i. g.slots i ∙ f.slots i;
  longer = (let a = f.longer in let b = g.longer in omega (arith, a, b));
  parts = (let a = f.parts in let b = g.parts in omega (arith, a, b));
  terms = λ name c o. g.terms name c (of_grown old mid f c o) ∙ f.terms name c o;
}

-- a new variable
pub grown_var : (h : Cells) → IsHeap h → IsGrown h (with_new_slot h)
grown_var h valid = record {
  slots = λ i. new_slot_at h.slots i;
  longer = omega (arith, length-append h.slots (free ∷ []));
  parts = omega arith;
  terms = var_kept h valid;
}

pub linked_none : (h : Cells) → IsHeap h → ((c d k : ℕ) → link_in h c ≡ Some k → link_in h d ≡ Some k → c ≡ d) → IsLinkedMore h h []
linked_none h valid one = record { valid = valid; size = refl; parts = refl; terms = λ name c o. refl; keep = λ c k e. e; new = λ c k e. inl e; one = one }

-- one more open variable becomes a variable of the store that no other one is
pub linked_next : (h now : Cells) (more : List (ℕ × ℕ)) → IsLinkedMore h now more → (i k : ℕ) → i < length now.slots → slot_at now i ≡ free
    → ((c : ℕ) → link_in now c ≡ Some k → ⊥) → IsLinkedMore h (with_slot now i (linked k)) ((i, k) ∷ more)
linked_next h now more l i k there open_now unused =
    let next = with_slot now i (linked k) in
    let here : link_in next i ≡ Some k = ap link_of (slot_there now i (linked k) there) in
    let else : (c : ℕ) → c ≢ i → link_in next c ≡ link_in now c = λ c d. ap link_of (slot_elsewhere now i c (linked k) d) in
    let size : length next.slots ≡ length now.slots = length-set now.slots i (linked k) in
    let own : (c : Cell) → IsOf h c → IsOf now c = λ c o. of_same h now c (sym l.size) (sym (ap length l.parts)) o in
    record {
      valid = link_valid now l.valid i k there open_now;
      size = size ∙ l.size;
      parts = l.parts;
      terms = λ name c o. link_kept now l.valid i k there open_now name c (own c o) ∙ l.terms name c o;
      keep = λ c j e. elim (cases_eq c i) [
        | inl s ↦ absurd (none-some j (sym (ap link_of (ap (slot_at now) s ∙ open_now)) ∙ l.keep c j e))
        | inr d ↦ else c d ∙ l.keep c j e
      ];
      new = λ c j e. elim (cases_eq c i) [
        | inl s ↦ inr (inl (s, same_Some j k (sym e ∙ ap (link_in next) s ∙ here)))
        | inr d ↦ elim (l.new c j (sym (else c d) ∙ e)) [ inl a ↦ inl a | inr a ↦ inr (inr a) ]
      ];
      one = λ c d j e f. elim (cases_eq c i) [
        | inl s ↦ elim (cases_eq d i) [
          | inl t ↦ s ∙ sym t
          | inr t ↦ absurd (unused d (sym (else d t) ∙ f ∙ ap Some (same_Some j k (sym e ∙ ap (link_in next) s ∙ here))))
        ]
        | inr s ↦ elim (cases_eq d i) [
          | inl t ↦ absurd (unused c (sym (else c s) ∙ e ∙ ap Some (same_Some j k (sym f ∙ ap (link_in next) t ∙ here))))
          | inr t ↦ l.one c d j (sym (else c s) ∙ e) (sym (else d t) ∙ f)
        ]
      ];
    }
