-- A heap of open cells with given links.
use Rattle.std.proofs.Common.{◌≡◌, ℕ, zero, suc, ◌+◌, ◌<◌, ◌≤◌, pow_pos, List, [], ◌∷◌, length, Option, Some, None, slice_index_or, refl, ap, sym, ◌∙◌, inl}
use Rattle.std.proofs.Common.{inr, arith}
use Rattle.std.proofs.lemmas.Bool.{cases_lt}
use Rattle.heap_cells.specs.Cells.{Slot, free, linked, bound, Cells, slot_at}
use Rattle.heap_cells.specs.SeenTerms.{link_of, link_in}
use Rattle.heap_cells.specs.HeapInvariant.{IsHeap}
use Rattle.branch_meaning.proofs.Lemmas.{functions}
use Rattle.branch_lemmas.proofs.Lemmas.{slot_behind}

slot_by : Option ℕ → Slot
slot_by None = free
slot_by (Some k) = linked k

link_back : (o : Option ℕ) → link_of (slot_by o) ≡ o
unfolding slot_by
link_back None = refl
link_back (Some k) = refl

not_bound : (o : Option ℕ) (c : _) → slot_by o ≡ bound c → ⊥
unfolding slot_by
not_bound None c e = absurd (cc)
not_bound (Some k) c e = absurd (cc)

slots_from : (ℕ → Option ℕ) → ℕ → ℕ → List Slot
slots_from link i zero = []
slots_from link i (suc n) = slot_by (link i) ∷ slots_from link (suc i) n

long : (link : ℕ → Option ℕ) (i n : ℕ) → length (slots_from link i n) ≡ n
unfolding slots_from
long link i zero = refl
long link i (suc n) = ap suc (long link (suc i) n)

at_low : (link : ℕ → Option ℕ) (i n j : ℕ) → j < n → slice_index_or (slots_from link i n) j free ≡ slot_by (link (i + j))
unfolding slots_from
at_low link i zero j l = absurd (omega (arith, l))
at_low link i (suc n) zero l = let e : i ≡ i + 0 = omega arith in ap (λ k. slot_by (link k)) e
at_low link i (suc n) (suc j) l = let e : suc i + j ≡ i + suc j = omega arith in at_low link (suc i) n j (omega (arith, l)) ∙ ap (λ k. slot_by (link k)) e

pub heap_by : (ℕ → Option ℕ) → ℕ → Cells
heap_by link n = record { slots = slots_from link 0 n; compounds = [] }

pub heap_long : (link : ℕ → Option ℕ) (n : ℕ) → length (heap_by link n).slots ≡ n
unfolding heap_by
heap_long link n = long link 0 n

slot_is : (link : ℕ → Option ℕ) (n c : ℕ) → c < n → slot_at (heap_by link n) c ≡ slot_by (link c)
unfolding heap_by
slot_is link n c l = let e : 0 + c ≡ c = omega arith in at_low link 0 n c l ∙ ap (λ k. slot_by (link k)) e

slot_none : (link : ℕ → Option ℕ) (n c : ℕ) → n ≤ c → slot_at (heap_by link n) c ≡ free
slot_none link n c l = slot_behind (heap_by link n) c (let e = heap_long link n in omega (arith, e, l))

pub heap_links : (link : ℕ → Option ℕ) (n : ℕ) → ((c : ℕ) → n ≤ c → link c ≡ None) → link_in (heap_by link n) ≡ link
heap_links link n none = functions (λ c. elim (cases_lt c n) [
  | inl l ↦ ap link_of (slot_is link n c l) ∙ link_back (link c)
  | inr l ↦ ap link_of (slot_none link n c l) ∙ sym (none c l)
])

pub heap_valid : (link : ℕ → Option ℕ) (n : ℕ) → IsHeap (heap_by link n)
unfolding heap_by
heap_valid link n = record {
  slots = λ i c e. absurd (unbound i c e);
  parts = λ j k d l. absurd (omega (arith, l));
  ranked = ((λ c. 0), record { slots = λ i c e. absurd (unbound i c e); parts = λ j k d l. absurd (omega (arith, l)); low = λ c. search pow_pos });
}
  where
    unbound : (i : ℕ) (c : _) → slot_at (heap_by link n) i ≡ bound c → ⊥
    unbound i c e = elim (cases_lt i n) [
      | inl l ↦ not_bound (link i) c (sym (slot_is link n i l) ∙ e)
      | inr l ↦ absurd (let f : free ≡ bound c = sym (slot_none link n i l) ∙ e in cc)
    ]
