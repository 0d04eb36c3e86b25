-- The values of a variable of the heap that a labelling takes.
use Rattle.std.proofs.Common.{◌≡◌, ℕ, suc, ◌+◌, ◌-◌, ◌≤◌, ◌==◌, ℤ, [], ◌∷◌, ◌++◌, append-nil, Some, None, refl}
use Rattle.std.proofs.Common.{ap, sym, ◌∙◌, arith}
use Rattle.domain_ranges.specs.Spans.{members}
use Rattle.fd_language.specs.Family.{count_up, universe}
use Rattle.fd_language.specs.Term.{Term, Var, Int, Atom, Comp, apply}
use Rattle.fd_model.specs.Labelling.{values_by}
use Rattle.heap_cells.specs.declared.Cell.TheVariants as cell
use Rattle.heap_cells.specs.declared.Seen.{Seen}
use Rattle.heap_cells.specs.declared.Seen.TheVariants as looks
use Rattle.heap_cells.specs.Cells.{Cells, slot_at, compound_at, is_bound}
use Rattle.heap_cells.specs.SeenCells.{IsSeen}
use Rattle.heap_cells.specs.Terms.{Naming, IsOneToOne, term_of, terms_by}
use Rattle.heap_cells.specs.HeapInvariant.{IsHeap}
use Rattle.heap_cells.proofs.Lemmas.{unbound_term, term-Int, term-Atom, term-Struct}
use Rattle.unify_core.specs.Unifications.{CannotUnify}
use Rattle.branch_meaning.specs.AnswerTexts.{cell_set}
use Rattle.branch_lemmas.specs.Frames.{link_of, link_in}
use Rattle.range_code.specs.Frames.{family_of}
use Rattle.branch_state.specs.States.{State}
use Rattle.branch_goals.specs.Labels.{values_of}
use Rattle.code_goals.specs.Values.{IsOpenAt}

-- ---- the variable and its set

-- a variable of the store
pub own_link : (h : Cells) → IsHeap h → (i : ℕ) → IsOpenAt h i → (j k : ℕ) → IsSeen h (cell.Ref i) (looks.Constrained j k) → link_in h i ≡ Some k
own_link h valid i o j k s =
    let own = unbound_term o.0 h valid j (ap is_bound s.1) in
    let f : Var i ≡ Var j = sym o.1 ∙ s.2 o.0 ∙ own in
    let g : i ≡ j = cc in
    ap link_of (ap (slot_at h) g ∙ s.1)

-- or none
pub no_link : (h : Cells) → IsHeap h → (i : ℕ) → IsOpenAt h i → (v : Seen) → IsSeen h (cell.Ref i) v → ((j k : ℕ) → v ≡ looks.Constrained j k → ⊥) → link_in h i ≡ None
no_link h valid i o (looks.Open j) s none =
    let own = unbound_term o.0 h valid j (ap is_bound s.1) in
    let f : Var i ≡ Var j = sym o.1 ∙ s.2 o.0 ∙ own in
    let g : i ≡ j = cc in
    ap link_of (ap (slot_at h) g ∙ s.1)
no_link h valid i o (looks.Constrained j k) s none = absurd (none j k refl)
no_link h valid i o (looks.Int z) s none = let f : Int z ≡ Var i = sym (s o.0 ∙ term-Int o.0 h valid z) ∙ o.1 in absurd (cc)
no_link h valid i o (looks.Atom a) s none = let f : Atom (o.0 a) ≡ Var i = sym (s o.0 ∙ term-Atom o.0 h valid a) ∙ o.1 in absurd (cc)
no_link h valid i o (looks.Struct g args) s none =
    let d = compound_at h s.0 in
    let f : Comp (o.0 d.name) (terms_by (term_of o.0 h) d.args) ≡ Var i = sym (s.3 o.0 ∙ term-Struct o.0 h valid s.0) ∙ o.1 in absurd (cc)

-- the values are those of its set
pub values_linked : (s : State) (i k : ℕ) → link_in s.heaps.now i ≡ Some k → family_of s.levels.current.sets k ≡ values_of s i
values_linked s i k e = sym (ap (λ o. values_by s.infinity (cell_set (family_of s.levels.current.sets) o)) e)

-- or all that a variable may have
pub values_all : (s : State) (i : ℕ) → link_in s.heaps.now i ≡ None → universe s.infinity ≡ values_of s i
values_all s i e = sym (ap (λ o. values_by s.infinity (cell_set (family_of s.levels.current.sets) o)) e)

-- a variable that stands for itself can be any integer
pub can_be : (name : Naming) → IsOneToOne name → (h : Cells) → IsHeap h → (i : ℕ) (z : ℤ) → term_of name h (cell.Ref i) ≡ Var i → CannotUnify h (cell.Ref i) (cell.Int z) → ⊥
can_be name apart h valid i z unbound un =
    let u : ℕ → Term = λ x. Int z in
    let w = un name apart u (ap (apply u) unbound ∙ sym (ap (apply u) (term-Int name h valid z)), tt) in
    w.3

-- the numbers up to another one, as an interval
pub numbers_up_to : (n : ℕ) → members ((0, n) ∷ []) ≡ universe n
unfolding members universe
numbers_up_to n = (let e : suc n - 0 ≡ suc n = omega arith in ap (λ k. count_up 0 k ++ []) e ∙ append-nil (count_up 0 (suc n)))
