-- Heaps on which the variables of constraints are new, linked or bound.
use Rattle.std.proofs.Common.{◌≡◌, ℕ, zero, suc, ◌+◌, ◌<◌, ◌≤◌, Bool, true, false, cond, ◌==◌, ℤ, List, [], ◌∷◌, ◌++◌, length, Option, Some, None, refl, ap}
use Rattle.std.proofs.Common.{sym, ◌∙◌, subst, inl, inr, ◌⊎◌, arith, length-append, length-set, eqb-true, eq-eqb}
use Rattle.std.specs.Prelude.{All}
use Rattle.std.proofs.lemmas.Bool.{cases_Bool, true≢false}
use Rattle.fd_language.specs.Family.{Family, has}
use Rattle.fd_language.specs.Term.{Term, Terms, Var, Int, Atom, Comp, no_terms, term, apply, apply_all}
use Rattle.fd_language.specs.Variables.{variables_of, variables_of_all}
use Rattle.fd_language.proofs.Lemmas.{has_either, in_left, in_right, only_member, apply_vars}
use Rattle.fd_model.specs.ConstraintExpansion.{arguments}
use Rattle.heap_cells.specs.declared.Cell.{Cell}
use Rattle.heap_cells.specs.declared.Cell.TheVariants as cell
use Rattle.heap_cells.specs.Atoms.{HasAtomsBelow}
use Rattle.heap_cells.specs.Cells.{Cells, Slot, free, linked, bound, is_bound, IsOf, slot_at, compound_at, with_slot, with_new_slot}
use Rattle.heap_cells.specs.Terms.{Naming, term_of, within, slot_term, terms_by, IsAbsent, occurs, one}
use Rattle.heap_cells.specs.HeapInvariant.{IsHeap}
use Rattle.heap_cells.proofs.Lemmas.{new_below, bound_below, slot_there, slot_elsewhere, bind_valid, bind_terms, head_of, tail_of, var_valid, term-Int}
use Rattle.heap_cells.proofs.Lemmas.{unbound_term}
use Rattle.fd_language.specs.SingleValues.{value_in, value_at}
use Rattle.branch_meaning.proofs.Lemmas.{after_is, bindings, without, functions, of_arguments}
use Rattle.branch_lemmas.specs.Frames.{link_of, link_in, IsGrown}
use Rattle.heap_cells.specs.SeenTerms.{read_term, seen_term}
use Rattle.branch_lemmas.proofs.Lemmas.{grown_same, grown_both, grown_var}
use Rattle.branch_state.specs.Constraints.{with_variables, with_integers, AreFrom, AreOpen, IsUnbound}

-- ---- new variables

module _ (h : Cells) (valid : IsHeap h) where
  pub added_valid : (n : ℕ) → IsHeap (with_variables n h)
  added_valid zero = valid
  added_valid (suc n) = var_valid (with_variables n h) (added_valid n)

  pub added_grown : (n : ℕ) → IsGrown h (with_variables n h)
  added_grown zero = grown_same h
  added_grown (suc n) = grown_both h (with_variables n h) (with_new_slot (with_variables n h)) (added_grown n) (grown_var (with_variables n h) (added_valid n))

pub added_size : (h : Cells) (n : ℕ) → length (with_variables n h).slots ≡ length h.slots + n
added_size h zero = omega arith
added_size h (suc n) = length-append (with_variables n h).slots (free ∷ []) ∙ (let e = added_size h n in omega (arith, e))

pub added_parts : (h : Cells) (n : ℕ) → (with_variables n h).compounds ≡ h.compounds
added_parts h zero = refl
added_parts h (suc n) = added_parts h n

pub added_atoms : (m : ℕ) (h : Cells) (n : ℕ) → HasAtomsBelow m h → HasAtomsBelow m (with_variables n h)
added_atoms m h zero a = a
added_atoms m h (suc n) a = new_below m (with_variables n h) (added_atoms m h n a)

-- ---- unbound variables

-- a variable of a cell's term is the heap's, and it isn't bound
abbrev OpenIn : Naming → Cells → ℕ → Type 0
OpenIn name h n = (c : Cell) → IsOf h c → (x : ℕ) → has (variables_of (within name h n c)) x ≡ true → (x < length h.slots) × (is_bound (slot_at h x) ≡ false)

slot_open : (name : Naming) (h : Cells) → IsHeap h → (n : ℕ) → OpenIn name h n → (i : ℕ) → i < length h.slots → (x : ℕ) (s : Slot) → slot_at h i ≡ s
    → has (variables_of (slot_term (within name h n) i s)) x ≡ true → (x < length h.slots) × (is_bound (slot_at h x) ≡ false)
slot_open name h valid n below i o x free f e = let g : i ≡ x = only_member i x e in subst (λ y. (y < length h.slots) × (is_bound (slot_at h y) ≡ false)) g (o, ap is_bound f)
slot_open name h valid n below i o x (linked k) f e = let g : i ≡ x = only_member i x e in subst (λ y. (y < length h.slots) × (is_bound (slot_at h y) ≡ false)) g (o, ap is_bound f)
slot_open name h valid n below i o x (bound c) f e = below c (valid.slots i c f) x e

parts_open : (name : Naming) (h : Cells) (n : ℕ) → OpenIn name h n → (cs : List Cell) → All (IsOf h) cs → (x : ℕ)
    → has (variables_of_all (terms_by (within name h n) cs)) x ≡ true → (x < length h.slots) × (is_bound (slot_at h x) ≡ false)
parts_open name h n below [] o x e = absurd (true≢false (sym e))
parts_open name h n below (c ∷ cs) o x e = elim (has_either (variables_of (within name h n c)) (variables_of_all (terms_by (within name h n) cs)) x e) [
  | inl a ↦ below c (head_of (IsOf h) c cs o) x a
  | inr a ↦ parts_open name h n below cs (tail_of (IsOf h) c cs o) x a
]

term_open : (name : Naming) (h : Cells) → IsHeap h → (n : ℕ) → OpenIn name h n
term_open name h valid zero c o x e = absurd (true≢false (sym e))
term_open name h valid (suc n) (cell.Ref i) o x e = slot_open name h valid n (term_open name h valid n) i o x (slot_at h i) refl e
term_open name h valid (suc n) (cell.Int z) o x e = absurd (true≢false (sym e))
term_open name h valid (suc n) (cell.Atom a) o x e = absurd (true≢false (sym e))
term_open name h valid (suc n) (cell.Struct j) o x e = parts_open name h n (term_open name h valid n) (compound_at h j).args (valid.parts j) x e

mutual
  -- what is read of a term has no other variables
  read_open : (h : Cells) (G : Family) (t : Term) (x : ℕ) → has (variables_of (read_term h G t)) x ≡ true → has (variables_of t) x ≡ true
  read_open h G (Var y) x e = by_link (link_in h y) e where
    by_set : (xs : List ℕ) → has (variables_of (value_in xs y)) x ≡ true → has (y ∷ []) x ≡ true
    by_set [] e = e
    by_set (w ∷ []) e = absurd (true≢false (sym e))
    by_set (w ∷ v ∷ ws) e = e

    by_link : (o : Option ℕ) → has (variables_of (value_at o G y)) x ≡ true → has (y ∷ []) x ≡ true
    by_link None e = e
    by_link (Some k) e = by_set (G k) e
  read_open h G (Int z) x e = e
  read_open h G (Atom a) x e = e
  read_open h G (Comp f ts) x e = all_open h G ts x e

  all_open : (h : Cells) (G : Family) (ts : Terms) (x : ℕ) → has (variables_of_all (apply_all (λ c. value_at (link_in h c) G c) ts)) x ≡ true → has (variables_of_all ts) x ≡ true
  all_open h G no_terms x e = e
  all_open h G (term t ts) x e = elim (has_either (variables_of (read_term h G t)) (variables_of_all (apply_all (λ c. value_at (link_in h c) G c) ts)) x e) [
    | inl a ↦ left (read_open h G t x a)
    | inr a ↦ right (all_open h G ts x a)
  ] where
    left : has (variables_of t) x ≡ true → has (variables_of t ++ variables_of_all ts) x ≡ true
    left i = in_left (variables_of t) (variables_of_all ts) x i

    right : has (variables_of_all ts) x ≡ true → has (variables_of t ++ variables_of_all ts) x ≡ true
    right i = in_right (variables_of t) (variables_of_all ts) x i

pub unbound_by : (h : Cells) → IsHeap h → (x : ℕ) → x < length h.slots → is_bound (slot_at h x) ≡ false → IsUnbound h x
unbound_by h valid x l e = record { own = l; term = λ name. unbound_term name h valid x e }

-- The variables of a goal's arguments, as they are read, are unbound.
pub arguments_unbound : (name : Naming) (h : Cells) → IsHeap h → (G : Family) (c : Cell) → IsOf h c → (x : ℕ) → has (variables_of_all (arguments (seen_term name h G c))) x ≡ true → IsUnbound h x
unfolding term_of
arguments_unbound name h valid G c o x e =
    let u = term_open name h valid _ c o x (read_open h G (term_of name h c) x (of_arguments (seen_term name h G c) x e)) in
    unbound_by h valid x u.0 u.1

-- an unbound variable stays one where the terms stay
pub unbound_kept : (h g : Cells) → length h.slots ≤ length g.slots → ((name : Naming) (c : Cell) → IsOf h c → term_of name g c ≡ term_of name h c) → (x : ℕ) → IsUnbound h x → IsUnbound g x
unbound_kept h g l kept x u = record { own = (let o = u.own in omega (arith, o, l)); term = λ name. kept name (cell.Ref x) u.own ∙ u.term name }

-- ---- variables that are bound to integers

pub bound_size : (ds : List (ℕ × ℤ)) (h : Cells) → length (with_integers ds h).slots ≡ length h.slots
bound_size [] h = refl
bound_size (d ∷ ds) h = bound_size ds (with_slot h d.0 (bound (cell.Int d.1))) ∙ length-set h.slots d.0 (bound (cell.Int d.1))

pub bound_parts : (ds : List (ℕ × ℤ)) (h : Cells) → (with_integers ds h).compounds ≡ h.compounds
bound_parts [] h = refl
bound_parts (d ∷ ds) h = bound_parts ds (with_slot h d.0 (bound (cell.Int d.1)))

-- another variable stays
pub bound_else : (n : ℕ) (ds : List (ℕ × ℤ)) (h : Cells) → AreFrom n ds → (c : ℕ) → (c < n) ⊎ (n + length ds ≤ c) → slot_at (with_integers ds h) c ≡ slot_at h c
bound_else n [] h f c l = refl
bound_else n (d ∷ ds) h f c l =
    bound_else (suc n) ds (with_slot h d.0 (bound (cell.Int d.1))) f.1 c (elim l [ inl i ↦ inl (omega (arith, i)) | inr i ↦ inr (omega (arith, i)) ])
    ∙ slot_elsewhere h d.0 c (bound (cell.Int d.1)) (λ e. (let g = f.0 in elim l [ inl i ↦ omega (arith, i, e, g) | inr i ↦ omega (arith, i, e, g) ]))

pub int_absent : (h : Cells) → IsHeap h → (x : ℕ) (z : ℤ) → IsAbsent h x (cell.Int z)
int_absent h valid x z name = ap (occurs x) (term-Int name h valid z)

open_rest : (n : ℕ) (d : ℕ × ℤ) (ds : List (ℕ × ℤ)) (h : Cells) → d.0 ≡ n → AreOpen n (d ∷ ds) h → AreOpen (suc n) ds (with_slot h d.0 (bound (cell.Int d.1)))
open_rest n d ds h e o x l m =
    let u = o x (omega (arith, l)) (omega (arith, m)) in (
      subst (λ k. x < k) (sym (length-set h.slots d.0 (bound (cell.Int d.1)))) u.0,
      ap is_bound (slot_elsewhere h d.0 x (bound (cell.Int d.1)) (λ f. omega (arith, f, e, l))) ∙ u.1,
    )

pub bound_valid : (n : ℕ) (ds : List (ℕ × ℤ)) (h : Cells) → IsHeap h → AreFrom n ds → AreOpen n ds h → IsHeap (with_integers ds h)
bound_valid n [] h valid f o = valid
bound_valid n (d ∷ ds) h valid f o =
    let u = o d.0 (let e = f.0 in omega (arith, e)) (let e = f.0 in omega (arith, e)) in
    bound_valid (suc n) ds (with_slot h d.0 (bound (cell.Int d.1))) (bind_valid h d.0 (cell.Int d.1) valid u.0 tt u.1 (int_absent h valid d.0 d.1)) f.1 (open_rest n d ds h f.0 o)

same_after : (d : ℕ × ℤ) (ds : List (ℕ × ℤ)) (u : Term) → u ≡ Int d.1 → (c : ℕ) → apply (bindings ds) (one d.0 u c) ≡ bindings (d ∷ ds) c
same_after d ds u e c = by_test (c == d.0) where
  by_test : (b : Bool) → apply (bindings ds) (cond b u (Var c)) ≡ cond b (Int d.1) (bindings ds c)
  by_test true = ap (apply (bindings ds)) e
  by_test false = refl

-- The terms then.
pub bound_terms : (n : ℕ) (ds : List (ℕ × ℤ)) (h : Cells) → IsHeap h → AreFrom n ds → AreOpen n ds h → (name : Naming) (c : Cell)
    → term_of name (with_integers ds h) c ≡ apply (bindings ds) (term_of name h c)
bound_terms n [] h valid f o name c = sym (apply_vars (term_of name h c))
bound_terms n (d ∷ ds) h valid f o name c =
    let u = o d.0 (let e = f.0 in omega (arith, e)) (let e = f.0 in omega (arith, e)) in
    let i = term_of name h (cell.Int d.1) in
    bound_terms (suc n) ds (with_slot h d.0 (bound (cell.Int d.1))) (bind_valid h d.0 (cell.Int d.1) valid u.0 tt u.1 (int_absent h valid d.0 d.1)) f.1 (open_rest n d ds h f.0 o) name c
    ∙ ap (apply (bindings ds)) (bind_terms h d.0 (cell.Int d.1) valid u.0 tt u.1 (int_absent h valid d.0 d.1) name c)
    ∙ sym (after_is (bindings ds) (one d.0 i) (term_of name h c))
    ∙ ap (λ s. apply s (term_of name h c)) (functions (same_after d ds i (term-Int name h valid d.1)))

without_same : (ds : List (ℕ × ℤ)) (link other : ℕ → Option ℕ) (c : ℕ) → link c ≡ other c → without ds link c ≡ without ds other c
without_same [] link other c e = e
without_same (d ∷ ds) link other c e = ap (λ o. cond (c == d.0) None o) (without_same ds link other c e)

without_none : (ds : List (ℕ × ℤ)) (link : ℕ → Option ℕ) (c : ℕ) → link c ≡ None → without ds link c ≡ None
without_none [] link c e = e
without_none (d ∷ ds) link c e = by_test (c == d.0) (without_none ds link c e) where
  by_test : (b : Bool) → without ds link c ≡ None → cond b None (without ds link c) ≡ None
  by_test true e = refl
  by_test false e = e

-- and the links
pub bound_links : (n : ℕ) (ds : List (ℕ × ℤ)) (h : Cells) → AreFrom n ds → AreOpen n ds h → (c : ℕ) → link_in (with_integers ds h) c ≡ without ds (link_in h) c
bound_links n [] h f o c = refl
bound_links n (d ∷ ds) h f o c =
    let u = o d.0 (let e = f.0 in omega (arith, e)) (let e = f.0 in omega (arith, e)) in
    let g = with_slot h d.0 (bound (cell.Int d.1)) in
    bound_links (suc n) ds g f.1 (open_rest n d ds h f.0 o) c ∙ elim (cases_Bool (c == d.0)) [
      | inl i ↦
          let e : c ≡ d.0 = eqb-true c d.0 i in
          without_none ds (link_in g) c (ap (link_in g) e ∙ ap link_of (slot_there h d.0 (bound (cell.Int d.1)) u.0)) ∙ sym (ap (λ b. cond b None (without ds (link_in h) c)) i)
      | inr i ↦
          without_same ds (link_in g) (link_in h) c (ap link_of (slot_elsewhere h d.0 c (bound (cell.Int d.1)) (λ e. true≢false (sym (eq-eqb c d.0 e) ∙ i))))
          ∙ sym (ap (λ b. cond b None (without ds (link_in h) c)) i)
    ]

pub bound_atoms : (m n : ℕ) (ds : List (ℕ × ℤ)) (h : Cells) → AreFrom n ds → AreOpen n ds h → HasAtomsBelow m h → HasAtomsBelow m (with_integers ds h)
bound_atoms m n [] h f o a = a
bound_atoms m n (d ∷ ds) h f o a =
    let u = o d.0 (let e = f.0 in omega (arith, e)) (let e = f.0 in omega (arith, e)) in
    bound_atoms m (suc n) ds (with_slot h d.0 (bound (cell.Int d.1))) f.1 (open_rest n d ds h f.0 o) (bound_below m h a d.0 (cell.Int d.1) u.0 tt)
