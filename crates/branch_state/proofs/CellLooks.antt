-- What a cell looks as.
use Rattle.std.proofs.Common.{◌≡◌, ℕ, zero, suc, ◌<◌, true, false, ℤ, pos, List, [], ◌∷◌, length, take, get_or, Option, Some, None, is_some, refl, ap, sym, ◌∙◌}
use Rattle.std.proofs.Common.{subst, arith}
use Rattle.std.proofs.lemmas.Bool.{true≢false}
use Rattle.fd_language.specs.declared.range_node.Need.{Need}
use Rattle.fd_language.specs.Family.{Family}
use Rattle.fd_language.specs.Term.{Term, Var, Int, Atom, Comp, Substitution}
use Rattle.fd_model.specs.declared.kinds.QueryFault.{QueryFault}
use Rattle.fd_model.specs.Posting.{or_later}
use Rattle.heap_cells.specs.declared.Cell.{Cell}
use Rattle.heap_cells.specs.declared.Cell.TheVariants as cell
use Rattle.heap_cells.specs.Cells.{Cells, free, linked, slot_at, compound_at}
use Rattle.heap_cells.specs.declared.Seen.{Seen}
use Rattle.heap_cells.specs.declared.Seen.TheVariants as seen
use Rattle.heap_cells.specs.SeenCells.{IsSeen}
use Rattle.heap_cells.specs.Terms.{Naming, Same}
use Rattle.heap_cells.specs.HeapInvariant.{IsHeap}
use Rattle.heap_cells.proofs.Lemmas.{shown_atom, shown_compound, shown_free, shown_int, shown_linked}
use Rattle.term_pool.specs.declared.AtomId.{AtomId}
use Rattle.unify_core.specs.Touches.{IsSymbolic}
use Rattle.fd_language.specs.SingleValues.{only}
use Rattle.domain_ranges.proofs.Lemmas.{one_value, no_value}
use Rattle.heap_cells.specs.SeenTerms.{link_of, seen_term}
use Rattle.branch_state.specs.declared.cell_looks.Look.{Look}
use Rattle.branch_state.specs.declared.cell_looks.Look.TheVariants as look
use Rattle.branch_state.specs.StoreVariables.{LooksAs, IsKind, offence, first_in, CanName, IsInteger}

-- ---- a cell

module _ (name : Naming) (h : Cells) (valid : IsHeap h) (G : Family) (c : Cell) where
  pub looks_open : (i : ℕ) → i < length h.slots → slot_at h i ≡ free → Same h c (cell.Ref i) → LooksAs h (seen_term name h G c) (look.Open i)
  looks_open i l e s = (shown_free name h valid G c i e s, l, e)

  pub looks_number : (i k w : ℕ) → slot_at h i ≡ linked k → Same h c (cell.Ref i) → only (G k) ≡ Some w → LooksAs h (seen_term name h G c) (look.Number (pos w))
  looks_number i k w e s o = shown_linked name h valid G c i k e s ∙ one_value (G k) w i o

  pub looks_linked : (i k : ℕ) → slot_at h i ≡ linked k → Same h c (cell.Ref i) → only (G k) ≡ None → LooksAs h (seen_term name h G c) (look.Linked k)
  looks_linked i k e s o = (i, shown_linked name h valid G c i k e s ∙ no_value (G k) i o, ap link_of e)

  pub looks_int : (z : ℤ) → Same h c (cell.Int z) → LooksAs h (seen_term name h G c) (look.Number z)
  looks_int z s = shown_int name h valid G c z s

  pub looks_atom : (a : AtomId) → Same h c (cell.Atom a) → LooksAs h (seen_term name h G c) look.Symbol
  looks_atom a s = subst (λ t. LooksAs h t look.Symbol) (sym (shown_atom name h valid G c a s)) tt

  pub looks_compound : (f : AtomId) (args : List Cell) (j : ℕ) → compound_at h j ≡ record { name = f; args = args } → Same h c (cell.Struct j) → LooksAs h (seen_term name h G c) look.Symbol
  looks_compound f args j e s = subst (λ t. LooksAs h t look.Symbol) (sym (shown_compound name h valid G c f args j e s)) tt

  -- what is no variable and no integer
  pub looks_symbol : (v : Seen) → IsSeen h c v → ((i : ℕ) → v ≡ seen.Open i → ⊥) → ((i k : ℕ) → v ≡ seen.Constrained i k → ⊥) → ((z : ℤ) → v ≡ seen.Int z → ⊥)
      → LooksAs h (seen_term name h G c) look.Symbol
  looks_symbol (seen.Open i) s a b z = absurd (a i refl)
  looks_symbol (seen.Constrained i k) s a b z = absurd (b i k refl)
  looks_symbol (seen.Int i) s a b z = absurd (z i refl)
  looks_symbol (seen.Atom i) s a b z = looks_atom i s
  looks_symbol (seen.Struct f args) s a b z = looks_compound f args.now s.0 s.2 s.3

pub look_kind : (h : Cells) (t : Term) (l : Look) → LooksAs h t l → IsKind t l
look_kind h t (look.Open i) k = k.0
look_kind h t (look.Linked j) k = (k.0, k.1)
look_kind h t (look.Number z) k = k
look_kind h t look.Symbol k = k

-- ---- offences

pub first_none_yet : (s : Substitution) (ys : List ℕ) (ns : List (Option Need)) (i d : ℕ) (e : Option Need) → i < length ys → i < length ns
    → first_in s (take i ys) (take i ns) ≡ None → offence (get_or ns i e) (s (get_or ys i d)) ≡ None → first_in s (take (suc i) ys) (take (suc i) ns) ≡ None
first_none_yet s [] ns i d e l k h f = absurd (omega (arith, l))
first_none_yet s (y ∷ ys) [] i d e l k h f = absurd (omega (arith, k))
first_none_yet s (y ∷ ys) (n ∷ ns) zero d e l k h f = ap (λ o. or_later o None) f
first_none_yet s (y ∷ ys) (n ∷ ns) (suc i) d e l k h f = by_fault (offence n (s y)) h (first_none_yet s ys ns i d e (omega (arith, l)) (omega (arith, k))) where
  by_fault : (o : Option QueryFault) → or_later o (first_in s (take i ys) (take i ns)) ≡ None
      → (first_in s (take i ys) (take i ns) ≡ None → offence (get_or ns i e) (s (get_or ys i d)) ≡ None → first_in s (take (suc i) ys) (take (suc i) ns) ≡ None)
      → or_later o (first_in s (take (suc i) ys) (take (suc i) ns)) ≡ None
  by_fault (Some q) h k = absurd (cc)
  by_fault None h k = k h f

pub first_there : (s : Substitution) (ys : List ℕ) (ns : List (Option Need)) (i d : ℕ) (e : Option Need) (o : Option QueryFault) → i < length ys → i < length ns
    → first_in s (take i ys) (take i ns) ≡ None → offence (get_or ns i e) (s (get_or ys i d)) ≡ o → (o ≡ None → ⊥) → first_in s ys ns ≡ o
first_there s [] ns i d e o l k h f t = absurd (omega (arith, l))
first_there s (y ∷ ys) [] i d e o l k h f t = absurd (omega (arith, k))
first_there s (y ∷ ys) (n ∷ ns) zero d e (Some q) l k h f t = ap (λ z. or_later z (first_in s ys ns)) f
first_there s (y ∷ ys) (n ∷ ns) zero d e None l k h f t = absurd (t refl)
first_there s (y ∷ ys) (n ∷ ns) (suc i) d e o l k h f t = by_fault (offence n (s y)) h (λ g. first_there s ys ns i d e o (omega (arith, l)) (omega (arith, k)) g f t) where
  by_fault : (z : Option QueryFault) → or_later z (first_in s (take i ys) (take i ns)) ≡ None → (first_in s (take i ys) (take i ns) ≡ None → first_in s ys ns ≡ o) → or_later z (first_in s ys ns) ≡ o
  by_fault (Some q) h k = absurd (cc)
  by_fault None h k = k h

pub some_offence : (o : Option QueryFault) → is_some o ≡ true → o ≡ None → ⊥
some_offence None h e = true≢false (sym h)
some_offence (Some q) h e = absurd (cc)

pub no_offence : (o : Option QueryFault) → is_some o ≡ false → o ≡ None
no_offence None h = refl
no_offence (Some q) h = absurd (true≢false h)

-- what has no offence can be named
pub can_name : (h : Cells) (t : Term) (l : Look) (need : Option Need) → LooksAs h t l → offence need t ≡ None → CanName h l
can_name h t (look.Open i) need k o = (k.1, k.2)
can_name h t (look.Linked j) need k o = tt
can_name h t (look.Number z) need k o = tt
can_name h (Var x) look.Symbol need k o = k
can_name h (Int z) look.Symbol need k o = k
can_name h (Atom a) look.Symbol None k o = absurd (cc)
can_name h (Atom a) look.Symbol (Some n) k o = absurd (cc)
can_name h (Comp f ts) look.Symbol None k o = absurd (cc)
can_name h (Comp f ts) look.Symbol (Some n) k o = absurd (cc)

-- ---- one argument more

pub same_int : (a b : ℤ) → Int a ≡ Int b → a ≡ b
same_int a b e = cc

pub number_is : (h : Cells) (t : Term) (l : Look) (w z : ℤ) → LooksAs h t l → IsInteger l w → t ≡ Int z → w ≡ z
number_is h t (look.Open j) w z k i e = absurd (let f = sym k.0 ∙ e in cc)
number_is h t (look.Linked j) w z k i e = absurd (let f = sym k.1 ∙ e in cc)
number_is h t (look.Number v) w z k i e = i ∙ same_int v z (sym k ∙ e)
number_is h t look.Symbol w z k i e = absurd (subst IsSymbolic e k)
