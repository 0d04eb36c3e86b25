-- A unification of two cells, as the machine relation has it.
use Rattle.std.proofs.Common.{◌≡◌, ℕ, ◌==◌, ◌||◌, true, eqb-true, ℤ, List, [], ◌∷◌, ◌++◌, length, Some, refl, ap, sym, ◌∙◌, subst, inl, inr, ◌⊎◌}
use Rattle.std.specs.Prelude.{All}
use Rattle.std.proofs.lemmas.Bool.{or_cases, true≢false}
use Rattle.fd_model.proofs.Lemmas.{not_in_empty}
use Rattle.fd_language.specs.Term.{Term, Var, Int, Atom, Comp, Substitution, apply}
use Rattle.fd_language.specs.Unifier.{Equation, Unifies}
use Rattle.fd_language.specs.Family.{Family, has}
use Rattle.fd_language.specs.Range.{Indexical}
use Rattle.fd_language.proofs.Lemmas.{two}
use Rattle.fd_model.specs.ClosedFamilies.{constrained}
use Rattle.fd_model.specs.Models.{IsModel}
use Rattle.heap_cells.specs.declared.Cell.{Cell}
use Rattle.heap_cells.specs.Cells.{Slot, free, linked, bound, Cells, slot_at}
use Rattle.heap_cells.specs.Terms.{Naming, term_of}
use Rattle.heap_cells.proofs.Lemmas.{head_of, tail_of}
use Rattle.unify_core.specs.declared.Touch.{Touch}
use Rattle.unify_core.specs.declared.Touch.TheVariants as touch
use Rattle.unify_core.specs.Touches.{IsLinked, NamesLinked, IsPlain, IsSymbolic, IsRefuted}
use Rattle.unify_core.specs.Touches as core_touches
use Rattle.unify_core.specs.PairReduction.{IsSameSize}
use Rattle.unify_core.specs.Unifications.{cells_equal}
use Rattle.unify_core.specs.Unifications as core
use Rattle.branch_meaning.specs.Heap.{after, applied_each, Of}
use Rattle.branch_meaning.specs.Store.{touched, posts, IsUnified, IsStored}
use Rattle.branch_meaning.proofs.Lemmas.{unify_applied, of_below, unified}
use Rattle.branch_lemmas.specs.Frames.{link_of, link_in, store_touches, IsKept}

of_link : (s : Slot) (k : ℕ) → link_of s ≡ Some k → s ≡ linked k
of_link free k e = absurd (cc)
of_link (linked j) k e = let i : j ≡ k = cc in ap linked i
of_link (bound c) k e = absurd (cc)

pub linked_at : (h : Cells) (c k : ℕ) → link_in h c ≡ Some k → IsLinked h c k
linked_at h c k e = of_link (slot_at h c) k e

pub link_at : (h : Cells) (c k : ℕ) → IsLinked h c k → link_in h c ≡ Some k
link_at h c k e = ap link_of e

touched_same : (ts : List Touch) → touched (store_touches ts) ≡ core_touches.touched ts
touched_same [] = refl
touched_same (touch.Value k z ∷ ts) = ap (λ es. record { left = Var k; right = Int z } ∷ es) (touched_same ts)
touched_same (touch.Same k j ∷ ts) = ap (λ es. record { left = Var k; right = Var j } ∷ es) (touched_same ts)

-- the posts name variables of the store that variables of the heap are
named_in : (h : Cells) (ts : List Touch) → All (NamesLinked h) ts → (k : ℕ) → has (constrained (posts (store_touches ts))) k ≡ true → (c : ℕ) × (link_in h c ≡ Some k)
named_in h [] a k e = absurd (true≢false (sym e))
named_in h (touch.Value j z ∷ ts) a k e =
    let here = head_of (NamesLinked h) (touch.Value j z) ts a in
    elim (or_cases (j == k) (has (constrained (posts (store_touches ts))) k) e) [
      | inl i ↦ (here.0, link_at h here.0 j here.1 ∙ ap Some (eqb-true j k i))
      | inr i ↦ named_in h ts (tail_of (NamesLinked h) (touch.Value j z) ts a) k i
    ]
named_in h (touch.Same i j ∷ ts) a k e =
    let here = head_of (NamesLinked h) (touch.Same i j) ts a in
    let later = has (constrained (posts (store_touches ts))) k in
    elim (or_cases (i == k) ((j == k) || ((j == k) || ((i == k) || later))) e) [
      | inl d ↦ (here.0.0, link_at h here.0.0 i here.0.1 ∙ ap Some (eqb-true i k d))
      | inr d ↦ elim (or_cases (j == k) ((j == k) || ((i == k) || later)) d) [
        | inl f ↦ (here.1.0, link_at h here.1.0 j here.1.1 ∙ ap Some (eqb-true j k f))
        | inr f ↦ elim (or_cases (j == k) ((i == k) || later) f) [
          | inl g ↦ (here.1.0, link_at h here.1.0 j here.1.1 ∙ ap Some (eqb-true j k g))
          | inr g ↦ elim (or_cases (i == k) later g) [
            | inl m ↦ (here.0.0, link_at h here.0.0 i here.0.1 ∙ ap Some (eqb-true i k m))
            | inr m ↦ named_in h ts (tail_of (NamesLinked h) (touch.Same i j) ts a) k m
          ]
        ]
      ]
    ]

plain_in : (h : Cells) (t : Term) → IsPlain h t → ((z : ℤ) × (t ≡ Int z)) ⊎ ((d : ℕ) × (j : ℕ) × (t ≡ Var d) × (link_in h d ≡ Some j))
plain_in h t (inl a) = inl a
plain_in h t (inr a) = inr (a.0, a.1, a.2, link_at h a.0 a.1 a.3)

-- What a unification of two cells leaves is what the machine relation asks of one.
pub unified_is_general : (name : Naming) (old now : Cells) (a b : Cell) (ts : List Touch) (u : core.IsUnified name old a b now ts)
    → IsUnified (length old.slots) (link_in old) (cells_equal name old a b) u.unifier (link_in now) (store_touches ts)
unified_is_general name old now a b ts u = record {
  general = u.general;
  cells = λ c l. of_below (length old.slots) (u.unifier c) (u.cells c l);
  still = λ c k e. (let s = u.touches.still c k (linked_at now c k e) in (link_at old c k s.0, s.1));
  plain = λ c k e. plain_in now (u.unifier c) (u.touches.plain c k (linked_at old c k e));
  named = named_in old ts u.touches.named;
  follow = λ v ints pairs. subst (Unifies v) (sym (touched_same ts))
      (u.touches.follow v (λ c k z l. ints c k z (link_at old c k l)) (λ c d k j l m. pairs c d k j (link_at old c k l) (link_at old d j m)));
  values = λ v k c j z e. u.touches.values v (subst (Unifies v) (touched_same ts) k) c j z (linked_at old c j e);
  pairs = λ v k c d i j e f. u.touches.pairs v (subst (Unifies v) (touched_same ts) k) c d i j (linked_at old c i e) (linked_at now d j f);
}

-- Two known terms, which each way to make them equal can make equal only where a variable of the store becomes an atom or a compound term: no family is a model
-- with their equation.
pub kept_barred : (M N : ℕ) (h : Cells) (qs : List Indexical) (es : List Equation) (ps : List Indexical) (P : ℕ → Type 0) (look : Substitution) → IsKept M N h qs es ps P look → (l r : Term)
    → ((back v : Substitution) → ((x : ℕ) → P x → apply back (look x) ≡ v x) → apply v l ≡ apply v r → (c : ℕ) × (k : ℕ) × IsLinked h c k × IsSymbolic (back c))
    → (S : Family) → IsModel M N (record { left = l; right = r } ∷ es) ps S → ⊥
kept_barred M N h qs es ps P look s l r no_one S m =
    let t = s.stored.heap.through m.unifier m.general.unifies.1 in
    let bad = no_one t.0 m.unifier t.1 m.general.unifies.0 in
    let v = s.stored.from bad.0 bad.1 (link_at h bad.0 bad.1 bad.2) in
    by_term v.0 v.1 (t.0 bad.0) bad.3 (sym (t.1 v.0 (s.stored.used v.0 v.1)) ∙ ap (apply t.0) v.2)
  where
    by_term : (v : ℕ) → has (constrained ps) v ≡ true → (t : Term) → IsSymbolic t → m.unifier v ≡ t → ⊥
    by_term v c (Var x) k e = k
    by_term v c (Int z) k e = k
    by_term v c (Atom x) k e = let w = m.full v c in not_in_empty (S v) w.0 (m.closed.atoms v x c e) w.1
    by_term v c (Comp f us) k e = let w = m.full v c in not_in_empty (S v) w.0 (m.closed.compounds v f us c e) w.1

-- Two known terms, whose cells a and b are.
module _ (M N : ℕ) (name : Naming) (h : Cells) (qs : List Indexical) (es : List Equation) (ps : List Indexical) (P : ℕ → Type 0) (look : Substitution) (s : IsKept M N h qs es ps P look)
    (l r : Term) (a b : Cell) (known : Of P l × Of P r) (at_l : apply look l ≡ term_of name h a) (at_r : apply look r ≡ term_of name h b) where
  abbrev pub asked : Equation
  asked = record { left = l; right = r }

  on_cells : applied_each look (asked ∷ []) ≡ cells_equal name h a b
  on_cells = two (λ t u. record { left = t; right = u } ∷ []) at_l at_r

  -- They are equal now, and what was touched is to be posted.
  pub kept_unified : (now : Cells) (ts : List Touch) (u : core.IsUnified name h a b now ts) → IsSameSize h now
      → IsKept M N now (qs ++ posts (store_touches ts)) (asked ∷ es) ps P (after u.unifier look)
  kept_unified now ts u size =
      let g : IsUnified (length h.slots) (link_in h) (applied_each look (asked ∷ [])) u.unifier (link_in now) (store_touches ts) =
      subst (λ eqs. IsUnified (length h.slots) (link_in h) eqs u.unifier (link_in now) (store_touches ts)) (sym on_cells) (unified_is_general name h now a b ts u) in
      let st = unified M N es ps P (length h.slots) look (link_in h) s.slot qs s.stored (asked ∷ []) (known, tt) u.unifier (link_in now) (store_touches ts) g in
      record {
        slot = s.slot;
        stored = subst (λ n. IsStored M N (asked ∷ es) ps P n (after u.unifier look) (link_in now) s.slot (qs ++ posts (store_touches ts))) (sym size.slots) st;
      }

  -- They can't be equal: no family is a model with the equation.
  pub kept_refuted : IsRefuted h (cells_equal name h a b) → (S : Family) → IsModel M N (asked ∷ es) ps S → ⊥
  kept_refuted no_one = kept_barred M N h qs es ps P look s l r (λ back v t e. no_one back (subst (Unifies back) on_cells (unify_applied back look v P (asked ∷ []) t (known, tt) (e, tt))))
