-- What bindings do to the store's variables.
use Rattle.std.proofs.Common.{◌≡◌, ◌≢◌, ℕ, ℤ, ◌<◌, refl, ap, sym, ◌∙◌, subst, arith, inl, inr, List, [], ◌∷◌, ◌++◌, length, get_or, ne_eqb}
use Rattle.std.specs.Prelude.{All}
use Rattle.std.proofs.lemmas.Bool.{cases_eq}
use Rattle.std.proofs.lemmas.List.Elements.{All-append}
use Rattle.fd_language.specs.Term.{Term, Var, Int, Substitution, apply}
use Rattle.fd_language.specs.Unifier.{Unifies}
use Rattle.heap_cells.specs.declared.Cell.{Cell}
use Rattle.heap_cells.specs.Cells.{Cells, free, linked, bound, slot_at, with_slot}
use Rattle.heap_cells.specs.Terms.{one, after}
use Rattle.heap_cells.proofs.Lemmas.{slot_there, slot_elsewhere, one_self, join_both, split_both, both_of}
use Rattle.unify_core.specs.declared.Touch.{Touch}
use Rattle.unify_core.specs.declared.Touch.TheVariants.{Value, Same}
use Rattle.unify_core.specs.Touches.{touch_equation, touched, IsLinked, NamesLinked, AreTouched}

pub one_else : (v : ℕ) (t : Term) (c : ℕ) → c ≢ v → one v t c ≡ Var c
one_else v t c d = rw (ne_eqb c v d) refl

-- a variable is one variable of the store
pub one_number : (h : Cells) (c d k j : ℕ) → IsLinked h c k → IsLinked h d j → c ≡ d → k ≡ j
one_number h c d k j a b e = let f : linked k ≡ linked j = sym a ∙ ap (slot_at h) e ∙ b in cc

no_touch : (P : Touch → Type 0) → All P []
no_touch P = λ k d l. absurd (omega arith)

-- nothing happens
pub touched_none : (h : Cells) → AreTouched h h Var []
touched_none h = record {
  still = λ c k l. (l, refl);
  plain = λ c k l. inr (c, k, refl, l);
  named = no_touch (NamesLinked h);
  follow = λ a f g. tt;
  values = λ a u c k z l e. absurd cc;
  pairs = λ a u c d k j l m e. ap a (one_number h c d k j l m (let f : c ≡ d = cc in f));
}

-- a variable of the heap becomes the term of another cell
module _ (h : Cells) (v : ℕ) (to : Cell) (t : Term) (there : v < length h.slots) where
  abbrev now : Cells
  now = with_slot h v (bound to)

  other_now : (c k : ℕ) → IsLinked now c k → c ≢ v
  other_now c k l e = (let f : linked k ≡ bound to = sym l ∙ ap (slot_at now) e ∙ slot_there h v (bound to) there in cc)

  pub still_linked : (c k : ℕ) → IsLinked now c k → IsLinked h c k × (one v t c ≡ Var c)
  still_linked c k l = let d = other_now c k l in (sym (slot_elsewhere h v c (bound to) d) ∙ l, one_else v t c d)

  linked_now : (c k : ℕ) → c ≢ v → IsLinked h c k → IsLinked now c k
  linked_now c k d l = slot_elsewhere h v c (bound to) d ∙ l

  -- an open variable
  module _ (open_now : slot_at h v ≡ free) where
    other : (c k : ℕ) → IsLinked h c k → c ≢ v
    other c k l e = (let f : linked k ≡ free = sym l ∙ ap (slot_at h) e ∙ open_now in cc)

    self : (c k : ℕ) → IsLinked h c k → one v t c ≡ Var c
    self c k l = one_else v t c (other c k l)

    pub touched_open : AreTouched h now (one v t) []
    touched_open = record {
      still = still_linked;
      plain = λ c k l. inr (c, k, self c k l, linked_now c k (other c k l) l);
      named = no_touch (NamesLinked h);
      follow = λ a f g. tt;
      values = λ a u c k z l e. (let f : Var c ≡ Int z = sym (self c k l) ∙ e in absurd cc);
      pairs = λ a u c d k j l m e. (let f : Var c ≡ Var d = sym (self c k l) ∙ e in let g : c ≡ d = cc in ap a (one_number h c d k j l (still_linked d j m).0 g));
    }

  -- a variable of the store becomes an integer
  module _ (k0 : ℕ) (z0 : ℤ) (link : IsLinked h v k0) (t_is : t ≡ Int z0) where
    value : one v t v ≡ Int z0
    value = one_self v t ∙ t_is

    pub touched_value : AreTouched h now (one v t) (Value k0 z0 ∷ [])
    touched_value = record {
      still = still_linked;
      plain = λ c k l. elim (cases_eq c v) [
        | inl e ↦ inl (z0, ap (one v t) e ∙ value)
        | inr d ↦ inr (c, k, one_else v t c d, linked_now c k d l)
      ];
      named = both_of (NamesLinked h) (Value k0 z0) [] (v, link) (no_touch (NamesLinked h));
      follow = λ a f g. (f v k0 z0 link value, tt);
      values = λ a u c k z l e. elim (cases_eq c v) [
        | inl q ↦
            let same : k ≡ k0 = one_number h c v k k0 l link q in
            let i : Int z0 ≡ Int z = sym (ap (one v t) q ∙ value) ∙ e in
            ap a same ∙ u.0 ∙ i
        | inr d ↦ (let f : Var c ≡ Int z = sym (one_else v t c d) ∙ e in absurd cc)
      ];
      pairs = λ a u c d k j l m e. elim (cases_eq c v) [
        | inl q ↦ (let f : Int z0 ≡ Var d = sym (ap (one v t) q ∙ value) ∙ e in absurd cc)
        | inr n ↦ (let f : Var c ≡ Var d = sym (one_else v t c n) ∙ e in let g : c ≡ d = cc in ap a (one_number h c d k j l (still_linked d j m).0 g))
      ];
    }

  -- a variable of the store becomes another one
  module _ (k0 d0 j0 : ℕ) (link : IsLinked h v k0) (link' : IsLinked h d0 j0) (apart : d0 ≢ v) (t_is : t ≡ Var d0) where
    same_now : one v t v ≡ Var d0
    same_now = one_self v t ∙ t_is

    pub touched_same : AreTouched h now (one v t) (Same k0 j0 ∷ [])
    touched_same = record {
      still = still_linked;
      plain = λ c k l. elim (cases_eq c v) [
        | inl e ↦ inr (d0, j0, ap (one v t) e ∙ same_now, linked_now d0 j0 apart link')
        | inr d ↦ inr (c, k, one_else v t c d, linked_now c k d l)
      ];
      named = both_of (NamesLinked h) (Same k0 j0) [] ((v, link), (d0, link')) (no_touch (NamesLinked h));
      follow = λ a f g. (g v d0 k0 j0 link link' (same_now ∙ sym (one_else v t d0 apart)), tt);
      values = λ a u c k z l e. elim (cases_eq c v) [
        | inl q ↦ (let f : Var d0 ≡ Int z = sym (ap (one v t) q ∙ same_now) ∙ e in absurd cc)
        | inr d ↦ (let f : Var c ≡ Int z = sym (one_else v t c d) ∙ e in absurd cc)
      ];
      pairs = λ a u c d k j l m e. elim (cases_eq c v) [
        | inl q ↦
            let f : Var d0 ≡ Var d = sym (ap (one v t) q ∙ same_now) ∙ e in
            let g : d0 ≡ d = cc in
            ap a (one_number h c v k k0 l link q) ∙ u.0 ∙ ap a (one_number h d0 d j0 j link' (still_linked d j m).0 g)
        | inr n ↦ (let f : Var c ≡ Var d = sym (one_else v t c n) ∙ e in let g : c ≡ d = cc in ap a (one_number h c d k j l (still_linked d j m).0 g))
      ];
    }

pub touched-append : (ts us : List Touch) → touched (ts ++ us) ≡ touched ts ++ touched us
touched-append [] us = refl
touched-append (t ∷ ts) us = ap (λ es. touch_equation t ∷ es) (touched-append ts us)

named_before : (old mid : Cells) → ((c k : ℕ) → IsLinked mid c k → IsLinked old c k) → (t : Touch) → NamesLinked mid t → NamesLinked old t
named_before old mid f (Value k z) n = (n.0, f n.0 k n.1)
named_before old mid f (Same k j) n = ((n.0.0, f n.0.0 k n.0.1), (n.1.0, f n.1.0 j n.1.1))

-- one heap after another
pub touched_both : (old mid now : Cells) (first second : Substitution) (ts us : List Touch) → AreTouched old mid first ts → AreTouched mid now second us
    → AreTouched old now (after second first) (ts ++ us)
touched_both old mid now first second ts us p q = record {
  still = λ c k l. (let b = q.still c k l in let a = p.still c k b.0 in (a.0, ap (apply second) a.1 ∙ b.1));
  plain = λ c k l. elim (p.plain c k l) [
    | inl i ↦ inl (i.0, ap (apply second) i.1)
    | inr d ↦ elim (q.plain d.0 d.1 d.3) [ inl i ↦ inl (i.0, ap (apply second) d.2 ∙ i.1) | inr e ↦ inr (e.0, e.1, ap (apply second) d.2 ∙ e.2, e.3) ]
  ];
  named = All-append (NamesLinked old) ts us p.named (λ k d l. named_before old mid (λ c n m. (p.still c n m).0) (get_or us k d) (q.named k d l));
  follow = λ a f g. subst (Unifies a) (sym (touched-append ts us)) (join_both a (touched ts) (touched us)
      (p.follow a (λ c k z l e. f c k z l (ap (apply second) e)) (λ c d k j l m e. g c d k j l m (ap (apply second) e)))
      (q.follow a
      (λ c k z l e. (let s = p.still c k l in f c k z s.0 (ap (apply second) s.1 ∙ e)))
      (λ c d k j l m e. (let s = p.still c k l in let t = p.still d j m in g c d k j s.0 t.0 (ap (apply second) s.1 ∙ e ∙ sym (ap (apply second) t.1))))));
  values = λ a u c k z l e. (let both = split_both a (touched ts) (touched us) (subst (Unifies a) (touched-append ts us) u) in elim (p.plain c k l) [
    | inl i ↦ (let f : Int i.0 ≡ Int z = sym (ap (apply second) i.1) ∙ e in p.values a both.0 c k z l (i.1 ∙ f))
    | inr d ↦ p.pairs a both.0 c d.0 k d.1 l d.3 d.2 ∙ q.values a both.1 d.0 d.1 z d.3 (sym (ap (apply second) d.2) ∙ e)
  ]);
  pairs = λ a u c x k j l m e. (let both = split_both a (touched ts) (touched us) (subst (Unifies a) (touched-append ts us) u) in elim (p.plain c k l) [
    | inl i ↦ (let f : Int i.0 ≡ Var x = sym (ap (apply second) i.1) ∙ e in absurd cc)
    | inr d ↦ p.pairs a both.0 c d.0 k d.1 l d.3 d.2 ∙ q.pairs a both.1 d.0 x d.1 j d.3 m (sym (ap (apply second) d.2) ∙ e)
  ]);
}
