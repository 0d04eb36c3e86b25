-- The posts for touches say what the touches say as equations, wherever no set is empty.
use Rattle.std.proofs.Common.{◌≡◌, ℕ, true, Bool, ◌==◌, ◌||◌, ℤ, pos, List, [], ◌∷◌, ◌++◌, refl, ap, sym, ◌∙◌, subst, inl, inr, eq-eqb, arith}
use Rattle.std.proofs.lemmas.Bool.{or_left, or_right}
use Rattle.fd_language.specs.Term.{Term, Terms, Var, Int, Atom, Comp, Name, apply, apply_all, no_terms, term}
use Rattle.fd_language.specs.Unifier.{Unifies}
use Rattle.fd_language.specs.Family.{Family, has, IsSubset}
use Rattle.fd_language.specs.Range.{Indexical, set_of}
use Rattle.fd_model.specs.ClosedFamilies.{constrained}
use Rattle.fd_model.specs.Models.{IsModel}
use Rattle.fd_language.proofs.Lemmas.{identity, solved}
use Rattle.fd_model.proofs.Lemmas.{closed_without, posted_right, posted_both, constrained_either, single_from, only_member, one_term, has_general}
use Rattle.branch_meaning.specs.Store.{Touch, Value, Same, touched, posts}
use Rattle.branch_meaning.specs.Laws.{PostsAreEquations}
use Rattle.branch_meaning.proofs.Models.{front}
use Rattle.branch_meaning.proofs.TouchedValues.{set_term, set_term_same, set_term_int, Full, as_equations, as_posts}

-- a set as a term that is no atom
wrapped : List ℕ → Term
wrapped [] = Comp [] (term (Atom []) no_terms)
wrapped (n ∷ []) = Int (pos n)
wrapped (n ∷ m ∷ ms) = Comp [] (term (Atom (n ∷ m ∷ ms)) no_terms)

wrapped_no_atom : (xs : List ℕ) (a : Name) → wrapped xs ≡ Atom a → ⊥
unfolding wrapped
wrapped_no_atom [] a e = cc
wrapped_no_atom (n ∷ []) a e = cc
wrapped_no_atom (n ∷ m ∷ ms) a e = cc

set_no_compound : (xs : List ℕ) (f : Name) (ts : Terms) → set_term xs ≡ Comp f ts → ⊥
set_no_compound [] f ts e = cc
set_no_compound (n ∷ []) f ts e = cc
set_no_compound (n ∷ m ∷ ms) f ts e = cc

wrapped_int : (xs : List ℕ) (z : ℤ) → set_term xs ≡ Int z → wrapped xs ≡ Int z
unfolding wrapped
wrapped_int [] z e = absurd (cc)
wrapped_int (n ∷ []) z e = e
wrapped_int (n ∷ m ∷ ms) z e = absurd (cc)

wrapped_touches : (T : Family) (ts : List Touch) → Unifies (λ k. set_term (T k)) (touched ts) → Unifies (λ k. wrapped (T k)) (touched ts)
wrapped_touches T [] h = tt
wrapped_touches T (Value k z ∷ ts) h = (wrapped_int (T k) z h.0, wrapped_touches T ts h.1)
wrapped_touches T (Same k j ∷ ts) h = (ap wrapped (set_term_same (T k) (T j) h.0), wrapped_touches T ts h.1)

module _ (M N : ℕ) (qs : List Indexical) (ts : List Touch) (inside : (k : ℕ) → has (constrained (posts ts)) k ≡ true → has (constrained qs) k ≡ true) (T : Family) where
  to_equations : IsModel M N [] (qs ++ posts ts) T → IsModel M N (touched ts) qs T
  to_equations m =
      let base = front M N qs (posts ts) T m in
      let full : Full T (constrained (posts ts)) = λ k c. base.full k (inside k c) in
      let says = as_equations M T m.closed.family ts full (posted_right (λ p. IsSubset (T p.target) (set_of M T p.range)) qs (posts ts) m.closed.posted) in
      let s = has_general (touched ts) (λ k. set_term (T k)) says (solved (touched ts)) in
      let through : (v : ℕ) (t : Term) → s.0 v ≡ t → apply (λ k. set_term (T k)) t ≡ set_term (T v) = λ v t e. ap (apply (λ k. set_term (T k))) (sym e) ∙ s.1.general (λ k. set_term (T k)) v says in
      let around : (v : ℕ) (t : Term) → s.0 v ≡ t → apply (λ k. wrapped (T k)) t ≡ wrapped (T v) = λ v t e. ap (apply (λ k. wrapped (T k))) (sym e)
      ∙ s.1.general (λ k. wrapped (T k)) v (wrapped_touches T ts says) in
      record {
        unifier = s.0;
        general = s.1;
        closed = record {
          family = base.closed.family;
          posted = base.closed.posted;
          values = λ v z n c e h. value (T v) n z (sym (through v (Int z) e)) h;
          same = λ v w x c d e f. set_term_same (T v) (T w) (sym (through v (Var x) e) ∙ through w (Var x) f);
          atoms = λ v a c e. absurd (wrapped_no_atom (T v) a (sym (around v (Atom a) e)));
          compounds = λ v f us c e. absurd (set_no_compound (T v) f (apply_all (λ k. set_term (T k)) us) (sym (through v (Comp f us) e)));
          within = base.closed.within;
        };
        full = base.full;
      }
    where
      value : (xs : List ℕ) (n : ℕ) (z : ℤ) → set_term xs ≡ Int z → has xs n ≡ true → pos n ≡ z
      value xs n z e h = let one = set_term_int xs z e in ap pos (sym (only_member one.0 n (subst (λ l. has l n ≡ true) one.1 h))) ∙ one.2

  -- each touch of a model's family
  agrees : (m : IsModel M N (touched ts) qs T) (us : List Touch) → ((k : ℕ) → has (constrained (posts us)) k ≡ true → has (constrained qs) k ≡ true)
      → Unifies m.unifier (touched us) → Unifies (λ k. set_term (T k)) (touched us)
  agrees m [] low h = tt
  agrees m (Value k z ∷ us) low h =
      let c = low k (or_left (k == k) (has (constrained (posts us)) k) (eq-eqb k k refl)) in
      let f = m.full k c in
      let is : pos f.0 ≡ z = m.closed.values k z f.0 c h.0 f.1 in
      let one : T k ≡ f.0 ∷ [] = single_from 0 M f.0 (T k) (m.closed.family.rising k) f.1 (λ i g. let a : pos i ≡ pos f.0 = m.closed.values k z i c h.0 g ∙ sym is in cc) in
      (ap set_term one ∙ ap Int is, agrees m us (λ i g. low i (or_right (k == i) (has (constrained (posts us)) i) g)) h.1)
  agrees m (Same k j ∷ us) low h = (
    ap set_term (one_term M N (touched ts) qs T m k j (m.unifier j) (low k (front_of k j)) (low j (second_of k j)) h.0 refl),
    agrees m us (λ i g. low i (deep (k == i) (j == i) (has (constrained (posts us)) i) g)) h.1,
  )
    where
      deep : (a b c : Bool) → c ≡ true → (a || (b || (b || (a || c)))) ≡ true
      deep a b c e = grind arith

      front_of : (x y : ℕ) → ((x == x) || ((y == x) || ((y == x) || ((x == x) || has (constrained (posts us)) x)))) ≡ true
      front_of x y = or_left (x == x) _ (eq-eqb x x refl)

      second_of : (x y : ℕ) → ((x == y) || ((y == y) || ((y == y) || ((x == y) || has (constrained (posts us)) y)))) ≡ true
      second_of x y = or_right (x == y) _ (or_left (y == y) _ (eq-eqb y y refl))

  to_posts : IsModel M N (touched ts) qs T → IsModel M N [] (qs ++ posts ts) T
  to_posts m = record {
    unifier = Var;
    general = identity;
    closed = closed_without M N (qs ++ posts ts) T m.closed.family
        (posted_both (λ p. IsSubset (T p.target) (set_of M T p.range)) qs (posts ts) m.closed.posted
        (as_posts M T m.closed.family ts (agrees m ts inside m.general.unifies)))
        (λ k i c h. elim (constrained_either qs (posts ts) k c) [ inl a ↦ m.closed.within k i a h | inr a ↦ m.closed.within k i (inside k a) h ]);
    full = λ k c. elim (constrained_either qs (posts ts) k c) [ inl a ↦ m.full k a | inr a ↦ m.full k (inside k a) ];
  }

pub posts_are_equations : PostsAreEquations
posts_are_equations M N qs ts inside T = (to_equations M N qs ts inside T, to_posts M N qs ts inside T)
