-- Posted ranges that differ in the names of variables that are equal in each unifier of some equations have the same models.
use Rattle.std.proofs.Common.{◌≡◌, ℕ, Bool, true, false, cond, ◌==◌, ◌||◌, List, [], ◌∷◌, ◌++◌, map, Option, Some, None, refl, ap, sym, ◌∙◌, subst, inl, inr}
use Rattle.std.proofs.Common.{◌⊎◌, eqb-true, eq-eqb}
use Rattle.std.proofs.lemmas.Bool.{or_left, or_right, true≢false}
use Rattle.fd_language.specs.Term.{Term, Var, Int, Substitution}
use Rattle.fd_language.specs.Unifier.{Equation, Unifies}
use Rattle.fd_language.specs.Family.{Family, has, IsSubset}
use Rattle.fd_language.specs.Range.{Indexical, set_of, reads}
use Rattle.fd_language.specs.RangeRenaming.{rename_range, rename_indexical}
use Rattle.fd_language.specs.Monotonicity.{IsMonotone}
use Rattle.fd_language.proofs.Lemmas.{has_either, in_left, in_right, has_map, reads_map, set_same, rising_same, monotone_renamed}
use Rattle.fd_model.specs.ClosedFamilies.{AllPosted, constrained}
use Rattle.fd_model.specs.Models.{IsModel}
use Rattle.fd_model.proofs.Lemmas.{one_term}

-- the variables that a range names
abbrev pub named : Indexical → List ℕ
named p = p.target ∷ reads p.range

-- each unifier of the equations takes both to one term
abbrev pub AreEqual : List Equation → ℕ → ℕ → Type 0
AreEqual es v w = (u : Substitution) → Unifies u es → u v ≡ u w

-- the one is the other under names of variables that are equal
pub record IsRenamed (es : List Equation) (p q : Indexical) : Type 0 where
  pub new : ℕ → ℕ
  pub is : q ≡ rename_indexical new p
  pub equal : (v : ℕ) → has (named p) v ≡ true → AreEqual es v (new v)

abbrev pub AreRenamed : List Equation → List Indexical → List Indexical → Type 0
AreRenamed es [] [] = Unit {0}
AreRenamed es [] (q ∷ qs) = ⊥
AreRenamed es (p ∷ ps) [] = ⊥
AreRenamed es (p ∷ ps) (q ∷ qs) = IsRenamed es p q × AreRenamed es ps qs

-- with stronger equations too
pub still_renamed : (es ds : List Equation) → ((u : Substitution) → Unifies u ds → Unifies u es) → (ps qs : List Indexical) → AreRenamed es ps qs → AreRenamed ds ps qs
still_renamed es ds f [] [] h = tt
still_renamed es ds f [] (q ∷ qs) h = h
still_renamed es ds f (p ∷ ps) [] h = h
still_renamed es ds f (p ∷ ps) (q ∷ qs) h =
    (record { new = h.0.new; is = h.0.is; equal = λ v c u i. h.0.equal v c u (f u i) }, still_renamed es ds f ps qs h.1)

pub renamed_both : (es : List Equation) (ps qs more others : List Indexical) → AreRenamed es more others → AreRenamed es ps qs → AreRenamed es (more ++ ps) (others ++ qs)
renamed_both es ps qs [] [] k h = h
renamed_both es ps qs [] (o ∷ os) k h = absurd k
renamed_both es ps qs (m ∷ ms) [] k h = absurd k
renamed_both es ps qs (m ∷ ms) (o ∷ os) k h = (k.0, renamed_both es ps qs ms os k.1 h)

pub monotone_there : (M : ℕ) (es : List Equation) (ps qs : List Indexical) → AreRenamed es ps qs → AllPosted (λ p. IsMonotone M p.range) ps → AllPosted (λ p. IsMonotone M p.range) qs
monotone_there M es [] [] h m = tt
monotone_there M es [] (q ∷ qs) h m = absurd h
monotone_there M es (p ∷ ps) [] h m = absurd h
monotone_there M es (p ∷ ps) (q ∷ qs) h m =
    (subst (λ x. IsMonotone M x.range) (sym h.0.is) (monotone_renamed M h.0.new p.range m.0), monotone_there M es ps qs h.1 m.1)

constrained_either : (p : Indexical) (ps : List Indexical) (v : ℕ) → has (constrained (p ∷ ps)) v ≡ true → (has (named p) v ≡ true) ⊎ (has (constrained ps) v ≡ true)
constrained_either p ps v h = has_either (named p) (constrained ps) v h

here_in : (p : Indexical) (ps : List Indexical) (v : ℕ) → has (named p) v ≡ true → has (constrained (p ∷ ps)) v ≡ true
here_in p ps v h = in_left (named p) (constrained ps) v h

later_in : (p : Indexical) (ps : List Indexical) (v : ℕ) → has (constrained ps) v ≡ true → has (constrained (p ∷ ps)) v ≡ true
later_in p ps v h = in_right (named p) (constrained ps) v h

names_renamed : (f : ℕ → ℕ) (p : Indexical) → named (rename_indexical f p) ≡ map f (named p)
names_renamed f p = ap (λ (l : List ℕ). f p.target ∷ l) (reads_map f p.range)

-- the first of some variables that f takes to w
search : (ℕ → ℕ) → List ℕ → ℕ → Option ℕ
search f [] w = None
search f (v ∷ vs) w = cond (f v == w) (Some v) (search f vs w)

or_else : Option ℕ → ℕ → ℕ
or_else None d = d
or_else (Some v) d = v

search_there : (f : ℕ → ℕ) (vs : List ℕ) (w : ℕ) → has (map f vs) w ≡ true → (v : ℕ) × (search f vs w ≡ Some v) × (has vs v ≡ true) × (f v ≡ w)
unfolding search
search_there f [] w h = absurd (true≢false (sym h))
search_there f (v ∷ vs) w h = by_test (f v == w) refl (search_there f vs w)
  where
    by_test : (b : Bool) → (f v == w) ≡ b → (has (map f vs) w ≡ true → (x : ℕ) × (search f vs w ≡ Some x) × (has vs x ≡ true) × (f x ≡ w))
        → (x : ℕ) × (cond (f v == w) (Some v) (search f vs w) ≡ Some x) × (has (v ∷ vs) x ≡ true) × (f x ≡ w)
    by_test true e later = (v, ap (λ b. cond b (Some v) (search f vs w)) e, or_left (v == v) (has vs v) (eq-eqb v v refl), eqb-true (f v) w e)
    by_test false e later =
        let rest : has (map f vs) w ≡ true = subst (λ b. b || has (map f vs) w ≡ true) e h in
        let found = later rest in
        (found.0, ap (λ b. cond b (Some v) (search f vs w)) e ∙ found.1, or_right (v == found.0) (has vs found.0) found.2, found.3)

module _ (es : List Equation) where
  -- a variable of the one list for each of the other
  pub source : (ps qs : List Indexical) → AreRenamed es ps qs → ℕ → ℕ
  source [] [] h w = w
  source [] (q ∷ qs) h w = w
  source (p ∷ ps) [] h w = w
  source (p ∷ ps) (q ∷ qs) h w = cond (has (named q) w) (or_else (search h.0.new (named p) w) w) (source ps qs h.1 w)

  pub target : (ps qs : List Indexical) → AreRenamed es ps qs → ℕ → ℕ
  target [] [] h v = v
  target [] (q ∷ qs) h v = v
  target (p ∷ ps) [] h v = v
  target (p ∷ ps) (q ∷ qs) h v = cond (has (named p) v) (h.0.new v) (target ps qs h.1 v)

  new_named : (p q : Indexical) (r : IsRenamed es p q) (v : ℕ) → has (named p) v ≡ true → has (named q) (r.new v) ≡ true
  new_named p q r v c = subst (λ x. has (named x) (r.new v) ≡ true) (sym r.is) (subst (λ l. has l (r.new v) ≡ true) (sym (names_renamed r.new p)) (has_map r.new (named p) v c))

  pub target_is : (ps qs : List Indexical) (h : AreRenamed es ps qs) (v : ℕ) → has (constrained ps) v ≡ true → (has (constrained qs) (target ps qs h v) ≡ true) × AreEqual es v (target ps qs h v)
  unfolding target
  target_is [] [] h v c = absurd (true≢false (sym c))
  target_is [] (q ∷ qs) h v c = absurd h
  target_is (p ∷ ps) [] h v c = absurd h
  target_is (p ∷ ps) (q ∷ qs) h v c = by_test (has (named p) v) refl (λ k. target_is ps qs h.1 v k)
    where
      by_test : (b : Bool) → has (named p) v ≡ b
          → (has (constrained ps) v ≡ true → (has (constrained qs) (target ps qs h.1 v) ≡ true) × AreEqual es v (target ps qs h.1 v))
          → (has (constrained (q ∷ qs)) (cond b (h.0.new v) (target ps qs h.1 v)) ≡ true) × AreEqual es v (cond b (h.0.new v) (target ps qs h.1 v))
      by_test true e more = (here_in q qs (h.0.new v) (new_named p q h.0 v e), h.0.equal v e)
      by_test false e more = elim (constrained_either p ps v c) [
        | inl k ↦ absurd (true≢false (sym k ∙ e))
        | inr k ↦ (let later = more k in (later_in q qs (target ps qs h.1 v) later.0, later.1))
      ]

  pub source_is : (ps qs : List Indexical) (h : AreRenamed es ps qs) (w : ℕ) → has (constrained qs) w ≡ true → (has (constrained ps) (source ps qs h w) ≡ true) × AreEqual es (source ps qs h w) w
  unfolding source or_else
  source_is [] [] h w c = absurd (true≢false (sym c))
  source_is [] (q ∷ qs) h w c = absurd h
  source_is (p ∷ ps) [] h w c = absurd h
  source_is (p ∷ ps) (q ∷ qs) h w c = by_test (has (named q) w) refl (λ k. source_is ps qs h.1 w k)
    where
      by_test : (b : Bool) → has (named q) w ≡ b
          → (has (constrained qs) w ≡ true → (has (constrained ps) (source ps qs h.1 w) ≡ true) × AreEqual es (source ps qs h.1 w) w)
          → (has (constrained (p ∷ ps)) (cond b (or_else (search h.0.new (named p) w) w) (source ps qs h.1 w)) ≡ true)
          × AreEqual es (cond b (or_else (search h.0.new (named p) w) w) (source ps qs h.1 w)) w
      by_test true e more =
          let named_there : has (map h.0.new (named p)) w ≡ true = subst (λ l. has l w ≡ true) (names_renamed h.0.new p) (subst (λ x. has (named x) w ≡ true) h.0.is e) in
          let found = search_there h.0.new (named p) w named_there in
          subst (λ o. (has (constrained (p ∷ ps)) (or_else o w) ≡ true) × AreEqual es (or_else o w) w) (sym found.1)
          (here_in p ps found.0 found.2, λ u i. h.0.equal found.0 found.2 u i ∙ ap u found.3)
      by_test false e more = elim (constrained_either q qs w c) [
        | inl k ↦ absurd (true≢false (sym k ∙ e))
        | inr k ↦ (let later = more k in (later_in p ps (source ps qs h.1 w) later.0, later.1))
      ]

  -- sets by other variables
  module _ (M N : ℕ) (ps bs : List Indexical) (S : Family) (m : IsModel M N es ps S) (g : ℕ → ℕ)
      (to : (w : ℕ) → has (constrained bs) w ≡ true → (has (constrained ps) (g w) ≡ true) × AreEqual es (g w) w)
      (posted : AllPosted (λ p. IsSubset (S (g p.target)) (set_of M (λ w. S (g w)) p.range)) bs) where
    term_of : (w : ℕ) (t : Term) → has (constrained bs) w ≡ true → m.unifier w ≡ t → m.unifier (g w) ≡ t
    term_of w t c e = (to w c).1 m.unifier m.general.unifies ∙ e

    pub moved : IsModel M N es bs (λ w. S (g w))
    moved = record {
      unifier = m.unifier;
      general = m.general;
      closed = record {
        family = record { rising = λ w. m.closed.family.rising (g w) };
        posted = posted;
        values = λ w z n c e i. m.closed.values (g w) z n (to w c).0 (term_of w (Int z) c e) i;
        same = λ v w x c d e f. m.closed.same (g v) (g w) x (to v c).0 (to w d).0 (term_of v (Var x) c e) (term_of w (Var x) d f);
        atoms = λ w a c e. m.closed.atoms (g w) a (to w c).0 (term_of w _ c e);
        compounds = λ w f ts c e. m.closed.compounds (g w) f ts (to w c).0 (term_of w _ c e);
        within = λ w n c i. m.closed.within (g w) n (to w c).0 i;
      };
      full = λ w c. m.full (g w) (to w c).0;
    }

  module _ (M N : ℕ) (ps qs : List Indexical) (h : AreRenamed es ps qs) where
    -- equal variables have one set in a model
    one_set : (rs : List Indexical) (S : Family) → IsModel M N es rs S → (v w : ℕ) → has (constrained rs) v ≡ true → has (constrained rs) w ≡ true → AreEqual es v w → S v ≡ S w
    one_set rs S m v w c d e = one_term M N es rs S m v w (m.unifier w) c d (e m.unifier m.general.unifies) refl

    module _ (S : Family) (m : IsModel M N es ps S) where
      abbrev moved_set : Family
      moved_set w = S (source ps qs h w)

      posted_there : (ps' qs' : List Indexical) → AreRenamed es ps' qs' → ((v : ℕ) → has (constrained ps') v ≡ true → has (constrained ps) v ≡ true)
          → ((w : ℕ) → has (constrained qs') w ≡ true → has (constrained qs) w ≡ true) → AllPosted (λ p. IsSubset (S p.target) (set_of M S p.range)) ps'
          → AllPosted (λ p. IsSubset (moved_set p.target) (set_of M moved_set p.range)) qs'
      posted_there [] [] k i j f = tt
      posted_there [] (q ∷ qs') k i j f = absurd k
      posted_there (p ∷ ps') [] k i j f = absurd k
      posted_there (p ∷ ps') (q ∷ qs') k i j f =
          let at : (v : ℕ) → has (named p) v ≡ true → moved_set (k.0.new v) ≡ S v = λ v c.
          (let d = j (k.0.new v) (here_in q qs' (k.0.new v) (new_named p q k.0 v c)) in
          let s = source_is ps qs h (k.0.new v) d in
          one_set ps S m (source ps qs h (k.0.new v)) v s.0 (i v (here_in p ps' v c)) (λ u e. s.1 u e ∙ sym (k.0.equal v c u e))) in
          let sets : set_of M moved_set (rename_range k.0.new p.range) ≡ set_of M S p.range =
          set_same M k.0.new moved_set S p.range (λ v c. at v (or_right (p.target == v) (has (reads p.range) v) c)) in
          let first = at p.target (or_left (p.target == p.target) (has (reads p.range) p.target) (eq-eqb p.target p.target refl)) in (
            subst (λ x. IsSubset (moved_set x.target) (set_of M moved_set x.range)) (sym k.0.is)
                (subst (λ l. IsSubset l (set_of M moved_set (rename_range k.0.new p.range))) (sym first) (subst (IsSubset (S p.target)) (sym sets) f.0)),
            posted_there ps' qs' k.1 (λ v c. i v (later_in p ps' v c)) (λ w c. j w (later_in q qs' w c)) f.1,
          )

      pub model_there : IsModel M N es qs moved_set
      model_there = moved M N ps qs S m (source ps qs h) (source_is ps qs h) (posted_there ps qs h (λ v c. c) (λ w c. c) m.closed.posted)

    module _ (S : Family) (m : IsModel M N es qs S) where
      abbrev back_set : Family
      back_set v = S (target ps qs h v)

      posted_back : (ps' qs' : List Indexical) → AreRenamed es ps' qs' → ((v : ℕ) → has (constrained ps') v ≡ true → has (constrained ps) v ≡ true)
          → ((w : ℕ) → has (constrained qs') w ≡ true → has (constrained qs) w ≡ true) → AllPosted (λ p. IsSubset (S p.target) (set_of M S p.range)) qs'
          → AllPosted (λ p. IsSubset (back_set p.target) (set_of M back_set p.range)) ps'
      posted_back [] [] k i j f = tt
      posted_back [] (q ∷ qs') k i j f = absurd k
      posted_back (p ∷ ps') [] k i j f = absurd k
      posted_back (p ∷ ps') (q ∷ qs') k i j f =
          let at : (v : ℕ) → has (named p) v ≡ true → S (k.0.new v) ≡ back_set v = λ v c.
          (let t = target_is ps qs h v (i v (here_in p ps' v c)) in
          one_set qs S m (k.0.new v) (target ps qs h v) (j (k.0.new v) (here_in q qs' (k.0.new v) (new_named p q k.0 v c))) t.0
          (λ u e. sym (k.0.equal v c u e) ∙ t.1 u e)) in
          let sets : set_of M S (rename_range k.0.new p.range) ≡ set_of M back_set p.range =
          set_same M k.0.new S back_set p.range (λ v c. at v (or_right (p.target == v) (has (reads p.range) v) c)) in
          let first = at p.target (or_left (p.target == p.target) (has (reads p.range) p.target) (eq-eqb p.target p.target refl)) in
          let own : IsSubset (S (k.0.new p.target)) (set_of M S (rename_range k.0.new p.range)) = subst (λ x. IsSubset (S x.target) (set_of M S x.range)) k.0.is f.0 in (
            subst (λ l. IsSubset l (set_of M back_set p.range)) first (subst (IsSubset (S (k.0.new p.target))) sets own),
            posted_back ps' qs' k.1 (λ v c. i v (later_in p ps' v c)) (λ w c. j w (later_in q qs' w c)) f.1,
          )

      pub model_back : IsModel M N es ps back_set
      model_back = moved M N qs ps S m (target ps qs h) (λ v c. let t = target_is ps qs h v c in (t.0, λ u e. sym (t.1 u e)))
          (posted_back ps qs h (λ v c. c) (λ w c. c) m.closed.posted)

    -- The greatest models have the same sets for equal variables.
    module _ (D E : Family) (m : IsModel M N es ps D) (k : IsModel M N es qs E) (most : (S : Family) → IsModel M N es ps S → (x n : ℕ) → has (S x) n ≡ true → has (D x) n ≡ true)
        (all : (S : Family) → IsModel M N es qs S → (x n : ℕ) → has (S x) n ≡ true → has (E x) n ≡ true) where
      pub greatest_same : (v w : ℕ) → has (constrained ps) v ≡ true → has (constrained qs) w ≡ true → AreEqual es v w → D v ≡ E w
      greatest_same v w c d e =
          let t = target_is ps qs h v c in
          let s = source_is ps qs h w d in
          let there : E (target ps qs h v) ≡ E w = one_set qs E k (target ps qs h v) w t.0 d (λ u i. sym (t.1 u i) ∙ e u i) in
          let back : D (source ps qs h w) ≡ D v = one_set ps D m (source ps qs h w) v s.0 c (λ u i. s.1 u i ∙ sym (e u i)) in
          rising_same 0 M (D v) (E w) (m.closed.family.rising v) (k.closed.family.rising w)
          (record { each = λ n i. all (moved_set D m) (model_there D m) w n (subst (λ l. has l n ≡ true) (sym back) i) })
          (record { each = λ n i. most (back_set E k) (model_back E k) v n (subst (λ l. has l n ≡ true) (sym there) i) })
