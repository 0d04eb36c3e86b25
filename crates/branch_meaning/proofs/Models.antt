-- Models under fewer equations, and under the integers that they give.
use Rattle.std.proofs.Common.{◌≡◌, ℕ, Bool, true, false, cond, ◌==◌, ℤ, pos, List, [], ◌∷◌, ◌++◌, refl, ap, sym, ◌∙◌, subst, inl, inr, ◌⊎◌, eqb-true}
use Rattle.fd_language.specs.Term.{Term, Terms, Var, Int, Atom, Comp, Name, Substitution, apply, apply_all}
use Rattle.fd_language.specs.Unifier.{Equation, IsMostGeneral, Unifies}
use Rattle.fd_language.specs.Family.{Family, has, IsSubset, IsInside}
use Rattle.fd_language.specs.Range.{Indexical, set_of}
use Rattle.fd_model.specs.ClosedFamilies.{AllPosted, constrained}
use Rattle.fd_model.specs.BranchViews.{IsConsistent}
use Rattle.fd_language.specs.Monotonicity.{IsMonotone}
use Rattle.fd_model.proofs.Lemmas.{greatest_for, closed_either, posted_left, posted_right, named_left, named_right, one_term, not_empty, has_general}
use Rattle.fd_language.proofs.Lemmas.{solved, bound_at, join_both, split_both, still_unifies, through_term, number_for, number_at, number_back}
use Rattle.fd_model.specs.Children.{is_number}
use Rattle.fd_model.specs.Models.{IsModel}
use Rattle.branch_meaning.specs.Heap.{after, applied_each}
use Rattle.branch_meaning.specs.Models.{Fix, numbers, Sure}
use Rattle.branch_meaning.proofs.HeapExtension.{applied_back}

-- consistent branches have models, and the greatest of them
pub model_from : (M N : ℕ) (es : List Equation) (ps : List Indexical) → AllPosted (λ p. IsMonotone M p.range) ps → IsConsistent M N es ps
    → (S : Family) × IsModel M N es ps S × ((T : Family) → IsModel M N es ps T → IsInside T S)
model_from M N es ps mono c =
    let d = greatest_for M N c.unifier ps mono in (
      d.0,
      record {
        unifier = c.unifier;
        general = c.general;
        closed = d.1;
        full = λ x k. (let f = c.some x k in (f.0, ((d.2 f.1.family (closed_either M N es c.unifier f.1.unifier ps f.1.family c.general f.1.general f.1.closed)).at x).each f.0 f.1.member));
      },
      λ T m. d.2 T (closed_either M N es c.unifier m.unifier ps T c.general m.general m.closed),
    )

-- with weaker equations and fewer ranges a model stays one
pub weaker : (M N : ℕ) (es ds : List Equation) (ps qs : List Indexical) (S : Family) → ((u : Substitution) → Unifies u es → Unifies u ds)
    → (AllPosted (λ p. IsSubset (S p.target) (set_of M S p.range)) ps → AllPosted (λ p. IsSubset (S p.target) (set_of M S p.range)) qs)
    → ((x : ℕ) → has (constrained qs) x ≡ true → has (constrained ps) x ≡ true) → IsModel M N es ps S → IsModel M N ds qs S
weaker M N es ds ps qs S weak fewer inside m =
    let found = has_general ds m.unifier (weak m.unifier m.general.unifies) (solved ds) in
    let through : (v : ℕ) (t : Term) → found.0 v ≡ t → m.unifier v ≡ apply m.unifier t = λ v t e. sym (found.1.general m.unifier v (weak m.unifier m.general.unifies)) ∙ ap (apply m.unifier) e in
    record {
      unifier = found.0;
      general = found.1;
      closed = record {
        family = m.closed.family;
        posted = fewer m.closed.posted;
        values = λ v z n c e h. m.closed.values v z n (inside v c) (through v (Int z) e) h;
        same = λ v w x c d e f. one_term M N es ps S m v w (m.unifier x) (inside v c) (inside w d) (through v (Var x) e) (through w (Var x) f);
        atoms = λ v a c e. m.closed.atoms v a (inside v c) (through v (Atom a) e);
        compounds = λ v f ts c e. m.closed.compounds v f (apply_all m.unifier ts) (inside v c) (through v (Comp f ts) e);
        within = λ v n c h. m.closed.within v n (inside v c) h;
      };
      full = λ x c. m.full x (inside x c);
    }

-- what a branch was before it grew
pub ungrown : (M N : ℕ) (ds es : List Equation) (qs ps : List Indexical) (S : Family) → IsModel M N (ds ++ es) (qs ++ ps) S → IsModel M N es ps S
ungrown M N ds es qs ps S m = weaker M N (ds ++ es) es (qs ++ ps) ps S (λ u h. (split_both u ds es h).1) (posted_right (λ p. IsSubset (S p.target) (set_of M S p.range)) qs ps) (named_right qs ps) m

-- and a store, which grows behind
pub front : (M N : ℕ) (qs rs : List Indexical) (T : Family) → IsModel M N [] (qs ++ rs) T → IsModel M N [] qs T
front M N qs rs T m = weaker M N [] [] (qs ++ rs) qs T (λ u h. h) (posted_left (λ p. IsSubset (T p.target) (set_of M T p.range)) qs rs) (named_left qs rs) m

pub apply_general : (es ds : List Equation) (s u : Substitution) → IsMostGeneral es s → Unifies u es → Unifies u ds → Unifies u (applied_each s ds)
apply_general es [] s u g h k = tt
apply_general es (d ∷ ds) s u g h k = let through = through_term s u (λ y. g.general u y h) in (through d.left ∙ k.0 ∙ sym (through d.right), apply_general es ds s u g h k.1)

-- most general unifiers of a list that grows
pub grown_general : (es ds : List Equation) (s t : Substitution) → IsMostGeneral es s → IsMostGeneral (applied_each s ds) t → IsMostGeneral (ds ++ es) (after t s)
grown_general es ds s t g h = record {
  unifies = join_both (after t s) ds es (applied_back t s ds h.unifies) (still_unifies t s es g.unifies);
  general = λ u x k. (let both = split_both u ds es k in through_term t u (λ y. h.general u y (apply_general es ds s u g both.1 both.0)) (s x) ∙ g.general u x both.1);
}

-- a variable that becomes an integer
pub number_general : (y : ℕ) (z : ℤ) → IsMostGeneral (record { left = Var y; right = Int z } ∷ []) (number_for y z)
unfolding number_for
number_general y z = record {
  unifies = (number_at y z, tt);
  general = λ u x h. bound_at (x == y) u y x (Int z) h.0 (eqb-true x y);
}

number_cases : (b : Bool) (x : ℕ) (z : ℤ) (t : Term) → cond b (Int z) (Var x) ≡ t → ((b ≡ true) × (t ≡ Int z)) ⊎ ((b ≡ false) × (t ≡ Var x))
number_cases true x z t e = inl (refl, sym e)
number_cases false x z t e = inr (refl, sym e)

-- what the integer changes in a term
var_back : (y : ℕ) (z : ℤ) (w : ℕ) (t : Term) → apply (number_for y z) t ≡ Var w → t ≡ Var w
unfolding number_for
var_back y z w (Var x) e = elim (number_cases (x == y) x z (Var w) e) [ inl h ↦ absurd (let g = h.1 in cc) | inr h ↦ sym h.1 ]
var_back y z w (Int j) e = e
var_back y z w (Atom a) e = e
var_back y z w (Comp f ts) e = absurd (cc)

atom_back : (y : ℕ) (z : ℤ) (a : Name) (t : Term) → apply (number_for y z) t ≡ Atom a → t ≡ Atom a
unfolding number_for
atom_back y z a (Var x) e = elim (number_cases (x == y) x z (Atom a) e) [ inl h ↦ absurd (let g = h.1 in cc) | inr h ↦ absurd (let g = h.1 in cc) ]
atom_back y z a (Int j) e = e
atom_back y z a (Atom b) e = e
atom_back y z a (Comp f ts) e = absurd (cc)

comp_back : (y : ℕ) (z : ℤ) (f : Name) (ts : Terms) (t : Term) → apply (number_for y z) t ≡ Comp f ts → (us : Terms) × (t ≡ Comp f us)
unfolding number_for
comp_back y z f ts (Var x) e = elim (number_cases (x == y) x z (Comp f ts) e) [ inl h ↦ absurd (let g = h.1 in cc) | inr h ↦ absurd (let g = h.1 in cc) ]
comp_back y z f ts (Int j) e = absurd (cc)
comp_back y z f ts (Atom b) e = absurd (cc)
comp_back y z f ts (Comp g us) e = (us, let h : g ≡ f = cc in cc)

module _ (M N : ℕ) (es : List Equation) (ps : List Indexical) (S : Family) (m : IsModel M N es ps S) (x n : ℕ) (c : has (constrained ps) x ≡ true) (only : (k : ℕ) → has (S x) k ≡ true → k ≡ n) where
  -- an integer already
  as_int : (z : ℤ) → m.unifier x ≡ Int z → IsModel M N (is_number x n ∷ es) ps S
  as_int z e =
      let f = m.full x c in
      let g : z ≡ pos n = sym (m.closed.values x z f.0 c e f.1) ∙ ap pos (only f.0 f.1) in
      record {
        unifier = m.unifier;
        general = record {
          unifies = (e ∙ ap Int g, m.general.unifies);
          general = λ u y h. m.general.general u y h.1;
        };
        closed = m.closed;
        full = m.full;
      }

  as_var : (y : ℕ) → m.unifier x ≡ Var y → IsModel M N (is_number x n ∷ es) ps S
  as_var y e =
      let g : IsMostGeneral (applied_each m.unifier (is_number x n ∷ [])) (number_for y (pos n)) =
      subst (λ t. IsMostGeneral (record { left = t; right = Int (pos n) } ∷ []) (number_for y (pos n))) (sym e) (number_general y (pos n)) in
      record {
        unifier = after (number_for y (pos n)) m.unifier;
        general = grown_general es (is_number x n ∷ []) m.unifier (number_for y (pos n)) m.general g;
        closed = record {
          family = m.closed.family;
          posted = m.closed.posted;
          values = λ v z k d h i. elim (number_back y (pos n) z (m.unifier v) h) [
            | inl j ↦ ap pos (only k (subst (λ l. has l k ≡ true) (m.closed.same v x y d c j.0 e) i)) ∙ j.1
            | inr j ↦ m.closed.values v z k d j i
          ];
          same = λ v w t d f h i. m.closed.same v w t d f (var_back y (pos n) t (m.unifier v) h) (var_back y (pos n) t (m.unifier w) i);
          atoms = λ v a d h. m.closed.atoms v a d (atom_back y (pos n) a (m.unifier v) h);
          compounds = λ v f ts d h. (let b = comp_back y (pos n) f ts (m.unifier v) h in m.closed.compounds v f b.0 d b.1);
          within = m.closed.within;
        };
        full = m.full;
      }

  by_term : (t : Term) → m.unifier x ≡ t → IsModel M N (is_number x n ∷ es) ps S
  by_term (Var y) e = as_var y e
  by_term (Int z) e = as_int z e
  by_term (Atom a) e = absurd (let f = m.full x c in not_empty M N es ps S m (S x) f.0 (m.closed.atoms x a c e) f.1)
  by_term (Comp g ts) e = absurd (let f = m.full x c in not_empty M N es ps S m (S x) f.0 (m.closed.compounds x g ts c e) f.1)

  -- a constrained variable of one value may as well be equated with it
  pub numbered : IsModel M N (is_number x n ∷ es) ps S
  numbered = by_term (m.unifier x) refl

-- What is sure stays so when the branch grows.
pub sure_grown : (M N : ℕ) (ds es : List Equation) (qs ps : List Indexical) (fs : List Fix) → Sure M N es ps fs → Sure M N (ds ++ es) (qs ++ ps) fs
sure_grown M N ds es qs ps [] h = tt
sure_grown M N ds es qs ps (f ∷ fs) h = ((named_right qs ps f.variable h.0.0, λ S m. h.0.1 S (ungrown M N ds es qs ps S m)), sure_grown M N ds es qs ps fs h.1)

-- the models of a branch are those with its sure integers
pub with_numbers : (M N : ℕ) (es : List Equation) (ps : List Indexical) (fs : List Fix) (S : Family) → Sure M N es ps fs → IsModel M N es ps S → IsModel M N (numbers fs ++ es) ps S
with_numbers M N es ps [] S h m = m
with_numbers M N es ps (f ∷ fs) S h m = numbered M N (numbers fs ++ es) ps S (with_numbers M N es ps fs S h.1 m) f.variable f.number h.0.0 (h.0.1 S m)

pub without_numbers : (M N : ℕ) (es : List Equation) (ps : List Indexical) (fs : List Fix) (S : Family) → IsModel M N (numbers fs ++ es) ps S → IsModel M N es ps S
without_numbers M N es ps fs S m = ungrown M N (numbers fs) es [] ps S m
