-- Models: closed families in which no constrained variable is without a value.
use Rattle.std.proofs.Common.{◌≡◌, ℕ, true, ℤ, pos, List, [], ap, sym, ◌∙◌, subst, inl, inr}
use Rattle.std.proofs.lemmas.Bool.{true≢false}
use Rattle.fd_language.specs.Term.{Term, Var, Int, Atom, Comp, Substitution, apply, apply_all}
use Rattle.fd_language.specs.Unifier.{Equation, IsMostGeneral, Unifies}
use Rattle.fd_language.specs.Family.{Family, has, IsSubset}
use Rattle.fd_language.specs.Range.{Indexical}
use Rattle.fd_model.specs.ClosedFamilies.{constrained}
use Rattle.fd_model.specs.BranchViews.{IsConsistent, IsView}
use Rattle.fd_model.specs.Models.{IsModel}
use Rattle.fd_language.proofs.Lemmas.{rising_same, solved, Solved}
use Rattle.fd_model.proofs.ClosedFamilies.{closed_either}

pub consistent_from : (M N : ℕ) (es : List Equation) (ps : List Indexical) (S : Family) → IsModel M N es ps S → IsConsistent M N es ps
consistent_from M N es ps S m = record {
  unifier = m.unifier;
  general = m.general;
  some = λ x c. (let f = m.full x c in (f.0, record { unifier = m.unifier; general = m.general; family = S; closed = m.closed; member = f.1 }));
}

-- the family of a consistent branch's view is a model, and contains each
pub view_model : (M N : ℕ) (es : List Equation) (ps : List Indexical) (s : Substitution) (D : Family) → IsView M N es ps s D → IsConsistent M N es ps → IsModel M N es ps D
view_model M N es ps s D v c = record {
  unifier = s;
  general = v.general;
  closed = v.closed;
  full = λ x k. (let f = c.some x k in (f.0, ((v.contains f.1.family (closed_either M N es s f.1.unifier ps f.1.family v.general f.1.general f.1.closed)).at x).each f.0 f.1.member));
}

pub in_view : (M N : ℕ) (es : List Equation) (ps : List Indexical) (s : Substitution) (D S : Family) → IsView M N es ps s D → IsModel M N es ps S → (x n : ℕ) → has (S x) n ≡ true → has (D x) n ≡ true
in_view M N es ps s D S v m x n h = ((v.contains S (closed_either M N es s m.unifier ps S v.general m.general m.closed)).at x).each n h

-- variables with one term have one set
module _ (M N : ℕ) (es : List Equation) (ps : List Indexical) (S : Family) (m : IsModel M N es ps S) where
  pos_same : (n k : ℕ) → pos n ≡ pos k → n ≡ k
  pos_same n k e = cc

  pub not_empty : (xs : List ℕ) (n : ℕ) → xs ≡ [] → has xs n ≡ true → ⊥
  not_empty xs n e h = true≢false (sym (subst (λ l. has l n ≡ true) e h))

  int_inside : (v w : ℕ) (z : ℤ) → has (constrained ps) v ≡ true → has (constrained ps) w ≡ true → m.unifier v ≡ Int z → m.unifier w ≡ Int z → IsSubset (S v) (S w)
  int_inside v w z c d e f = record {
    each = λ n h.
        let other = m.full w d in
        let one : pos n ≡ z = m.closed.values v z n c e h in
        let two : pos other.0 ≡ z = m.closed.values w z other.0 d f other.1 in
        let same : other.0 ≡ n = pos_same other.0 n (two ∙ sym one) in
        subst (λ k. has (S w) k ≡ true) same other.1;
  }

  pub one_term : (v w : ℕ) (t : Term) → has (constrained ps) v ≡ true → has (constrained ps) w ≡ true → m.unifier v ≡ t → m.unifier w ≡ t → S v ≡ S w
  one_term v w (Var x) c d e f = m.closed.same v w x c d e f
  one_term v w (Int z) c d e f = rising_same 0 M (S v) (S w) (m.closed.family.rising v) (m.closed.family.rising w) (int_inside v w z c d e f) (int_inside w v z d c f e)
  one_term v w (Atom a) c d e f = absurd (let g = m.full v c in not_empty (S v) g.0 (m.closed.atoms v a c e) g.1)
  one_term v w (Comp g ts) c d e f = absurd (let k = m.full v c in not_empty (S v) k.0 (m.closed.compounds v g ts c e) k.1)

-- solved, since some substitution unifies
pub has_general : (es : List Equation) (u : Substitution) → Unifies u es → Solved es → (s : Substitution) × IsMostGeneral es s
has_general es u h (inl g) = g
has_general es u h (inr n) = absurd (n u h)

-- with weaker equations a model stays one
pub weaker : (M N : ℕ) (es ds : List Equation) (ps : List Indexical) (S : Family) → ((u : Substitution) → Unifies u es → Unifies u ds) → IsModel M N es ps S → IsModel M N ds ps S
weaker M N es ds ps S weak m =
    let found = has_general ds m.unifier (weak m.unifier m.general.unifies) (solved ds) in
    let through : (v : ℕ) (t : Term) → found.0 v ≡ t → m.unifier v ≡ apply m.unifier t = λ v t e. sym (found.1.general m.unifier v (weak m.unifier m.general.unifies)) ∙ ap (apply m.unifier) e in
    record {
      unifier = found.0;
      general = found.1;
      closed = record {
        family = m.closed.family;
        posted = m.closed.posted;
        values = λ v z n c e h. m.closed.values v z n c (through v (Int z) e) h;
        same = λ v w x c d e f. one_term M N es ps S m v w (m.unifier x) c d (through v (Var x) e) (through w (Var x) f);
        atoms = λ v a c e. m.closed.atoms v a c (through v (Atom a) e);
        compounds = λ v f ts c e. m.closed.compounds v f (apply_all m.unifier ts) c (through v (Comp f ts) e);
        within = m.closed.within;
      };
      full = m.full;
    }
