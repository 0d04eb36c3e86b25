-- There is one view of a branch, and one list of kept ones among branches.
use Rattle.std.proofs.Common.{◌≡◌, ℕ, ◌≤◌, List, [], ◌∷◌, refl, ap, sym, ◌∙◌, subst, inl, inr, arith}
use mathlib.Core.Path.{fun_ext}
use Rattle.fd_language.specs.Term.{Term, Terms, Var, Int, Atom, Comp, Substitution, apply, apply_all, no_terms, term}
use Rattle.fd_language.specs.Unifier.{Equation, IsMostGeneral}
use Rattle.fd_language.specs.Family.{Family, IsInside}
use Rattle.fd_language.specs.Range.{Indexical}
use Rattle.fd_model.specs.ClosedFamilies.{IsClosed}
use Rattle.fd_model.specs.Goal.{Branch}
use Rattle.fd_model.specs.BranchViews.{IsView}
use Rattle.fd_model.specs.Children.{Kept}
use Rattle.fd_language.proofs.Lemmas.{rising_same}
use Rattle.fd_model.proofs.ClosedFamilies.{var_from}

-- what s leaves as it is, u leaves as it is
mutual
  still_term : (s u : Substitution) → ((y : ℕ) → s y ≡ Var y → u y ≡ Var y) → (t : Term) → apply s t ≡ t → apply u t ≡ t
  still_term s u h (Var x) e = h x e
  still_term s u h (Int z) e = refl
  still_term s u h (Atom a) e = refl
  still_term s u h (Comp f ts) e = let rest : apply_all s ts ≡ ts = cc in ap (Comp f) (still_terms s u h ts rest)

  still_terms : (s u : Substitution) → ((y : ℕ) → s y ≡ Var y → u y ≡ Var y) → (ts : Terms) → apply_all s ts ≡ ts → apply_all u ts ≡ ts
  still_terms s u h no_terms e = refl
  still_terms s u h (term t ts) e =
      let one : apply s t ≡ t = cc in let more : apply_all s ts ≡ ts = cc in
      let first = still_term s u h t one in let rest = still_terms s u h ts more in cc

least_once : (es : List Equation) (s u : Substitution) → IsMostGeneral es s → IsMostGeneral es u → ((x y : ℕ) → s x ≡ Var y → y ≤ x)
    → ((x y : ℕ) → u x ≡ Var y → y ≤ x) → (y : ℕ) → s y ≡ Var y → u y ≡ Var y
least_once es s u g h p q y e =
    let found = var_from s (u y) y (h.general s y g.unifies ∙ e) in
    let low : found.0 ≤ y = q y found.0 found.1 in
    let back : s found.0 ≡ Var y = sym (ap (apply s) found.1) ∙ h.general s y g.unifies ∙ e in
    let high : y ≤ found.0 = p found.0 y back in
    let same : found.0 ≡ y = omega arith in
    found.1 ∙ ap Var same

one_unifier : (es : List Equation) (s u : Substitution) → IsMostGeneral es s → IsMostGeneral es u → ((x y : ℕ) → s x ≡ Var y → y ≤ x) → ((x y : ℕ) → u x ≡ Var y → y ≤ x) → (x : ℕ) → s x ≡ u x
one_unifier es s u g h p q x =
    sym (still_term s u (least_once es s u g h p q) (s x) (g.general s x g.unifies)) ∙ g.general u x h.unifies

pub one_family : (M N : ℕ) (s : Substitution) (ps : List Indexical) (D E : Family) → IsClosed M N s ps D → IsClosed M N s ps E → IsInside D E → IsInside E D → (x : ℕ) → D x ≡ E x
one_family M N s ps D E c d i j x = rising_same 0 M (D x) (E x) (c.family.rising x) (d.family.rising x) (i.at x) (j.at x)

pub kept_once : (M N : ℕ) (bs cs ds : List Branch) → Kept M N bs cs → Kept M N bs ds → cs ≡ ds
kept_once M N [] cs ds h g = h ∙ sym g
kept_once M N (b ∷ bs) cs ds (inl h) (inl g) = h.1.1 ∙ ap (λ l. b ∷ l) (kept_once M N bs h.1.0 g.1.0 h.1.2 g.1.2) ∙ sym g.1.1
kept_once M N (b ∷ bs) cs ds (inl h) (inr g) = absurd (g.0 h.0)
kept_once M N (b ∷ bs) cs ds (inr h) (inl g) = absurd (h.0 g.0)
kept_once M N (b ∷ bs) cs ds (inr h) (inr g) = kept_once M N bs cs ds h.1 g.1

-- there is one view
pub one_view : (M N : ℕ) (es : List Equation) (ps : List Indexical) (s u : Substitution) (D E : Family) → IsView M N es ps s D → IsView M N es ps u E → (s ≡ u) × (D ≡ E)
one_view M N es ps s u D E v w =
    let units : s ≡ u = fun_ext (one_unifier es s u v.general w.general v.least w.least) in
    let closed : IsClosed M N s ps E = subst (λ x. IsClosed M N x ps E) (sym units) w.closed in
    (units, fun_ext (one_family M N s ps D E v.closed closed (w.contains D (subst (λ x. IsClosed M N x ps D) units v.closed)) (v.contains E closed)))

-- a thing that is made from the view is one
pub from_view : {A : Type 0} (M N : ℕ) (b : Branch) (s u : Substitution) (D E : Family) (f : Substitution → Family → A) → IsView M N b.equations b.posted s D
    → IsView M N b.equations b.posted u E → f s D ≡ f u E
from_view M N b s u D E f v w = let one = one_view M N b.equations b.posted s u D E v w in ap (λ x. f x D) one.0 ∙ ap (λ x. f u x) one.1
