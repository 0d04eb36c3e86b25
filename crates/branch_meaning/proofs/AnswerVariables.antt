-- What an answer shows: the open cells of the heap's terms are the open variables of the seen terms, one for one and with the same sets.
use Rattle.std.proofs.Common.{◌≡◌, ℕ, true, List, [], ◌∷◌, ◌++◌, Option, Some, None, ap, sym, ◌∙◌}
use Rattle.fd_language.specs.Term.{Term, Var, Int, Atom, Comp, Substitution, apply}
use Rattle.fd_language.specs.Unifier.{Equation}
use Rattle.fd_language.specs.Family.{Family, has}
use Rattle.fd_language.specs.Range.{Indexical}
use Rattle.fd_model.specs.ClosedFamilies.{constrained}
use Rattle.fd_model.specs.BranchViews.{IsView, seen, set_at, by_set}
use Rattle.fd_model.specs.Models.{IsModel}
use Rattle.branch_meaning.specs.Store.{IsStored, shown_set, linked_set}
use Rattle.branch_meaning.proofs.SeenTerms.{some_found, found}

module _ (M N : ℕ) (es ds : List Equation) (ps : List Indexical) (s : Substitution) (D : Family) (v : IsView M N es ps s D)
    (P : ℕ → Type 0) (h : ℕ) (look : Substitution) (link : ℕ → Option ℕ) (slot : ℕ → ℕ) (qs : List Indexical)
    (st : IsStored M N (ds ++ es) ps P h look link slot qs) (T : Family) (t : IsModel M N [] qs T)
    (sets : (x : ℕ) → has (constrained ps) x ≡ true → D x ≡ T (slot x))
    (look_s : (x : ℕ) → apply look (s x) ≡ look x) (back : Substitution) (back_look : (x : ℕ) → P x → apply back (look x) ≡ seen s D (constrained ps) (Var x)) where
  -- a constrained open variable is a linked cell with the same set
  pub set_there : (c y : ℕ) (xs : List ℕ) → look y ≡ Var c → set_at s D (constrained ps) y ≡ Some xs → (k : ℕ) × (link c ≡ Some k) × (T k ≡ xs)
  set_there c y xs e g =
      let f = some_found s D (constrained ps) y xs g in
      let w : look f.variable ≡ Var c = sym (look_s f.variable) ∙ ap (apply look) f.goes ∙ e in
      let l = st.linked f.variable c f.there w in
      let one : D f.variable ≡ xs = let q : Some xs ≡ Some (D f.variable) = f.is in (let r : xs ≡ D f.variable = cc in sym r) in
      (l.0, l.1, sym (ap (λ o. linked_set o T) l.1) ∙ sym (ap (shown_set link T) w) ∙ st.agrees T t f.variable f.there ∙ sym (sets f.variable f.there) ∙ one)

  by_set_var : (o : Option (List ℕ)) (x y : ℕ) → by_set o x ≡ Var y → x ≡ y
  by_set_var None x y e = cc
  by_set_var (Some []) x y e = cc
  by_set_var (Some (i ∷ [])) x y e = absurd (cc)
  by_set_var (Some (i ∷ j ∷ js)) x y e = cc

  seen_var : (r : Term) (y : ℕ) → apply (λ z. by_set (set_at s D (constrained ps) z) z) r ≡ Var y → r ≡ Var y
  seen_var (Var x) y e = ap Var (by_set_var (set_at s D (constrained ps) x) x y e)
  seen_var (Int z) y e = absurd (cc)
  seen_var (Atom a) y e = absurd (cc)
  seen_var (Comp f ts) y e = absurd (cc)

  -- and the other way
  pub set_back : (c y k : ℕ) → back c ≡ Var y → link c ≡ Some k → set_at s D (constrained ps) y ≡ Some (T k)
  set_back c y k e g =
      let w = st.from c k g in
      let here : seen s D (constrained ps) (Var w.0) ≡ Var y = sym (back_look w.0 (st.used w.0 w.1)) ∙ ap (apply back) w.2 ∙ e in
      let goes : s w.0 ≡ Var y = seen_var (s w.0) y here in
      let f = found s D (constrained ps) w.0 y w.1 goes in
      f.is ∙ ap Some (v.closed.same f.variable w.0 y f.there w.1 f.goes goes ∙ sets w.0 w.1 ∙ ap T w.3)
