-- The comparisons and their rows.
use Rattle.std.proofs.Common.{◌≡◌, ℕ, suc, ◌≤◌, ◌<◌, Bool, true, false, cond, ℤ, pos, neg_ℤ, List, [], ◌∷◌, None, refl, ap, sym, subst, Ok}
use Rattle.fd_model.specs.declared.kinds.Relation.{Relation}
use Rattle.fd_model.specs.declared.kinds.Relation.TheVariants.{Greater, AtLeast}
use Rattle.fd_model.specs.declared.kinds.ConstraintKind.TheVariants.{Compare}
use Rattle.fd_language.specs.Term.{Term, Var, Comp, no_terms, term}
use Rattle.fd_language.specs.Variables.{TermBelow}
use Rattle.fd_language.specs.Range.{Indexical}
use Rattle.fd_model.specs.Linear.{nonzero, Comparison, comparison, Linear, linear_of, of_one, of_both, difference_of, collect_term, collect, normal}
use Rattle.fd_model.specs.Linear.{normal_form}
use Rattle.fd_model.specs.LinearRows.{Expansion, linear_rows, compares, no_number}
use Rattle.fd_model.specs.ConstraintExpansion.{compare}
use Rattle.fd_model.specs.Satisfaction.{Assignment, worth, Holds, HasResult}
use Rattle.fd_model.specs.ProductRows.{product_form}
use Rattle.fd_model.specs.ConstraintLaws.{total, Fits, OneFits, IsRewritten}
use Rattle.fd_model.proofs.CollectedSums.{one_ok, collect_is}
use Rattle.fd_model.proofs.NormalForms.{normal_is, normal_ok}
use Rattle.fd_model.proofs.Singles.{up_to, Inside}
use Rattle.fd_model.proofs.LinearForms.{NoneZero, nonzero_left, nonzero_scaled, rows_inside, rows_back, nothing_inside}

-- a term is worth the same where its variables have the same values
pub worth_same : (n : ℕ) (a b : Assignment) → ((v : ℕ) → v < n → b v ≡ a v) → (t : Term) → TermBelow n t → worth b t ≡ worth a t
worth_same n a b h (Var x) k = ap pos (h x k)
worth_same n a b h (Comp f (term s no_terms)) k = ap neg_ℤ (worth_same n a b h s k.0)
worth_same n a b h (Comp f (term s (term t no_terms))) k = let e = worth_same n a b h s k.0 in let g = worth_same n a b h t k.1.0 in cc
worth_same n a b h _ k = refl

module _ (M n : ℕ) where
  -- an expansion that adds no variables
  pub one_alone : (N : ℕ) (a : Assignment) (x : Expansion) → ((v : ℕ) → a v ≤ N) → x.fresh ≡ n → Fits M x a → OneFits M N n x a
  one_alone N a x small e f = record {
    extension = a;
    extends = record { within = small; same = λ v h. refl };
    fits = f;
    only = λ b g k v h. g.same v (subst (λ m. v < m) e h);
  }

  form_alone : (c : Bool) (a : Assignment) (p : Indexical) → c ≡ true
      → let x : Expansion = cond c (record { equated = []; ranges = []; fresh = n }) (record { equated = []; ranges = p ∷ []; fresh = suc n }) in Fits M x a × (x.fresh ≡ n)
  form_alone true a p h = (record { equated = tt; inside = tt }, refl)
  form_alone false a p h = absurd (cc)

  pub form_fits : (k : Comparison) (ts : List (ℕ × ℤ)) (c : ℤ) (a : Assignment) → ((v : ℕ) → a v ≤ M) → NoneZero ts → compares k (total a ts) c ≡ true
      → Fits M (linear_rows k ts c n) a × ((linear_rows k ts c n).fresh ≡ n)
  form_fits k [] c a small z h = form_alone (compares k (pos 0) c) a (record { target = n; range = no_number }) h
  form_fits k (t ∷ ts) c a small z h = (record { equated = tt; inside = rows_inside M a small k c [] (t ∷ ts) z h }, refl)

  pub form_one : (N : ℕ) → N ≤ M → (k : Comparison) (ts : List (ℕ × ℤ)) (c : ℤ) (a : Assignment) → ((v : ℕ) → a v ≤ N) → NoneZero ts
      → compares k (total a ts) c ≡ true → OneFits M N n (linear_rows k ts c n) a
  form_one N l k ts c a small z h = let f = form_fits k ts c a (up_to M N l a small) z h in one_alone N a (linear_rows k ts c n) small f.1 f.0

  form_none : (c : Bool) (b : Assignment) → ((v : ℕ) → b v ≤ M)
      → (let x : Expansion = cond c (record { equated = []; ranges = []; fresh = n })
      (record { equated = []; ranges = record { target = n; range = no_number } ∷ []; fresh = suc n }) in Inside M b x.ranges) → c ≡ true
  form_none true b small f = refl
  form_none false b small f = absurd (nothing_inside M b small n f.0)

  pub form_holds : (k : Comparison) (ts : List (ℕ × ℤ)) (c : ℤ) (b : Assignment) → ((v : ℕ) → b v ≤ M) → NoneZero ts → Inside M b (linear_rows k ts c n).ranges → compares k (total b ts) c ≡ true
  form_holds k [] c b small z f = form_none (compares k (pos 0) c) b small f
  form_holds k (t ∷ ts) c b small z f = rows_back M b small k c t ts z f

  pub form_back : (k : Comparison) (ts : List (ℕ × ℤ)) (c : ℤ) (b : Assignment) → ((v : ℕ) → b v ≤ M) → NoneZero ts → Fits M (linear_rows k ts c n) b → compares k (total b ts) c ≡ true
  form_back k ts c b small z f = form_holds k ts c b small z f.inside

-- a collected form has no coefficient 0
pub collect_nonzero : (s t : Term) (l : Linear) → collect s t ≡ Ok l → NoneZero l.products
collect_nonzero s t l h =
    let j = one_ok linear_of (of_both difference_of (collect_term s) (collect_term t)) l h in
    let g : record { products = nonzero j.0.products; constant = neg_ℤ j.0.constant } ≡ l = cc (j.2) in
    subst (λ w. NoneZero w.products) g (nonzero_left j.0.products)

pub normal_nonzero : (r : Relation) (l : Linear) → NoneZero l.products → NoneZero (normal r l).products
normal_nonzero Greater l h = nonzero_scaled l.products h
normal_nonzero AtLeast l h = nonzero_scaled l.products h
normal_nonzero _ l h = h

-- the normal form that a comparison's ranges are made of
pub record IsCompared (r : Relation) (s t : Term) (n : ℕ) (x : Expansion) : Type 0 where
  pub linear : Linear
  pub collected : collect s t ≡ Ok linear
  pub normal_is : (m : Linear) × (normal_form r linear ≡ Ok m)
  pub rows : linear_rows (comparison r) (normal r linear).products (normal r linear).constant n ≡ x

pub form_of : (r : Relation) (s t : Term) (n : ℕ) (x : Expansion) → compare r s t n ≡ Ok x → IsCompared r s t n x
form_of r s t n x h =
    let j = one_ok (λ l. Ok (linear_rows (comparison r) l.products l.constant n)) (of_one (normal_form r) (collect s t)) x h in
    let k = one_ok (normal_form r) (collect s t) j.0 j.1 in
    let e = (normal_ok r k.0 j.0 k.2).0 in
    let f : linear_rows (comparison r) j.0.products j.0.constant n ≡ x = cc (j.2) in
    record { linear = k.0; collected = k.1; normal_is = (j.0, k.2); rows = subst (λ w. linear_rows (comparison r) w.products w.constant n ≡ x) (sym e) f }

pub compared : (M N : ℕ) → N ≤ M → (r : Relation) (s t : Term) (n : ℕ) (x : Expansion) (a : Assignment) → TermBelow n s → TermBelow n t → ((v : ℕ) → a v ≤ N)
    → product_form r s t ≡ None → compare r s t n ≡ Ok x → IsRewritten M N (Compare r) (term s (term t no_terms)) n x a
compared M N l r s t n x a ks kt small none h =
    let f = form_of r s t n x h in
    let m = normal r f.linear in
    let z = normal_nonzero r f.linear (collect_nonzero s t f.linear f.collected) in
    record {
      one = λ sat. subst (λ y. OneFits M N n y a) f.rows (form_one M n N l (comparison r) m.products m.constant a small z
          ((normal_is a r f.linear (worth a s) (worth a t) (collect_is a s t f.linear f.collected)).0 sat.1));
      satisfied = λ b e fits.
          let back = (normal_is b r f.linear (worth b s) (worth b t) (collect_is b s t f.linear f.collected)).1
          (form_back M n (comparison r) m.products m.constant b (up_to M N l b e.within) z (subst (λ y. Fits M y b) (sym f.rows) fits)) in
          (subst (HasResult N) (sym none) tt, subst (λ y. Holds r y (worth a t)) (worth_same n a b e.same s ks) (subst (λ y. Holds r (worth b s) y) (worth_same n a b e.same t kt) back));
    }
