-- What substitutions do to terms.
use Rattle.std.proofs.Common.{◌≡◌, ℕ, ◌+◌, ◌*◌, ◌≤◌, Bool, true, false, cond, ◌==◌, refl, ap, arith, eqb-true, eq-eqb}
use Rattle.std.proofs.lemmas.Bool.{or_parts}
use Rattle.fd_language.proofs.Lemmas.{bound_at, through_term}
use Rattle.term_pool.proofs.Lemmas.{size_above_zero}
use Rattle.fd_language.specs.Term.{Term, Terms, Var, Int, Atom, Comp, Substitution, apply, apply_all, no_terms, term}
use Rattle.term_pool.specs.Terms.{size, sizes}
use Rattle.heap_cells.specs.Terms.{occurs, occurs_any, one}

-- substitutions that agree
mutual
  pub same_apply : (r s : Substitution) → ((x : ℕ) → r x ≡ s x) → (t : Term) → apply r t ≡ apply s t
  same_apply r s h (Var x) = h x
  same_apply r s h (Int z) = refl
  same_apply r s h (Atom a) = refl
  same_apply r s h (Comp f ts) = ap (Comp f) (same_apply_all r s h ts)

  pub same_apply_all : (r s : Substitution) → ((x : ℕ) → r x ≡ s x) → (ts : Terms) → apply_all r ts ≡ apply_all s ts
  same_apply_all r s h no_terms = refl
  same_apply_all r s h (term t ts) = let a = same_apply r s h t in let b = same_apply_all r s h ts in cc

-- a term without x is left as it is
mutual
  pub one_other : (x : ℕ) (t u : Term) → occurs x u ≡ false → apply (one x t) u ≡ u
  one_other x t (Var y) h = rw h refl
  one_other x t (Int z) h = refl
  one_other x t (Atom a) h = refl
  one_other x t (Comp f us) h = ap (Comp f) (one_others x t us h)

  pub one_others : (x : ℕ) (t : Term) (us : Terms) → occurs_any x us ≡ false → apply_all (one x t) us ≡ us
  one_others x t no_terms h = refl
  one_others x t (term u us) h = let parts = or_parts (occurs x u) (occurs_any x us) h in let a = one_other x t u parts.0 in let b = one_others x t us parts.1 in cc

pub one_self : (x : ℕ) (t : Term) → one x t x ≡ t
one_self x t = rw (eq-eqb x x refl) refl

-- a substitution that gives x and t the same term
pub through_one : (u : Substitution) (x : ℕ) (t : Term) → u x ≡ apply u t → (r : Term) → apply u (apply (one x t) r) ≡ apply u r
through_one u x t e r = through_term (one x t) u (λ y. bound_at (y == x) u x y t e (eqb-true y x)) r

-- a substitution that changes nothing further
pub through_all : (u s : Substitution) → ((x : ℕ) → apply u (s x) ≡ u x) → (t : Term) → apply u (apply s t) ≡ apply u t
through_all u s h t = through_term s u h t

size_choice : (b : Bool) (t : Term) (y : ℕ) → size (cond b t (Var y)) ≤ 1 * size t
size_choice true t y = omega arith
size_choice false t y = let h = size_above_zero t in omega arith

-- a term grows by no more than the size of what is put in
mutual
  pub size_one : (x : ℕ) (t r : Term) → size (apply (one x t) r) ≤ size r * size t
  size_one x t (Var y) = size_choice (y == x) t y
  size_one x t (Int z) = let h = size_above_zero t in omega arith
  size_one x t (Atom a) = let h = size_above_zero t in omega arith
  size_one x t (Comp f rs) = let h = sizes_one x t rs in let p = size_above_zero t in omega arith

  pub sizes_one : (x : ℕ) (t : Term) (rs : Terms) → sizes (apply_all (one x t) rs) ≤ sizes rs * size t
  sizes_one x t no_terms = omega arith
  sizes_one x t (term r rs) = let a = size_one x t r in let b = sizes_one x t rs in omega arith
