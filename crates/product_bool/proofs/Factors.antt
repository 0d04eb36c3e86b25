-- The parts of product forms, and of comparisons, as they are found.
use Rattle.std.proofs.Common.{◌≡◌, ℕ, ◌≤◌, ◌<◌, true, false, cond, List, [], ◌∷◌, length, Option, Some, None, refl, ap, sym, ◌∙◌, subst, arith, Ok, Err}
use Rattle.std.specs.Option.{option_or}
use Rattle.std.specs.Str.{bytes_eq}
use Rattle.std.specs.Prelude.{codes}
use Rattle.fd_language.specs.Term.{Term, Var, Int, Atom, Comp, no_terms, term, Name}
use Rattle.fd_model.specs.declared.kinds.QueryFault.{QueryFault}
use Rattle.fd_model.specs.Members.{Member, Open, Known, as_member}
use Rattle.fd_model.specs.ProductRows.{Product, factors, with_result}
use Rattle.fd_model.specs.declared.kinds.QueryFault.TheVariants.{BadType}
use Rattle.fd_model.specs.ReifiedRows.{read_comparison}
use Rattle.term_pool.specs.declared.TermId.{TermId}
use Rattle.term_pool.specs.Contents.{Contents}
use Rattle.term_pool.specs.Terms.{term_of, terms_by}
use Rattle.product_bool.specs.Products.{variable_at}

variable_is : (t : Term) (x : ℕ) → variable_at t ≡ Some x → t ≡ Var x
variable_is (Var y) x h = ap Var (let e : y ≡ x = cc in e)
variable_is (Int z) x h = absurd (cc)
variable_is (Atom a) x h = absurd (cc)
variable_is (Comp f ts) x h = absurd (cc)

pub both_found : (f : Name) (s t : Term) (x y : ℕ) → bytes_eq f (codes "*") ≡ true → variable_at s ≡ Some x → variable_at t ≡ Some y → factors (Comp f (term s (term t no_terms))) ≡ Some (x, y)
both_found f s t x y e h g =
    subst (λ a. factors (Comp f (term a (term t no_terms))) ≡ Some (x, y)) (sym (variable_is s x h))
    (subst (λ b. factors (Comp f (term (Var x) (term b no_terms))) ≡ Some (x, y)) (sym (variable_is t y g)) (ap (λ c. cond c (Some (x, y)) None) e))

pub left_none : (f : Name) (s t : Term) → variable_at s ≡ None → factors (Comp f (term s (term t no_terms))) ≡ None
left_none f (Var x) t h = absurd (cc)
left_none f (Int z) t h = refl
left_none f (Atom a) t h = refl
left_none f (Comp g ts) t h = refl

pub right_none : (f : Name) (s t : Term) → variable_at t ≡ None → factors (Comp f (term s (term t no_terms))) ≡ None
right_none f (Var x) (Var y) h = absurd (cc)
right_none f (Var x) (Int z) h = refl
right_none f (Var x) (Atom a) h = refl
right_none f (Var x) (Comp g ts) h = refl
right_none f (Int z) t h = refl
right_none f (Atom a) t h = refl
right_none f (Comp g ts) t h = refl

pub name_none : (f : Name) (s t : Term) → bytes_eq f (codes "*") ≡ false → factors (Comp f (term s (term t no_terms))) ≡ None
name_none f (Var x) (Var y) e = ap (λ c. cond c (Some (x, y)) None) e
name_none f (Var x) (Int z) e = refl
name_none f (Var x) (Atom a) e = refl
name_none f (Var x) (Comp g ts) e = refl
name_none f (Int z) t e = refl
name_none f (Atom a) t e = refl
name_none f (Comp g ts) t e = refl

-- a result
pub result_found : (x y : ℕ) (t : Term) (m : Member) → as_member t ≡ Ok m → with_result (Some (x, y)) t ≡ Some record { left = x; right = y; result = m }
result_found x y (Var z) m h = let e : Open z ≡ m = cc in ap (λ r. Some record { left = x; right = y; result = r }) e
result_found x y (Int z) m h = let e : Known z ≡ m = cc in ap (λ r. Some record { left = x; right = y; result = r }) e
result_found x y (Atom a) m h = absurd (cc)
result_found x y (Comp f ts) m h = absurd (cc)

pub result_none : (x y : ℕ) (t : Term) (q : QueryFault) → as_member t ≡ Err q → with_result (Some (x, y)) t ≡ None
result_none x y (Var z) q h = absurd (cc)
result_none x y (Int z) q h = absurd (cc)
result_none x y (Atom a) q h = refl
result_none x y (Comp f ts) q h = refl

pub first_form : (o q : Option Product) (p : Product) → o ≡ Some p → option_or o q ≡ Some p
first_form (Some u) q p h = h
first_form None q p h = absurd (cc)

pub second_form : (o q : Option Product) → o ≡ None → option_or o q ≡ q
second_form (Some u) q h = absurd (cc)
second_form None q h = refl

-- three operands or more are none
pub many_none : (c : Contents) (t : Term) (f : Name) (ts : List TermId) → t ≡ Comp f (terms_by (term_of c) ts) → 3 ≤ length ts → factors t ≡ None
many_none c t f [] e l = absurd (omega arith)
many_none c t f (a ∷ []) e l = absurd (omega arith)
many_none c t f (a ∷ b ∷ []) e l = absurd (omega arith)
many_none c t f (a ∷ b ∷ d ∷ ts) e l = ap factors e ∙ by_first (term_of c a) (term_of c b) where
  by_first : (s u : Term) → factors (Comp f (term s (term u (term (term_of c d) (terms_by (term_of c) ts))))) ≡ None
  by_first (Var x) (Var y) = refl
  by_first (Var x) (Int z) = refl
  by_first (Var x) (Atom g) = refl
  by_first (Var x) (Comp g us) = refl
  by_first (Int z) u = refl
  by_first (Atom g) u = refl
  by_first (Comp g us) u = refl

pub one_no_comparison : (c : Contents) (t : Term) (f : Name) (ts : List TermId) → t ≡ Comp f (terms_by (term_of c) ts) → length ts < 2 → read_comparison t ≡ Err BadType
one_no_comparison c t f [] e l = ap read_comparison e
one_no_comparison c t f (a ∷ []) e l = ap read_comparison e
one_no_comparison c t f (a ∷ b ∷ ts) e l = absurd (omega arith)

pub many_no_comparison : (c : Contents) (t : Term) (f : Name) (ts : List TermId) → t ≡ Comp f (terms_by (term_of c) ts) → 3 ≤ length ts → read_comparison t ≡ Err BadType
many_no_comparison c t f [] e l = absurd (omega arith)
many_no_comparison c t f (a ∷ []) e l = absurd (omega arith)
many_no_comparison c t f (a ∷ b ∷ []) e l = absurd (omega arith)
many_no_comparison c t f (a ∷ b ∷ d ∷ ts) e l = ap read_comparison e
