-- The occurrences of variables in an accepted range: each variable is a parameter everywhere or nowhere.
use Rattle.std.proofs.Common.{◌≡◌, ℕ, Bool, true, false, cond, not, ◌==◌, List, [], ◌∷◌, ◌++◌, map, filter, refl, ap, sym, ◌∙◌, subst, eq-eqb, pos}
use Rattle.std.proofs.lemmas.Bool.{or_left, or_right}
use Rattle.fd_language.specs.Family.{has}
use Rattle.fd_language.specs.Lists.{Each}
use Rattle.fd_language.specs.Range.{Range, Role, leaf, a_parameter, a_min, a_max, a_val, a_dom, params, param_at, reads}
use Rattle.fd_language.specs.Occurrences.{Occurrence, occurrence_at, range_occurrences}
use Rattle.fd_language.specs.RangeVerdict.{has_one_use}
use Rattle.fd_language.proofs.Lemmas.{same_leaves, collected_by}
use Rattle.branch_meaning.proofs.Lemmas.{plain, range_plain}
use Rattle.range_code.proofs.Lemmas.{reads_filled, no_parameter}

-- the variables that stand as parameters
abbrev pub as_parameters : List Occurrence → List ℕ
as_parameters [] = []
as_parameters (p ∷ ps) = cond p.parameter (p.variable ∷ as_parameters ps) (as_parameters ps)

parameters_both : (ps qs : List Occurrence) → as_parameters (ps ++ qs) ≡ as_parameters ps ++ as_parameters qs
parameters_both [] qs = refl
parameters_both (p ∷ ps) qs = by_test p.parameter (parameters_both ps qs) where
  by_test : (b : Bool) → as_parameters (ps ++ qs) ≡ as_parameters ps ++ as_parameters qs
      → cond b (p.variable ∷ as_parameters (ps ++ qs)) (as_parameters (ps ++ qs)) ≡ cond b (p.variable ∷ as_parameters ps) (as_parameters ps)
      ++ as_parameters qs
  by_test true e = ap (λ l. p.variable ∷ l) e
  by_test false e = e

range_parameters : (r : Range) → params r ≡ as_parameters (range_occurrences r)
range_parameters r = same_leaves param_at (λ l. as_parameters (occurrence_at l)) by_role r ∙ sym (collected_by as_parameters refl parameters_both occurrence_at r) where
  by_role : (k : Role) (y : ℕ) → param_at (leaf k y) ≡ as_parameters (occurrence_at (leaf k y))
  by_role a_parameter y = refl
  by_role a_min y = refl
  by_role a_max y = refl
  by_role a_val y = refl
  by_role a_dom y = refl

-- each occurrence says whether its variable is a parameter
abbrev pub AreSettled : List ℕ → List Occurrence → Type 0
AreSettled ps qs = Each (λ p. p.parameter ≡ has ps p.variable) qs

settled_in : (xs : List ℕ) (qs : List Occurrence) → ((y : ℕ) → has (as_parameters qs) y ≡ true → has xs y ≡ true) → ((y : ℕ) → has (plain qs) y ≡ true → has xs y ≡ false) → AreSettled xs qs
settled_in xs [] h g = tt
settled_in xs (p ∷ qs) h g = (here p.parameter refl, settled_in xs qs (λ y k. h y (more p.parameter y k)) (λ y k. g y (later p.parameter y k))) where
  more : (b : Bool) (y : ℕ) → has (as_parameters qs) y ≡ true → has (cond b (p.variable ∷ as_parameters qs) (as_parameters qs)) y ≡ true
  more true y k = or_right (p.variable == y) (has (as_parameters qs) y) k
  more false y k = k

  later : (b : Bool) (y : ℕ) → has (plain qs) y ≡ true → has (cond b (plain qs) (p.variable ∷ plain qs)) y ≡ true
  later true y k = k
  later false y k = or_right (p.variable == y) (has (plain qs) y) k

  here : (b : Bool) → p.parameter ≡ b → p.parameter ≡ has xs p.variable
  here true e = e ∙ sym (h p.variable (subst (λ c. has (cond c (p.variable ∷ as_parameters qs) (as_parameters qs)) p.variable ≡ true) (sym e)
      (or_left (p.variable == p.variable) (has (as_parameters qs) p.variable) (eq-eqb p.variable p.variable refl))))
  here false e = e ∙ sym (g p.variable (subst (λ c. has (cond c (plain qs) (p.variable ∷ plain qs)) p.variable ≡ true) (sym e)
      (or_left (p.variable == p.variable) (has (plain qs) p.variable) (eq-eqb p.variable p.variable refl))))

pub settled : (r : Range) → has_one_use r ≡ true → AreSettled (params r) (range_occurrences r)
settled r h = settled_in (params r) (range_occurrences r) (λ y k. subst (λ l. has l y ≡ true) (sym (range_parameters r)) k)
    (λ y k. no_parameter (params r) (reads r) y h (subst (λ l. has l y ≡ true) (sym (range_plain (λ z. pos 0) r) ∙ reads_filled (λ z. pos 0) r) k))

abbrev pub variables : List Occurrence → List ℕ
variables ps = map (λ p. p.variable) ps

pub plain_filter : (xs : List ℕ) (qs : List Occurrence) → AreSettled xs qs → plain qs ≡ filter (λ y. not (has xs y)) (variables qs)
plain_filter xs [] h = refl
plain_filter xs (p ∷ qs) h = ap (λ b. cond b (plain qs) (p.variable ∷ plain qs)) h.0 ∙ by_test (has xs p.variable) (plain_filter xs qs h.1) where
  by_test : (b : Bool) → plain qs ≡ filter (λ y. not (has xs y)) (variables qs)
      → cond b (plain qs) (p.variable ∷ plain qs) ≡ cond (not b) (p.variable ∷ filter (λ y. not (has xs y)) (variables qs))
      (filter (λ y. not (has xs y)) (variables qs))
  by_test true e = e
  by_test false e = ap (λ l. p.variable ∷ l) e
