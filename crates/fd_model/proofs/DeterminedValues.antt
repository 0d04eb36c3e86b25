-- Where the variables of a constraint have one value each, its values fit.
use Rattle.std.proofs.Common.{◌≡◌, ℕ, suc, ◌≤◌, ◌<◌, Bool, true, false, cond, nat_lt, ◌==◌, ℤ, List, [], ◌∷◌, ◌++◌, refl, ap, sym, subst, inl, inr, arith}
use Rattle.std.proofs.Common.{eqb-true, eq-eqb}
use Rattle.std.proofs.lemmas.Bool.{or_cases, or_left, or_right, true≢false}
use Rattle.fd_language.specs.Family.{Family, has, IsFamily, IsSubset, IsRising}
use Rattle.fd_language.specs.Range.{Indexical, set_of, reads, least}
use Rattle.fd_model.specs.ClosedFamilies.{constrained, AllPosted}
use Rattle.fd_language.proofs.Lemmas.{has_either, in_left, in_right, set_agree, alone_in, least_small}
use Rattle.fd_model.specs.LinearRows.{Expansion}
use Rattle.fd_model.specs.Satisfaction.{Assignment, singles}
use Rattle.fd_model.specs.ConstraintLaws.{AllEquated, AllEquatedIn, Fits, Extends, IsSettled}

-- a set of one number
pub single_from : (low high k : ℕ) (xs : List ℕ) → IsRising low high xs → has xs k ≡ true → ((j : ℕ) → has xs j ≡ true → j ≡ k) → xs ≡ k ∷ []
single_from low high k [] r h f = absurd (true≢false (sym h))
single_from low high k (x ∷ []) r h f = let e : x ≡ k = f x (or_left _ _ (eq-eqb x x refl)) in cc
single_from low high k (x ∷ y ∷ ys) r h f =
    let e : x ≡ k = f x (or_left _ _ (eq-eqb x x refl)) in
    let g : y ≡ k = f y (or_right _ _ (or_left _ _ (eq-eqb y y refl))) in
    let l : suc x ≤ y = r.2.0 in
    absurd (omega arith)

-- the variables that a list of ranges names are among vs
abbrev pub NamesIn : (ℕ → Type 0) → List Indexical → Type 0
NamesIn P ps = (v : ℕ) → has (constrained ps) v ≡ true → P v

pub names_target : (P : ℕ → Type 0) (p : Indexical) (ps : List Indexical) → NamesIn P (p ∷ ps) → P p.target
names_target P p ps h = h p.target (or_left _ _ (eq-eqb p.target p.target refl))

pub names_range : (P : ℕ → Type 0) (p : Indexical) (ps : List Indexical) → NamesIn P (p ∷ ps) → (v : ℕ) → has (reads p.range) v ≡ true → P v
names_range P p ps h v e = h v (or_right _ _ (in_left (reads p.range) (constrained ps) v e))

pub names_later : (P : ℕ → Type 0) (p : Indexical) (ps : List Indexical) → NamesIn P (p ∷ ps) → NamesIn P ps
names_later P p ps h v e = h v (or_right _ _ (in_right (reads p.range) (constrained ps) v e))

-- and the other way
pub names_one : (P : ℕ → Type 0) (p : Indexical) (ps : List Indexical) → P p.target → ((v : ℕ) → has (reads p.range) v ≡ true → P v) → NamesIn P ps → NamesIn P (p ∷ ps)
names_one P p ps t r l v e =
    elim (or_cases (p.target == v) (has (reads p.range ++ constrained ps) v) e) [
      | inl h ↦ subst P (eqb-true p.target v h) t
      | inr h ↦ elim (has_either (reads p.range) (constrained ps) v h) [ inl g ↦ r v g | inr g ↦ l v g ]
    ]

-- only the named variables count
module _ (M : ℕ) (S : Family) (b : Assignment) where
  fits_posted : (ps : List Indexical) → NamesIn (λ v. S v ≡ b v ∷ []) ps → AllPosted (λ p. IsSubset (S p.target) (set_of M S p.range)) ps
      → AllPosted (λ p. has (set_of M (singles b) p.range) (b p.target) ≡ true) ps
  fits_posted [] n h = tt
  fits_posted (p ∷ ps) n h =
      let t : S p.target ≡ b p.target ∷ [] = names_target (λ v. S v ≡ b v ∷ []) p ps n in
      let r = set_agree M S (singles b) p.range (names_range (λ v. S v ≡ b v ∷ []) p ps n) in (
        subst (λ xs. has xs (b p.target) ≡ true) r (h.0.each (b p.target) (subst (λ xs. has xs (b p.target) ≡ true) (sym t) (alone_in (b p.target)))),
        fits_posted ps (names_later (λ v. S v ≡ b v ∷ []) p ps n) h.1,
      )

-- the value of each variable: that of a below n, and else the least one
abbrev pub valued : ℕ → Assignment → Family → Assignment
valued n a S v = cond (nat_lt v n) (a v) (least (S v))

abbrev pub IsOne : Family → ℕ → Type 0
IsOne S v = (k : ℕ) × (S v ≡ k ∷ [])

pub below_test : (v n : ℕ) → nat_lt v n ≡ true → v < n
below_test v n h = grind arith

pub test_below : (v n : ℕ) → v < n → nat_lt v n ≡ true
test_below v n h = grind arith

from_test : (v n : ℕ) → nat_lt v n ≡ false → n ≤ v
from_test v n h = grind arith

-- the equated variables are named
abbrev pub AllNamed : List (ℕ × ℤ) → List Indexical → Type 0
AllNamed [] ps = Unit {0}
AllNamed (e ∷ es) ps = (has (constrained ps) e.0 ≡ true) × AllNamed es ps

module _ (M n : ℕ) (a : Assignment) (S : Family) (small : (v : ℕ) → a v ≤ M) (family : IsFamily M S) where
  valued_extends : Extends M n a (valued n a S)
  valued_extends = record {
    within = λ v. elim (nat_lt v n) as (λ c. cond c (a v) (least (S v)) ≤ M) [ true ↦ small v | false ↦ least_small M (S v) (family.rising v) ];
    same = λ v h. ap (λ c. cond c (a v) (least (S v))) (test_below v n h);
  }

  one_value : (v : ℕ) → IsOne S v → S v ≡ least (S v) ∷ []
  one_value v h = let e = ap least h.1 in cc

  valued_one : (v : ℕ) → (v < n → S v ≡ a v ∷ []) → (n ≤ v → IsOne S v) → S v ≡ valued n a S v ∷ []
  valued_one v f g = by_test (nat_lt v n) (λ e. f (below_test v n e)) (λ e. one_value v (g (from_test v n e))) where
    by_test : (c : Bool) → (c ≡ true → S v ≡ a v ∷ []) → (c ≡ false → S v ≡ least (S v) ∷ []) → S v ≡ cond c (a v) (least (S v)) ∷ []
    by_test true f g = f refl
    by_test false f g = g refl

  equated_values : (b : Assignment) (es : List (ℕ × ℤ)) (ps : List Indexical) → AllNamed es ps → NamesIn (λ v. S v ≡ b v ∷ []) ps → AllEquatedIn S es → AllEquated b es
  equated_values b [] ps h n q = tt
  equated_values b (e ∷ es) ps h n q = (q.0 (b e.0) (subst (λ xs. has xs (b e.0) ≡ true) (sym (n e.0 h.0)) (alone_in (b e.0))), equated_values b es ps h.1 n q.1)

  pub determined_by : (x : Expansion) → IsSettled M x S → NamesIn (λ v. v < n → S v ≡ a v ∷ []) x.ranges → NamesIn (λ v. n ≤ v → IsOne S v) x.ranges → AllNamed x.equated x.ranges
      → (b : Assignment) × ((v : ℕ) → has (constrained x.ranges) v ≡ true → S v ≡ b v ∷ []) × Extends M n a b × Fits M x b
  determined_by x s f g e =
      let b : Assignment = valued n a S in
      let one : NamesIn (λ v. S v ≡ b v ∷ []) x.ranges = λ v h. valued_one v (f v h) (g v h) in
      (b, one, valued_extends, record { equated = equated_values b x.equated x.ranges e one s.values; inside = fits_posted M S b x.ranges one s.posted })
