-- Fresh variables in place of integers.
use Rattle.std.proofs.Common.{◌≡◌, ℕ, suc, ◌≤◌, ◌<◌, true, false, cond, ◌==◌, ℤ, pos, nat_abs, List, [], ◌∷◌, refl, ap, sym, ◌∙◌, subst, inl, inr, arith}
use Rattle.std.proofs.Common.{eqb-true, eq-eqb, Ok, Err}
use Rattle.std.proofs.lemmas.Bool.{cases_Bool}
use Rattle.std.proofs.lemmas.Int.{ints}
use Rattle.std.specs.Str.{bytes_eq}
use Rattle.std.specs.Prelude.{codes}
use Rattle.fd_language.specs.Term.{Term, Var, Int, Atom, Comp, no_terms, term}
use Rattle.fd_language.specs.Variables.{TermBelow}
use Rattle.fd_model.specs.Members.{Member, Open, Known, as_member, as_integer, prepend, walk, place_of, after, placed, fresh_after, equated_from}
use Rattle.fd_model.specs.Satisfaction.{Assignment, worth, worths, IsNumber, AreNumbers}
use Rattle.fd_model.specs.ConstraintLaws.{AllEquated}
use Rattle.fd_model.proofs.CollectedSums.{both_ok, test_ok}

-- what members are worth
abbrev pub member_worth : Assignment → Member → ℤ
member_worth a (Open x) = pos (a x)
member_worth a (Known z) = z

abbrev pub member_worths : Assignment → List Member → List ℤ
member_worths a [] = []
member_worths a (m ∷ ms) = member_worth a m ∷ member_worths a ms

abbrev pub MemberBelow : ℕ → Member → Type 0
MemberBelow n (Open x) = x < n
MemberBelow n (Known z) = Unit {0}

abbrev pub MembersBelow : ℕ → List Member → Type 0
MembersBelow n [] = Unit {0}
MembersBelow n (m ∷ ms) = MemberBelow n m × MembersBelow n ms

-- a member as it was read
pub record IsRead (n : ℕ) (a : Assignment) (t : Term) (m : Member) : Type 0 where
  pub worth : worth a t ≡ member_worth a m
  pub below : TermBelow n t → MemberBelow n m

pub member_read : (n : ℕ) (a : Assignment) (t : Term) (m : Member) → as_member t ≡ Ok m → IsRead n a t m
member_read n a (Var x) m h = let e : Open x ≡ m = cc in subst (IsRead n a (Var x)) e (record { worth = refl; below = λ k. k })
member_read n a (Int z) m h = let e : Known z ≡ m = cc in subst (IsRead n a (Int z)) e (record { worth = refl; below = λ k. tt })
member_read n a (Atom f) m h = absurd (cc)
member_read n a (Comp f ts) m h = absurd (cc)

pub record AreRead (n : ℕ) (a : Assignment) (t : Term) (ms : List Member) : Type 0 where
  pub worths : worths a t ≡ member_worths a ms
  pub below : TermBelow n t → MembersBelow n ms

pub members_read : (n : ℕ) (a : Assignment) (t : Term) (ms : List Member) → walk as_member t ≡ Ok ms → AreRead n a t ms
members_read n a (Atom f) ms h =
    test_ok (bytes_eq f (codes "[]")) (Ok []) (Err _) ms (AreRead n a (Atom f) ms) h (λ c e. let k : [] ≡ ms = cc in
    subst (AreRead n a (Atom f)) k (record { worths = refl; below = λ b. tt })) (λ c e. absurd (cc))
members_read n a (Comp f (term x (term t no_terms))) ms h =
    test_ok (bytes_eq f (codes ".")) _ (Err _) ms (AreRead n a (Comp f (term x (term t no_terms))) ms) h
    (λ c e.
    let k = both_ok prepend (as_member x) (walk as_member t) ms e in
    let i = member_read n a x k.left k.from_left in
    let j = members_read n a t k.right k.from_right in
    let g : k.left ∷ k.right ≡ ms = cc (k.both) in
    subst (AreRead n a (Comp f (term x (term t no_terms)))) g (record { worths = let u = i.worth in let v = j.worths in cc; below = λ b. (i.below b.0, j.below b.1.0) }))
    (λ c e. absurd (cc))
members_read n a _ ms h = absurd (cc)

pub integer_read : (a : Assignment) (t : Term) (z : ℤ) → as_integer t ≡ Ok z → worth a t ≡ z
integer_read a (Int y) z h = cc
integer_read a _ z h = absurd (cc)

pub integers_read : (a : Assignment) (t : Term) (zs : List ℤ) → walk as_integer t ≡ Ok zs → worths a t ≡ zs
integers_read a (Var x) ms h = absurd (cc)
integers_read a (Int z) ms h = absurd (cc)
integers_read a (Atom f) ms h = test_ok (bytes_eq f (codes "[]")) (Ok []) (Err _) ms (worths a (Atom f) ≡ ms) h (λ c e. let k : [] ≡ ms = cc in k) (λ c e. absurd (cc))
integers_read a (Comp f no_terms) ms h = absurd (cc)
integers_read a (Comp f (term x no_terms)) ms h = absurd (cc)
integers_read a (Comp f (term x (term t no_terms))) ms h =
    test_ok (bytes_eq f (codes ".")) _ (Err _) ms (worths a (Comp f (term x (term t no_terms))) ≡ ms) h
    (λ c e.
    let k = both_ok prepend (as_integer x) (walk as_integer t) ms e in
    let i = integer_read a x k.left k.from_left in
    let j = integers_read a t k.right k.from_right in
    let g : k.left ∷ k.right ≡ ms = cc (k.both) in
    cc)
    (λ c e. absurd (cc))
integers_read a (Comp f (term x (term t (term u us)))) ms h = absurd (cc)

-- the numbers of variables
abbrev pub values_at : Assignment → List ℕ → List ℤ
values_at b [] = []
values_at b (x ∷ xs) = pos (b x) ∷ values_at b xs

module _ (n : ℕ) (a b : Assignment) (same : (v : ℕ) → v < n → b v ≡ a v) where
  place_worth : (m : Member) (k : ℕ) (ms : List Member) → MemberBelow n m → AllEquated b (equated_from k (m ∷ ms))
      → (pos (b (place_of k m)) ≡ member_worth a m) × AllEquated b (equated_from (after k m) ms)
  place_worth (Open x) k ms h e = (ap pos (same x h), e)
  place_worth (Known z) k ms h e = (e.0, e.1)

  pub placed_worths : (ms : List Member) (k : ℕ) → MembersBelow n ms → AllEquated b (equated_from k ms) → values_at b (placed k ms) ≡ member_worths a ms
  placed_worths [] k h e = refl
  placed_worths (m ∷ ms) k h e = let i = place_worth m k ms h.0 e in let j = placed_worths ms (after k m) h.1 i.1 in let l = i.0 in cc

-- a with the integers at the fresh variables
abbrev pub changed : Assignment → ℕ → ℕ → Assignment
changed a n k v = cond (v == n) k (a v)

pub changed_here : (a : Assignment) (n k : ℕ) → changed a n k n ≡ k
changed_here a n k = rw (eq-eqb n n refl) refl

pub changed_other : (a : Assignment) (n k v : ℕ) → (v ≡ n → ⊥) → changed a n k v ≡ a v
changed_other a n k v h = elim (cases_Bool (v == n)) [ inl e ↦ absurd (h (eqb-true v n e)) | inr e ↦ ap (λ c. cond c k (a v)) e ]

pub changed_small : (M : ℕ) (a : Assignment) (n k : ℕ) → k ≤ M → ((v : ℕ) → a v ≤ M) → (v : ℕ) → changed a n k v ≤ M
changed_small M a n k h s v = elim (v == n) as (λ c. cond c k (a v) ≤ M) [ true ↦ h | false ↦ s v ]

abbrev pub filled : Assignment → ℕ → List Member → Assignment
filled a n [] = a
filled a n (Open x ∷ ms) = filled a n ms
filled a n (Known z ∷ ms) = filled (changed a n (nat_abs z)) (suc n) ms

pub filled_below : (ms : List Member) (a : Assignment) (n v : ℕ) → v < n → filled a n ms v ≡ a v
filled_below [] a n v h = refl
filled_below (Open x ∷ ms) a n v h = filled_below ms a n v h
filled_below (Known z ∷ ms) a n v h = filled_below ms (changed a n (nat_abs z)) (suc n) v (omega arith) ∙ changed_other a n (nat_abs z) v (λ e. absurd (omega arith))

-- each integer is a number of the universe
abbrev pub KnownNumbers : ℕ → List Member → Type 0
KnownNumbers M [] = Unit {0}
KnownNumbers M (Open x ∷ ms) = KnownNumbers M ms
KnownNumbers M (Known z ∷ ms) = IsNumber M z × KnownNumbers M ms

pub known_numbers : (M : ℕ) (a : Assignment) (ms : List Member) → AreNumbers M (member_worths a ms) → KnownNumbers M ms
known_numbers M a [] h = tt
known_numbers M a (Open x ∷ ms) h = known_numbers M a ms h.1
known_numbers M a (Known z ∷ ms) h = (h.0, known_numbers M a ms h.1)

number_size : (M : ℕ) (z : ℤ) → IsNumber M z → nat_abs z ≤ M
number_size M z h = let e = h.is in let f = h.within in omega (arith, ints)

number_is : (M : ℕ) (z : ℤ) → IsNumber M z → pos (nat_abs z) ≡ z
number_is M z h = let e = h.is in omega (arith, ints)

pub filled_small : (M : ℕ) (ms : List Member) (a : Assignment) (n : ℕ) → KnownNumbers M ms → ((v : ℕ) → a v ≤ M) → (v : ℕ) → filled a n ms v ≤ M
filled_small M [] a n k s v = s v
filled_small M (Open x ∷ ms) a n k s v = filled_small M ms a n k s v
filled_small M (Known z ∷ ms) a n k s v = filled_small M ms (changed a n (nat_abs z)) (suc n) k.1 (changed_small M a n (nat_abs z) (number_size M z k.0) s) v

pub filled_equated : (M : ℕ) (ms : List Member) (a : Assignment) (n : ℕ) → KnownNumbers M ms → AllEquated (filled a n ms) (equated_from n ms)
filled_equated M [] a n k = tt
filled_equated M (Open x ∷ ms) a n k = filled_equated M ms a n k
filled_equated M (Known z ∷ ms) a n k =
    (ap pos (filled_below ms (changed a n (nat_abs z)) (suc n) n (omega arith) ∙ changed_here a n (nat_abs z)) ∙ number_is M z k.0, filled_equated M ms (changed a n (nat_abs z)) (suc n) k.1)

pub below_other : (w n : ℕ) → (w == n) ≡ false → w < suc n → w < n
below_other w n k l = grind (arith, eq-eqb)

-- two that agree below n and have the integers agree below the next fresh number
pub equated_agree : (ms : List Member) (n : ℕ) (b c : Assignment) → ((v : ℕ) → v < n → b v ≡ c v) → AllEquated b (equated_from n ms)
    → AllEquated c (equated_from n ms) → (v : ℕ) → v < fresh_after n ms → b v ≡ c v
equated_agree [] n b c s e f v h = s v h
equated_agree (Open x ∷ ms) n b c s e f v h = equated_agree ms n b c s e f v h
equated_agree (Known z ∷ ms) n b c s e f v h = equated_agree ms (suc n) b c (λ w l. elim (cases_Bool (w == n)) [
  | inl k ↦ let i : w ≡ n = eqb-true w n k in
      subst (λ u. b u ≡ c u) (sym i) (let p = e.0 in let q = f.0 in omega (arith, ints))
  | inr k ↦ s w (below_other w n k l)
]) e.1 f.1 v h

pub fresh_grows : (ms : List Member) (n : ℕ) → n ≤ fresh_after n ms
fresh_grows [] n = omega arith
fresh_grows (Open x ∷ ms) n = fresh_grows ms n
fresh_grows (Known z ∷ ms) n = let e = fresh_grows ms (suc n) in omega arith
