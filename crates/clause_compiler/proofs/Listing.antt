-- A list of places is safe as the choices of a predicate.
use Rattle.std.proofs.Common.{◌≡◌, ℕ, zero, suc, ◌+◌, map, IsTrue, List, [], ◌∷◌, Some, slice_get, refl, sym, subst, inl, inr, arith}
use Rattle.clause_code.proofs.Lemmas.{one_aim}
use Rattle.clause_compiler.proofs.Lists.{never}
use Rattle.fd_language.specs.Family.{has}
use Rattle.wam_code.specs.declared.instruction.Code.{Code}
use Rattle.wam_code.specs.declared.instruction.Code.TheVariants.{Jump, FailNow, Try, Retry, Trust}
use Rattle.wam_code.specs.Area.{Area, Holds}
use Rattle.wam_code.specs.VerifiedCode.{named, is_before, is_behind, IsThere}
use Rattle.clause_code.specs.Pieces.{Stand}
use Rattle.clause_code.specs.ClauseChoices.{rest_of_list, list_of}
use Rattle.clause_compiler.specs.Layout.{is_switch, is_listing, is_first, Passes, AreChoicesOf}

pub only_one : (is : Code) (n : ℕ) (i : Code) → slice_get (is ∷ []) n ≡ Some i → (n ≡ 0) × (is ≡ i)
only_one is zero i e = (refl, (let s : is ≡ i = cc in s))
only_one is (suc n) i e = absurd cc

-- each of the places is fine
abbrev pub Each : (ℕ → Type 0) → List ℕ → Type 0
Each P [] = Unit {0}
Each P (l ∷ ls) = P l × Each P ls

module _ (a : Area) (begins : ℕ → Type 0) where
  -- what is true of each instruction of a list
  pub record IsListed (i : Code) : Type 0 where
    pub listing : IsTrue (is_listing i)
    pub leads : (to : ℕ) → IsTrue (has (named a i) to) → begins to
    pub there : IsThere a i

  to_one : (l to : ℕ) → begins l → IsTrue (has (l ∷ []) to) → begins to
  to_one l to b h = subst begins (sym (one_aim l to h)) b

  jump_listed : (l : ℕ) → begins l → IsListed (Jump l)
  jump_listed l b = record { listing = refl; leads = λ to h. to_one l to b h; there = tt }

  try_listed : (l : ℕ) → begins l → IsListed (Try l)
  try_listed l b = record { listing = refl; leads = λ to h. to_one l to b h; there = tt }

  retry_listed : (l : ℕ) → begins l → IsListed (Retry l)
  retry_listed l b = record { listing = refl; leads = λ to h. to_one l to b h; there = tt }

  trust_listed : (l : ℕ) → begins l → IsListed (Trust l)
  trust_listed l b = record { listing = refl; leads = λ to h. to_one l to b h; there = tt }

  fail_listed : IsListed FailNow
  fail_listed = record { listing = refl; leads = λ to h. never h; there = tt }

  rest_listed : (l : ℕ) (ls : List ℕ) → Each begins (l ∷ ls) → (n : ℕ) (i : Code) → slice_get (rest_of_list (l ∷ ls)) n ≡ Some i → IsListed i
  rest_listed l [] b n i e = subst IsListed (only_one (Trust l) n i e).1 (trust_listed l b.0)
  rest_listed l (k ∷ ls) b zero i e = let s : Retry l ≡ i = cc in subst IsListed s (retry_listed l b.0)
  rest_listed l (k ∷ ls) b (suc n) i e = rest_listed k ls b.1 n i e

  rest_first : (l : ℕ) (ls : List ℕ) → Passes (rest_of_list (l ∷ ls)) is_behind 0
  rest_first l [] = (Trust l, refl, refl)
  rest_first l (k ∷ ls) = (Retry l, refl, refl)

  rest_next : (l : ℕ) (ls : List ℕ) (n : ℕ) → Passes (rest_of_list (l ∷ ls)) is_before n → Passes (rest_of_list (l ∷ ls)) is_behind (suc n)
  rest_next l [] n h = never (subst (λ x. IsTrue (is_before x)) (sym (only_one (Trust l) n h.0 h.1).1) h.2)
  rest_next l (k ∷ ls) zero h = rest_first k ls
  rest_next l (k ∷ ls) (suc n) h = rest_next k ls n h

  -- before each but the first of them stands one that goes on
  rest_previous : (l : ℕ) (ls : List ℕ) (n : ℕ) (i : Code) → slice_get (rest_of_list (l ∷ ls)) (suc n) ≡ Some i → Passes (rest_of_list (l ∷ ls)) is_before n
  rest_previous l [] n i e = absurd cc
  rest_previous l (k ∷ ls) zero i e = (Retry l, refl, refl)
  rest_previous l (k ∷ ls) (suc n) i e = rest_previous k ls n i e

  -- ---- the whole list
  pub list_listed : (ls : List ℕ) → Each begins ls → (n : ℕ) (i : Code) → slice_get (list_of ls) n ≡ Some i → IsListed i
  list_listed [] b n i e = subst IsListed (only_one FailNow n i e).1 fail_listed
  list_listed (l ∷ []) b n i e = subst IsListed (only_one (Jump l) n i e).1 (jump_listed l b.0)
  list_listed (l ∷ k ∷ ls) b zero i e = let s : Try l ≡ i = cc in subst IsListed s (try_listed l b.0)
  list_listed (l ∷ k ∷ ls) b (suc n) i e = rest_listed k ls b.1 n i e

  pub list_first : (ls : List ℕ) → Passes (list_of ls) is_first 0
  list_first [] = (FailNow, refl, refl)
  list_first (l ∷ []) = (Jump l, refl, refl)
  list_first (l ∷ k ∷ ls) = (Try l, refl, refl)

  pub list_next : (ls : List ℕ) (n : ℕ) → Passes (list_of ls) is_before n → Passes (list_of ls) is_behind (suc n)
  list_next [] n h = never (subst (λ x. IsTrue (is_before x)) (sym (only_one FailNow n h.0 h.1).1) h.2)
  list_next (l ∷ []) n h = never (subst (λ x. IsTrue (is_before x)) (sym (only_one (Jump l) n h.0 h.1).1) h.2)
  list_next (l ∷ k ∷ ls) zero h = rest_first k ls
  list_next (l ∷ k ∷ ls) (suc n) h = rest_next k ls n h

  pub list_previous : (ls : List ℕ) (n : ℕ) → Passes (list_of ls) is_behind n → (m : ℕ) × (n ≡ suc m) × Passes (list_of ls) is_before m
  list_previous [] n h = never (subst (λ x. IsTrue (is_behind x)) (sym (only_one FailNow n h.0 h.1).1) h.2)
  list_previous (l ∷ []) n h = never (subst (λ x. IsTrue (is_behind x)) (sym (only_one (Jump l) n h.0 h.1).1) h.2)
  list_previous (l ∷ k ∷ ls) zero h = never (let s : Try l ≡ h.0 = (let e = h.1 in cc) in subst (λ x. IsTrue (is_behind x)) (sym s) h.2)
  list_previous (l ∷ k ∷ ls) (suc zero) h = (0, refl, (Try l, refl, refl))
  list_previous (l ∷ k ∷ ls) (suc (suc n)) h = (suc n, refl, rest_previous k ls n h.0 h.1)

  pub not_switch : (i : Code) → IsTrue (is_listing i) → IsTrue (is_switch i) → ⊥
  not_switch (Jump to) h g = never g
  not_switch FailNow h g = never g
  not_switch (Try to) h g = never g
  not_switch (Retry to) h g = never g
  not_switch (Trust to) h g = never g
  not_switch _ h g = never h

  -- A list of places where clauses begin.
  pub list_choices : (at arity : ℕ) (ls : List ℕ) → Each begins ls → AreChoicesOf a begins at arity (list_of ls)
  list_choices at arity ls b = record {
    first = list_first ls;
    lists = λ n i e. inr (list_listed ls b n i e).listing;
    argument = λ n i e h. absurd (not_switch i (list_listed ls b n i e).listing h);
    leads = λ n i to e h. inl ((list_listed ls b n i e).leads to h);
    behind = list_next ls;
    before = list_previous ls;
    there = λ n i e. (list_listed ls b n i e).there;
  }

-- each image
pub each_of : (P : ℕ → Type 0) (f : ℕ → ℕ) (ns : List ℕ) → ((k n : ℕ) → slice_get ns k ≡ Some n → P (f n)) → Each P (map f ns)
each_of P f [] h = tt
each_of P f (n ∷ ns) h = (h 0 n refl, each_of P f ns (λ k. h (suc k)))

-- Code whose instructions are each at their places.
pub stand_at : (a : Area) (at : ℕ) (is : List Code) → ((n : ℕ) (i : Code) → slice_get is n ≡ Some i → Holds a (at + n) i) → Stand a at is
stand_at a at [] h = tt
stand_at a at (i ∷ is) h = (
  subst (λ o. Holds a o i) (let e : at + 0 ≡ at = omega arith in
      e) (h 0 i refl),
  stand_at a (suc at) is (λ n j e. subst (λ o. Holds a o j) (let g : at + suc n ≡ suc at + n = omega arith in g) (h (suc n) j e)),
)
