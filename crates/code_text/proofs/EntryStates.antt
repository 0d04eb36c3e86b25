-- States with which predicates and queries begin.
use Rattle.std.proofs.Common.{◌≡◌, ◌≢◌, ◌⊎◌, ◌↔◌, ℕ, zero, suc, ◌+◌, ◌-◌, ◌<◌, ◌≤◌, Bool, true, IsTrue, List, [], ◌∷◌, ◌++◌, length, get_or, slice_get, Option}
use Rattle.std.proofs.Common.{Some, None, option_map, refl, sym, ap, ◌∙◌, subst, inl, inr, arith}
use Rattle.std.proofs.lemmas.List.{length-map, get_or_append_left, get_or-append_right}
use Rattle.std.proofs.lemmas.Option.{slice_get-map, slice_get_read, slice_get_within}
use Rattle.std.proofs.lemmas.Bool.{cases_lt, cases_order}
use Rattle.fd_language.specs.Family.{has}
use Rattle.wam_code.specs.Area.{State, HasState}
use Rattle.wam_code.specs.VerifiedCode.{IsFirst, BeginsWith}
use Rattle.code_listing.specs.declared.states.PlaceState.{PlaceState}
use Rattle.code_listing.specs.States.{state_of, states_of}
use Rattle.code_text.specs.LocalConditions.{IsFirstCount, AreFirstCounts}
use Rattle.code_text.specs.Owners.{owner_at}

-- two numbers with the same numbers up to them
pub first_unique : (k m : ℕ) (s : State) → IsFirst k s → IsFirst m s → k ≡ m
first_unique k m s f g = go (cases_order k m)
  where
    go : (k ≡ m) ⊎ ((k < m) ⊎ (m < k)) → k ≡ m
    go (inl e) = e
    go (inr (inl l)) = absurd (let h = (f.regs m).0 ((g.regs m).1 (omega (arith, l), omega arith)) in let z : ⊥ = omega (arith, l, h) in z)
    go (inr (inr l)) = absurd (let h = (g.regs k).0 ((f.regs k).1 (omega (arith, l), omega arith)) in let z : ⊥ = omega (arith, l, h) in z)

module _ (s : State) (c : ℕ) (there : (n : ℕ) → 1 ≤ n → n ≤ c → IsTrue (has s.regs n)) where
  pub first_is : s.frame ≡ None → s.owed ≡ 0 → ((n : ℕ) → has s.regs n ≡ true → (1 ≤ n) × (n ≤ c)) → IsFirst c s
  first_is f o all = record { regs = λ n. (all n, λ h. there n h.0 h.1); frame = f; owed = o }

  pub first_not : (c < 255 → has s.regs (c + 1) ≡ true → ⊥) → c < 256 → ¬ ((n : ℕ) → has s.regs n ≡ true → (1 ≤ n) × (n ≤ c)) → (k : ℕ) → k < 256 → ¬ IsFirst k s
  first_not next small never k low f = go (cases_order k c)
    where
      go : (k ≡ c) ⊎ ((k < c) ⊎ (c < k)) → ⊥
      go (inl e) = never (λ n h. (let g = (f.regs n).0 h in (g.0, let l : n ≤ c = omega (arith, g.1, e) in l)))
      go (inr (inl l)) = let h = (f.regs c).0 (there c (omega (arith, l)) (omega arith)) in omega (arith, l, h)
      go (inr (inr l)) = next (omega (arith, l, low)) ((f.regs (c + 1)).1 (omega arith, omega (arith, l)))

-- a state that owes something, or has a frame, is none
pub owed_not : (s : State) → s.owed ≢ 0 → (k : ℕ) → k < 256 → ¬ IsFirst k s
owed_not s never k l f = never f.owed

pub begins_is : (ss : List State) (counts : List (Option ℕ)) (at count : ℕ) (s : State) → AreFirstCounts ss counts → count < 256 → HasState ss at s
    → (owner_at counts at ≡ Some count) ↔ BeginsWith ss at count
begins_is ss counts at count s are small h = (λ e. (s, h, there e (are at s h)), λ b. back b (owner_at counts at) refl (are at s h))
  where
    there : owner_at counts at ≡ Some count → IsFirstCount s (owner_at counts at) → IsFirst count s
    there e f = subst (IsFirstCount s) e f

    back : BeginsWith ss at count → (o : Option ℕ) → owner_at counts at ≡ o → IsFirstCount s o → o ≡ Some count
    back (t, g, f) None e never = absurd (never count small (subst (IsFirst count) (let w : Some t ≡ Some s = sym g ∙ h in let z : t ≡ s = cc (w) in z) f))
    back (t, g, f) (Some k) e first = ap (λ n. Some n) (first_unique k count s first (subst (IsFirst count) (let w : Some t ≡ Some s = sym g ∙ h in let z : t ≡ s = cc (w) in z) f))

-- ---- numbers from 1 on

pub count_more : (keys : List ℕ) (count : ℕ) → ((n : ℕ) → 1 ≤ n → n ≤ count → has keys n ≡ true) → has keys (count + 1) ≡ true → (n : ℕ) → 1 ≤ n → n ≤ count + 1 → has keys n ≡ true
count_more keys count f here n low high = go (cases_order n (count + 1))
  where
    go : (n ≡ count + 1) ⊎ ((n < count + 1) ⊎ (count + 1 < n)) → has keys n ≡ true
    go (inl e) = ap (has keys) e ∙ here
    go (inr (inl l)) = f n low (omega (arith, l))
    go (inr (inr l)) = absurd (let z : ⊥ = omega (arith, l, high) in z)

-- ---- of each place

-- a place that has a state
pub there_is : (ss : List PlaceState) (at : ℕ) → at < length ss → (s : State) × HasState (states_of ss) at s
there_is [] at l = absurd (omega (arith, l))
there_is (p ∷ ps) zero l = (state_of p, refl)
there_is (p ∷ ps) (suc at) l = there_is ps at (omega (arith, l))

pub begins_by : (ss : List PlaceState) (counts : List (Option ℕ)) (at count : ℕ) (o : Option ℕ) (b : Bool) → AreFirstCounts (states_of ss) counts → count < 256
    → at < length ss → o ≡ owner_at counts at → (IsTrue b ↔ (o ≡ Some count)) → IsTrue b ↔ BeginsWith (states_of ss) at count
begins_by ss counts at count o b are small l e f =
    let s = there_is ss at l in
    let g = begins_is (states_of ss) counts at count s.0 are small s.1 in
    (λ t. g.0 (sym e ∙ f.0 t), λ x. f.1 (e ∙ g.1 x))

pub begins_past : (ss : List PlaceState) (at count : ℕ) → length ss ≤ at → ¬ BeginsWith (states_of ss) at count
begins_past ss at count l (s, h, f) = omega (arith, l, slice_get_within (states_of ss) at s h, length-map ss state_of)

pub counts_step : (ss : List PlaceState) (counts new : List (Option ℕ)) (at : ℕ) (x : Option ℕ) (p : PlaceState) → length counts ≡ at → at < length ss
    → p ≡ get_or ss at p → IsFirstCount (state_of p) x → new ≡ counts ++ x ∷ []
    → ((k : ℕ) (s : State) → k < at → HasState (states_of ss) k s → IsFirstCount s (owner_at counts k)) → (k : ℕ) (s : State) → k < at + 1
    → HasState (states_of ss) k s → IsFirstCount s (owner_at new k)
counts_step ss counts new at x p size low read here is old k s l h = subst (λ (z : List (Option ℕ)). IsFirstCount s (owner_at z k)) (sym is) (go (cases_lt k at))
  where
    there : HasState (states_of ss) at (state_of p)
    there = slice_get-map state_of ss at ∙ ap (option_map state_of) (slice_get_read ss (length ss) at p refl low read)

    go : (k < at) ⊎ (at ≤ k) → IsFirstCount s (owner_at (counts ++ x ∷ []) k)
    go (inl z) = subst (IsFirstCount s) (sym (get_or_append_left counts (x ∷ []) None k (omega (arith, z, size)))) (old k s z h)
    go (inr z) =
        let e : k ≡ at = omega (arith, z, l) in
        let same : Some (state_of p) ≡ Some s = sym there ∙ ap (slice_get (states_of ss)) (sym e) ∙ h in
        let one : state_of p ≡ s = cc (same) in
        let at_end : owner_at (counts ++ x ∷ []) k ≡ x = get_or-append_right counts (x ∷ []) at k None size z ∙ ap (λ n. get_or (x ∷ []) n None) (let w : k - at ≡ 0 = omega (arith, e) in w) in
        subst (IsFirstCount s) (sym at_end) (subst (λ t. IsFirstCount t x) one here)
