-- The member that is picked, and the members as they stand.
use Rattle.std.proofs.Common.{◌≡◌, ℕ, zero, suc, ◌<◌, true, ◌==◌, inl, inr, eqb-true, List, [], ◌∷◌, map, length, get_or, Option, Some, None, refl, ap, sym}
use Rattle.std.proofs.Common.{subst, arith}
use Rattle.std.specs.Prelude.{slice_get}
use Rattle.std.proofs.lemmas.Bool.{or_cases, or_left, or_right, true≢false}
use Rattle.fd_language.specs.Family.{Family, has}
use Rattle.fd_language.specs.SingleValues.{only}
use Rattle.fd_model.specs.declared.kinds.Order.{Order}
use Rattle.fd_model.specs.Labelling.{open_ones}
use Rattle.fd_model.specs.Members as seen
use Rattle.fd_model.specs.PostedLeaves.{open_unless, seen_in, picked_in}
use Rattle.fd_model.specs.BestPosted.{IsCostOf}
use Rattle.fd_model.proofs.Lemmas.{some_only, among_picked}
use Rattle.range_code.specs.Frames.{family_of}
use Rattle.label_search.specs.declared.Member.{Member}
use Rattle.label_search.specs.declared.Member.TheVariants.{Fixed, Var, Free}
use Rattle.fd_language.specs.declared.TheConstants.{INFINITY}
use Rattle.label_search.specs.Picks.{member_at, IsThere, AreThere, IsSeenAs, AreSeenAs, IsPlaceOf, IsPicked}
use Rattle.bound_search.specs.Members.{IsOwn, AreOwn, member_of, members_of}

-- a member of its own is there
own_there : (n : ℕ) (m : Member) → IsOwn n m → IsThere n m
own_there n (Fixed z) h = tt
own_there n (Var k) h = h
own_there n Free h = absurd h

pub all_there : (n : ℕ) (ms : List Member) → AreOwn n ms → AreThere n ms
all_there n ms h k d l = own_there n (get_or ms k d) (h k d l)

no_only : (xs : List ℕ) (n : ℕ) → has xs n ≡ true → only xs ≡ None → 1 < length xs
no_only [] n h e = absurd (true≢false (sym h))
no_only (x ∷ []) n h e = absurd (let b : ⊥ = cc in b)
no_only (x ∷ y ∷ ys) n h e = omega arith

module _ (sets : List (List ℕ)) (some : (x : ℕ) → (n : ℕ) × (has (family_of sets x) n ≡ true)) where
  seen_variable : (k : ℕ) (o : Option ℕ) → only (family_of sets k) ≡ o → IsSeenAs INFINITY sets (family_of sets) (Var k) (open_unless k o)
  seen_variable k None e = (no_only (family_of sets k) (some k).0 (some k).1 e, refl)
  seen_variable k (Some n) e = let f : length (family_of sets k) ≡ 1 = ap (λ (xs : List ℕ). length xs) (some_only (family_of sets k) n e) in omega arith

  seen_member : (count : ℕ) (m : Member) → IsOwn count m → IsSeenAs INFINITY sets (family_of sets) m (seen_in (family_of sets) (member_of m))
  seen_member count (Fixed z) h = omega arith
  seen_member count (Var k) h = seen_variable k (only (family_of sets k)) refl
  seen_member count Free h = absurd h

  seen_members : (count : ℕ) (ms : List Member) → AreOwn count ms → AreSeenAs INFINITY sets (family_of sets) ms (map (seen_in (family_of sets)) (members_of ms))
  seen_members count [] h = tt
  seen_members count (m ∷ ms) h = (seen_member count m (h 0 m (omega arith)), seen_members count ms (λ k d l. h (suc k) d (omega arith)))

  variable_seen : (k x : ℕ) (o : Option ℕ) → open_unless k o ≡ seen.Open x → k ≡ x
  variable_seen k x None e = let f : k ≡ x = cc in f
  variable_seen k x (Some n) e = absurd (let b : ⊥ = cc in b)

  seen_at : (m : Member) (x : ℕ) → seen_in (family_of sets) (member_of m) ≡ seen.Open x → m ≡ Var x
  seen_at (Fixed z) x e = absurd (let b : ⊥ = cc in b)
  seen_at (Var k) x e = ap Var (variable_seen k x (only (family_of sets k)) e)
  seen_at Free x e = absurd (let b : ⊥ = cc in b)

  place_at : (ms : List Member) (i x : ℕ) → slice_get (map (seen_in (family_of sets)) (members_of ms)) i ≡ Some (seen.Open x) → member_at ms i ≡ Var x
  place_at [] i x e = absurd (let b : ⊥ = cc in b)
  place_at (m ∷ ms) zero x e = seen_at m x (let f : seen_in (family_of sets) (member_of m) ≡ seen.Open x = cc in f)
  place_at (m ∷ ms) (suc i) x e = place_at ms i x e

  -- where none is picked, the definition picks none
  pub none_there : (o : Order) (count : ℕ) (ms : List Member) → AreOwn count ms → IsPicked INFINITY o sets ms None → picked_in o (family_of sets) (members_of ms) ≡ None
  none_there o count ms own p = by_place (picked_in o (family_of sets) (members_of ms)) (p (family_of sets) (map (seen_in (family_of sets)) (members_of ms)) (seen_members count ms own))
    where
      by_place : (r : Option ℕ) → IsPlaceOf (map (seen_in (family_of sets)) (members_of ms)) r None → r ≡ None
      by_place None h = refl
      by_place (Some x) h = absurd h

  -- and else the variable at the place
  pub record IsVariableAt (o : Order) (ms : List Member) (i : ℕ) : Type 0 where
    pub variable : ℕ
    pub picked : picked_in o (family_of sets) (members_of ms) ≡ Some variable
    pub here : member_at ms i ≡ Var variable

  pub some_there : (o : Order) (count : ℕ) (ms : List Member) (i : ℕ) → AreOwn count ms → IsPicked INFINITY o sets ms (Some i) → IsVariableAt o ms i
  some_there o count ms i own p = by_place (picked_in o (family_of sets) (members_of ms)) refl (p (family_of sets) (map (seen_in (family_of sets)) (members_of ms)) (seen_members count ms own))
    where
      by_place : (r : Option ℕ) → picked_in o (family_of sets) (members_of ms) ≡ r → IsPlaceOf (map (seen_in (family_of sets)) (members_of ms)) r (Some i) → IsVariableAt o ms i
      by_place None e h = absurd h
      by_place (Some x) e h = record { variable = x; picked = e; here = place_at ms i x h }

-- the variables of the list are the store's
pub open_own : (count : ℕ) (ms : List Member) (x : ℕ) → AreOwn count ms → has (open_ones (members_of ms)) x ≡ true → x < count
open_own count [] x h e = absurd (true≢false (sym e))
open_own count (Fixed z ∷ ms) x h e = open_own count ms x (λ k d l. h (suc k) d (omega arith)) e
open_own count (Var k ∷ ms) x h e = elim (or_cases (k == x) (has (open_ones (members_of ms)) x) e) [
  | inl f ↦ subst (λ y. y < count) (eqb-true k x f) (h 0 (Var k) (omega arith))
  | inr f ↦ open_own count ms x (λ k d l. h (suc k) d (omega arith)) f
]
open_own count (Free ∷ ms) x h e = absurd (h 0 Free (omega arith))

still_among : (D : Family) (ms : List seen.Member) (x : ℕ) → has (open_ones (map (seen_in D) ms)) x ≡ true → has (open_ones ms) x ≡ true
still_among D [] x h = h
still_among D (seen.Known z ∷ ms) x h = still_among D ms x h
still_among D (seen.Open y ∷ ms) x h = by_set (only (D y)) h (still_among D ms x)
  where
    by_set : (o : Option ℕ) → has (open_ones (open_unless y o ∷ map (seen_in D) ms)) x ≡ true
        → (has (open_ones (map (seen_in D) ms)) x ≡ true → has (open_ones ms) x ≡ true) → has (y ∷ open_ones ms) x ≡ true
    by_set None g later = elim (or_cases (y == x) (has (open_ones (map (seen_in D) ms)) x) g)
        [ inl e ↦ or_left (y == x) (has (open_ones ms) x) e | inr e ↦ or_right (y == x) (has (open_ones ms) x) (later e) ]
    by_set (Some n) g later = or_right (y == x) (has (open_ones ms) x) (later g)

-- what is picked is a member's variable
pub picked_member : (o : Order) (D : Family) (ms : List seen.Member) (x : ℕ) → picked_in o D ms ≡ Some x → has (open_ones ms) x ≡ true
picked_member o D ms x e = still_among D ms x (among_picked o D (map (seen_in D) ms) x e)

-- and a cost that is a member is one of them
pub cost_own : (count : ℕ) (ms : List Member) (m : Member) → AreOwn count ms → IsCostOf (members_of ms) (member_of m) → IsThere count m
cost_own count ms (Fixed z) h c = tt
cost_own count ms (Var k) h c = open_own count ms k h c
cost_own count ms Free h c = tt
