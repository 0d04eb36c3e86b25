-- What is picked, as a list is walked.
use Rattle.std.proofs.Common.{◌≡◌, ℕ, zero, suc, ◌<◌, ◌≤◌, Bool, true, false, cond, not, ◌==◌, eqb-true, ltb, pos, List, [], ◌∷◌, length, get_or, drop, refl, ap, sym, ◌∙◌, subst}
use Rattle.std.proofs.Common.{arith, inl, inr, ◌⊎◌}
use Rattle.std.proofs.lemmas.Bool.{ltb-true, ltb-false, lt-ltb, le-ltb}
use Rattle.std.specs.Prelude.{Option, Some, None, slice_get, slice_index_or}
use Rattle.std.proofs.lemmas.List.{get_or_default}
use Rattle.domain_ranges.proofs.Lemmas.{length_up}
use Rattle.fd_language.specs.Family.{universe, IsRising}
use Rattle.fd_language.specs.Range.{least, greatest}
use Rattle.fd_language.specs.declared.TheConstants.{INFINITY}
use Rattle.fd_language.proofs.Lemmas.{first_member, greatest_high}
use Rattle.fd_model.specs.declared.kinds.Order.TheVariants.{Leftmost, FirstFail}
use Rattle.fd_model.specs.Members as seen
use Rattle.fd_model.specs.Labelling.{first_open, fewest, unless_fewer}
use Rattle.label_search.specs.declared.Member.{Member}
use Rattle.label_search.specs.declared.Member.TheVariants.{Fixed, Var, Free}
use Rattle.label_search.specs.Picks.{value_count, member_at, IsSeenAs, AreSeenAs, IsPlaceOf, IsPicked, HasSeveral}

-- U has one number more than the greatest one says
pub length-universe : (M : ℕ) → length (universe M) ≡ suc M
unfolding universe
length-universe M = length_up 0 (suc M)

-- where the ends are equal there is at most one number, and where they differ there are several
pub ends_equal : (low : ℕ) (xs : List ℕ) → IsRising low INFINITY xs → least xs ≡ greatest xs → length xs ≤ 1
ends_equal low [] r e = omega arith
ends_equal low (x ∷ []) r e = omega arith
ends_equal low (x ∷ y ∷ ys) r e = absurd (let h = greatest_high (suc x) INFINITY y (y ∷ ys) r.2 (first_member y ys) in let l = r.2.0 in omega arith)

pub ends_differ : (xs : List ℕ) → (least xs ≡ greatest xs → ⊥) → 1 < length xs
ends_differ [] d = absurd (d refl)
ends_differ (x ∷ []) d = absurd (d refl)
ends_differ (x ∷ y ∷ ys) d = omega arith

-- a variable whose least and greatest values are equal has one
pub one_by_ends : (N k a b : ℕ) (sets : List (List ℕ)) (m : Member) (xs : List ℕ) → m ≡ Var k → xs ≡ slice_index_or sets k (universe INFINITY) → a ≡ least xs → b ≡ greatest xs
    → IsRising 0 INFINITY xs → not (a == b) ≡ false → value_count N sets m ≤ 1
one_by_ends N k a b sets m xs e f g h r d = subst (λ v. value_count N sets v ≤ 1) (sym e) (subst (λ (l : List ℕ). length l ≤ 1) f (ends_equal 0 xs r (sym g ∙ eqb-true a b (by_test (a == b) d) ∙ h)))
  where
    by_test : (t : Bool) → not t ≡ false → t ≡ true
    by_test true i = refl
    by_test false i = sym i

-- one that the store doesn't have has all values
pub free_count : (N : ℕ) (sets : List (List ℕ)) (m : Member) → m ≡ Free → value_count N sets m ≡ suc N
free_count N sets m e = ap (value_count N sets) e ∙ length-universe N

place_further : (s : seen.Member) (ss : List seen.Member) (o : Option ℕ) (i : ℕ) → IsPlaceOf ss o (Some i) → IsPlaceOf (s ∷ ss) o (Some (suc i))
place_further s ss None i p = p
place_further s ss (Some x) i p = p

-- no member before the place has more than one value
abbrev pub ArePassed : ℕ → List (List ℕ) → List Member → ℕ → Type 0
ArePassed N sets list i = (k : ℕ) → k < i → value_count N sets (member_at list k) ≤ 1

passed_further : (N : ℕ) (sets : List (List ℕ)) (m : Member) (ms : List Member) (i : ℕ) → ArePassed N sets (m ∷ ms) (suc i) → ArePassed N sets ms i
passed_further N sets m ms i p k l = p (suc k) (omega arith)

module _ (N : ℕ) (sets : List (List ℕ)) (values : ℕ → List ℕ) where
  first_place : (list : List Member) (ss : List seen.Member) (i : ℕ) → AreSeenAs N sets values list ss → i < length list
      → 1 < value_count N sets (member_at list i) → ArePassed N sets list i → IsPlaceOf ss (first_open ss) (Some i)
  first_place [] ss i a l v p = absurd (omega arith)
  first_place (m ∷ ms) [] i a l v p = absurd a
  first_place (m ∷ ms) (seen.Known z ∷ ss) zero a l v p = absurd (let q = a.0 in omega arith)
  first_place (m ∷ ms) (seen.Open x ∷ ss) zero a l v p = refl
  first_place (m ∷ ms) (seen.Known z ∷ ss) (suc i) a l v p = place_further (seen.Known z) ss (first_open ss) i (first_place ms ss i a.1 (omega arith) v (passed_further N sets m ms i p))
  first_place (m ∷ ms) (seen.Open x ∷ ss) (suc i) a l v p = absurd (let q = p 0 (omega arith) in let r = a.0.0 in omega arith)

  none_first : (list : List Member) (ss : List seen.Member) → AreSeenAs N sets values list ss → ArePassed N sets list (length list) → first_open ss ≡ None
  none_first [] [] a p = refl
  none_first [] (s ∷ ss) a p = absurd a
  none_first (m ∷ ms) [] a p = absurd a
  none_first (m ∷ ms) (seen.Known z ∷ ss) a p = none_first ms ss a.1 (passed_further N sets m ms (length ms) p)
  none_first (m ∷ ms) (seen.Open x ∷ ss) a p = absurd (let q = p 0 (omega arith) in let r = a.0.0 in omega arith)

from_cases : (i k : ℕ) → i ≤ k → (i ≡ k) ⊎ (suc i ≤ k)
from_cases i k l = go (ltb i k) refl
  where
    go : (b : Bool) → ltb i k ≡ b → (i ≡ k) ⊎ (suc i ≤ k)
    go true e = let h = ltb-true i k e in inr (omega arith)
    go false e = let h = ltb-false i k e in inl (omega arith)

-- where all members are passed, none has more than one value
pub several_none : (N : ℕ) (sets : List (List ℕ)) (list : List Member) → ArePassed N sets list (length list) → HasSeveral N sets list None
several_none N sets list p k d l = subst (λ m. value_count N sets m ≤ 1) (get_or_default list k (Fixed (pos 0)) d l) (p k l)

-- the first member with more than one value is picked
pub picked_first : (N : ℕ) (sets : List (List ℕ)) (list : List Member) (i : ℕ) → i < length list → 1 < value_count N sets (member_at list i)
    → ArePassed N sets list i → IsPicked N Leftmost sets list (Some i)
picked_first N sets list i l v p values ss a = first_place N sets values list ss i a l v p

-- where no member has more than one value, none is picked
pub picked_none : (N : ℕ) (sets : List (List ℕ)) (list : List Member) → ArePassed N sets list (length list) → IsPicked N Leftmost sets list None
picked_none N sets list p values ss a = subst (λ o. IsPlaceOf ss o None) (sym (none_first N sets values list ss a p)) tt

-- a member as it is seen, with those behind it
record IsSplit (N : ℕ) (sets : List (List ℕ)) (values : ℕ → List ℕ) (ss : List seen.Member) (i : ℕ) (m : Member) : Type 0 where
  pub here : seen.Member
  pub at : slice_get ss i ≡ Some here
  pub sees : IsSeenAs N sets values m here
  pub rest : drop i ss ≡ here ∷ drop (suc i) ss

split_at : (N : ℕ) (sets : List (List ℕ)) (values : ℕ → List ℕ) (list : List Member) (ss : List seen.Member) (i : ℕ) (d : Member)
    → AreSeenAs N sets values list ss → i < length list → IsSplit N sets values ss i (get_or list i d)
split_at N sets values [] ss i d a l = absurd (omega arith)
split_at N sets values (m ∷ ms) [] i d a l = absurd a
split_at N sets values (m ∷ ms) (s ∷ ss) zero d a l = record { here = s; at = refl; sees = a.0; rest = refl }
split_at N sets values (m ∷ ms) (s ∷ ss) (suc i) d a l = let r = split_at N sets values ms ss i d a.1 (omega arith) in record { here = r.here; at = r.at; sees = r.sees; rest = r.rest }

-- the member that is taken among those from a place on, with how many values it has
abbrev pub IsTaken : ℕ → List (List ℕ) → List Member → ℕ → ℕ → Option ℕ → Type 0
IsTaken N sets list from count None = (k : ℕ) → from ≤ k → k < length list → value_count N sets (member_at list k) ≤ 1
IsTaken N sets list from count (Some i) = (i < length list) × (count ≡ value_count N sets (member_at list i)) × (1 < count)

-- The member that is best among those from the place on is the one that is picked there, with its number of values. That number stands at the greatest one
-- while there is no such member.
pub record IsBest (N most : ℕ) (sets : List (List ℕ)) (list : List Member) (from : ℕ) (count : ℕ) (best : Option ℕ) : Type 0 where
  pub picked : (values : ℕ → List ℕ) (ss : List seen.Member) → AreSeenAs N sets values list ss → IsPlaceOf ss (fewest values (drop from ss)) best
  pub taken : IsTaken N sets list from count best
  pub unset : best ≡ None → count ≡ most

module _ (N most : ℕ) (sets : List (List ℕ)) (list : List Member) where
  seen_all : (values : ℕ → List ℕ) (xs : List Member) (ss : List seen.Member) → AreSeenAs N sets values xs ss → drop (length xs) ss ≡ []
  seen_all values [] [] a = refl
  seen_all values [] (s ∷ ss) a = absurd a
  seen_all values (m ∷ ms) [] a = absurd a
  seen_all values (m ∷ ms) (s ∷ ss) a = seen_all values ms ss a.1

  -- no member is left behind the last one
  pub best_last : IsBest N most sets list (length list) most None
  best_last = record {
    picked = λ values ss a. subst (λ (rest : List seen.Member). IsPlaceOf ss (fewest values rest) None) (sym (seen_all values list ss a)) tt;
    taken = λ k l m. absurd (omega arith);
    unset = λ e. refl;
  }

  -- the number of values of the member that was taken
  taken_count : (values : ℕ → List ℕ) (ss : List seen.Member) (from count p y : ℕ) → AreSeenAs N sets values list ss → IsTaken N sets list from count (Some p)
      → slice_get ss p ≡ Some (seen.Open y) → length (values y) ≡ count
  taken_count values ss from count p y a t e =
      let r = split_at N sets values list ss p (Fixed (pos 0)) a t.0 in
      let f : r.here ≡ seen.Open y = (let g = r.at in cc) in
      let q = subst (IsSeenAs N sets values (member_at list p)) f r.sees in
      q.1 ∙ sym t.1

  module _ (i count : ℕ) (there : i < length list) where
    beats : (values : ℕ → List ℕ) (ss : List seen.Member) (x : ℕ) (o best : Option ℕ) → AreSeenAs N sets values list ss → IsTaken N sets list (suc i) count best
        → IsPlaceOf ss o best → length (values x) ≤ count → unless_fewer values x o ≡ x
    beats values ss x None best a t p l = refl
    beats values ss x (Some y) None a t p l = absurd p
    beats values ss x (Some y) (Some j) a t p l = let e = taken_count values ss (suc i) count j y a t p in
        ap (λ b. cond b y x) (let f : ltb (length (values y)) (length (values x)) ≡ false = le-ltb (length (values y)) (length (values x)) (omega arith) in f)

    loses : (values : ℕ → List ℕ) (ss : List seen.Member) (x n : ℕ) (o best : Option ℕ) → AreSeenAs N sets values list ss
        → IsTaken N sets list (suc i) count best → (best ≡ None → count ≡ most) → IsPlaceOf ss o best → length (values x) ≡ n → count < n → n ≤ most
        → Some (unless_fewer values x o) ≡ o
    loses values ss x n None None a t u p e l m = absurd (let q = u refl in omega arith)
    loses values ss x n None (Some j) a t u p e l m = absurd p
    loses values ss x n (Some y) None a t u p e l m = absurd p
    loses values ss x n (Some y) (Some j) a t u p e l m = let f = taken_count values ss (suc i) count j y a t p in
        ap (λ b. Some (cond b y x)) (let g : ltb (length (values y)) (length (values x)) ≡ true = lt-ltb (length (values y)) (length (values x))
        (omega arith) in g)

    module _ (best : Option ℕ) (old : IsBest N most sets list (suc i) count best) where
      better : (values : ℕ → List ℕ) (ss : List seen.Member) (s : seen.Member) → AreSeenAs N sets values list ss → 1 < value_count N sets (member_at list i)
          → value_count N sets (member_at list i) ≤ count → IsSeenAs N sets values (member_at list i) s → slice_get ss i ≡ Some s
          → IsPlaceOf ss (fewest values (s ∷ drop (suc i) ss)) (Some i)
      better values ss (seen.Known z) a v l q e = absurd (omega arith)
      better values ss (seen.Open x) a v l q e = e ∙ ap (λ y. Some (seen.Open y))
          (sym (beats values ss x (fewest values (drop (suc i) ss)) best a old.taken (old.picked values ss a) (let r = q.1 in omega arith)))

      -- the member at the place is best, where it has several values and no more than the best one behind it
      pub best_here : 1 < value_count N sets (member_at list i) → value_count N sets (member_at list i) ≤ count → IsBest N most sets list i (value_count N sets (member_at list i)) (Some i)
      best_here v l = record {
        picked = λ values ss a.
            (let r = split_at N sets values list ss i (Fixed (pos 0)) a there in
            subst (λ (rest : List seen.Member). IsPlaceOf ss (fewest values rest) (Some i)) (sym r.rest) (better values ss r.here a v l r.sees r.at));
        taken = (there, refl, v);
        unset = λ e. absurd (let f : None ≡ Some i = sym e in let g : ⊥ = cc in g);
      }

      still_taken : (b : Option ℕ) → IsTaken N sets list (suc i) count b → (b ≡ None → value_count N sets (member_at list i) ≤ 1) → IsTaken N sets list i count b
      still_taken None t f = λ k l m. elim (from_cases i k l) [ inl e ↦ subst (λ j. value_count N sets (member_at list j) ≤ 1) e (f refl) | inr h ↦ t k h m ]
      still_taken (Some p) t f = t

      single : (values : ℕ → List ℕ) (ss : List seen.Member) (s : seen.Member) → value_count N sets (member_at list i) ≤ 1
          → IsSeenAs N sets values (member_at list i) s → fewest values (s ∷ drop (suc i) ss) ≡ fewest values (drop (suc i) ss)
      single values ss (seen.Known z) v q = refl
      single values ss (seen.Open x) v q = absurd (let r = q.0 in omega arith)

      -- the best one behind stays best, where the member at the place has one value
      pub best_single : value_count N sets (member_at list i) ≤ 1 → IsBest N most sets list i count best
      best_single v = record {
        picked = λ values ss a.
            (let r = split_at N sets values list ss i (Fixed (pos 0)) a there in
            subst (λ o. IsPlaceOf ss o best) (sym (ap (fewest values) r.rest ∙ single values ss r.here v r.sees)) (old.picked values ss a));
        taken = still_taken best old.taken (λ e. v);
        unset = old.unset;
      }

      several : (values : ℕ → List ℕ) (ss : List seen.Member) (s : seen.Member) → AreSeenAs N sets values list ss → 1 < value_count N sets (member_at list i)
          → count < value_count N sets (member_at list i) → value_count N sets (member_at list i) ≤ most → IsSeenAs N sets values (member_at list i) s
          → fewest values (s ∷ drop (suc i) ss) ≡ fewest values (drop (suc i) ss)
      several values ss (seen.Known z) a v l m q = absurd (omega arith)
      several values ss (seen.Open x) a v l m q = loses values ss x (value_count N sets (member_at list i)) (fewest values (drop (suc i) ss)) best a old.taken
          old.unset (old.picked values ss a) q.1 l m

      -- the best one behind stays best, where the member at the place has more values
      pub best_several : 1 < value_count N sets (member_at list i) → count < value_count N sets (member_at list i) → value_count N sets (member_at list i) ≤ most → IsBest N most sets list i count best
      best_several v l m = record {
        picked = λ values ss a.
            (let r = split_at N sets values list ss i (Fixed (pos 0)) a there in
            subst (λ o. IsPlaceOf ss o best) (sym (ap (fewest values) r.rest ∙ several values ss r.here a v l m r.sees)) (old.picked values ss a));
        taken = still_taken best old.taken (λ e. absurd (let q = old.unset e in omega arith));
        unset = old.unset;
      }

  -- the best of all members is the one that is picked
  pub picked_best : (count : ℕ) (best : Option ℕ) → IsBest N most sets list 0 count best → IsPicked N FirstFail sets list best
  picked_best count best b values ss a = b.picked values ss a

  -- the best of all members has more than one value, and none has where there is no best one
  pub several_best : (count : ℕ) (best : Option ℕ) → IsBest N most sets list 0 count best → HasSeveral N sets list best
  several_best count None b = λ k d l. subst (λ m. value_count N sets m ≤ 1) (get_or_default list k (Fixed (pos 0)) d l) (b.taken k (omega arith) l)
  several_best count (Some i) b = (b.taken.0, subst (λ n. 1 < n) b.taken.1 b.taken.2)
