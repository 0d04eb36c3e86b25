-- fd_all_different and its rows.
use Rattle.std.proofs.Common.{◌≡◌, ℕ, ◌≤◌, ◌<◌, true, not, ◌&&◌, pos, int_le, List, [], ◌∷◌, refl, sym, ◌∙◌, subst, arith, Ok}
use Rattle.std.specs.Ordering.{int_eq}
use Rattle.std.proofs.lemmas.Int.{ints}
use Rattle.fd_language.specs.Family.{has}
use Rattle.fd_language.specs.Term.{Term, no_terms, term}
use Rattle.fd_language.specs.Variables.{TermBelow}
use Rattle.fd_model.specs.declared.kinds.ConstraintKind.TheVariants.{AllDifferent}
use Rattle.fd_language.specs.Range.{Span, One, Outside, Val, Number, Infinity, set_of}
use Rattle.fd_model.specs.LinearRows.{Expansion}
use Rattle.fd_model.specs.Members.{Member, as_member, walk, placed, fresh_after, equated_from}
use Rattle.fd_model.specs.ListRows.{against, pairwise, different_ranges, different_rows}
use Rattle.fd_model.specs.ConstraintExpansion.{all_different}
use Rattle.fd_model.specs.Satisfaction.{Assignment, singles, worths, AreNumbers, IsNone, AreDifferent}
use Rattle.fd_model.specs.ConstraintLaws.{AllEquated, OneFits, IsRewritten}
use Rattle.fd_model.proofs.CollectedSums.{one_ok}
use Rattle.fd_model.proofs.Singles.{up_to, set_singles, Inside, inside_append, inside_left, inside_right}
use Rattle.fd_model.proofs.FreshVariables.{values_at, members_read, KnownNumbers, known_numbers, placed_worths, filled, filled_below, filled_small}
use Rattle.fd_model.proofs.FreshVariables.{filled_equated, equated_agree}

other_test : (m n : ℕ) → (pos m ≡ pos n → ⊥) → not (int_eq (pos n) (pos m)) ≡ true
other_test m n f = grind (arith, ints, f)

test_other : (m n : ℕ) → not (int_eq (pos n) (pos m)) ≡ true → pos m ≡ pos n → ⊥
test_other m n h e = grind (arith, ints)

in_universe_test : (M n : ℕ) → n ≤ M → (int_le (pos 0) (pos n) && int_le (pos n) (pos M)) ≡ true
in_universe_test M n h = grind (arith, ints)

module _ (M : ℕ) (b : Assignment) (small : (v : ℕ) → b v ≤ M) where
  differ_inside : (x y : ℕ) → (pos (b x) ≡ pos (b y) → ⊥) → has (set_of M (singles b) (Outside (One (Val y)))) (b x) ≡ true
  differ_inside x y f = set_singles M b (Outside (One (Val y))) (b x) (small x) ∙ other_test (b x) (b y) f

  inside_differ : (x y : ℕ) → has (set_of M (singles b) (Outside (One (Val y)))) (b x) ≡ true → pos (b x) ≡ pos (b y) → ⊥
  inside_differ x y h = test_other (b x) (b y) (sym (set_singles M b (Outside (One (Val y))) (b x) (small x)) ∙ h)

  against_inside : (x : ℕ) (ys : List ℕ) → IsNone (pos (b x)) (values_at b ys) → Inside M b (against x ys)
  against_inside x [] h = tt
  against_inside x (y ∷ ys) h = (differ_inside x y h.0, (differ_inside y x (λ e. h.0 (sym e)), against_inside x ys h.1))

  inside_against : (x : ℕ) (ys : List ℕ) → Inside M b (against x ys) → IsNone (pos (b x)) (values_at b ys)
  inside_against x [] h = tt
  inside_against x (y ∷ ys) h = (inside_differ x y h.0, inside_against x ys h.1.1)

  pairs_inside : (xs : List ℕ) → AreDifferent (values_at b xs) → Inside M b (pairwise xs)
  pairs_inside [] h = tt
  pairs_inside (x ∷ xs) h = inside_append M b (against x xs) (pairwise xs) (against_inside x xs h.0) (pairs_inside xs h.1)

  inside_pairs : (xs : List ℕ) → Inside M b (pairwise xs) → AreDifferent (values_at b xs)
  inside_pairs [] h = tt
  inside_pairs (x ∷ xs) h = (inside_against x xs (inside_left M b (against x xs) (pairwise xs) h), inside_pairs xs (inside_right M b (against x xs) (pairwise xs) h))

  different_inside : (xs : List ℕ) → AreDifferent (values_at b xs) → Inside M b (different_ranges xs)
  different_inside [] h = tt
  different_inside (x ∷ []) h = (set_singles M b (Span (Number (pos 0)) Infinity) (b x) (small x) ∙ in_universe_test M (b x) (small x), tt)
  different_inside (x ∷ y ∷ ys) h = pairs_inside (x ∷ y ∷ ys) h

  inside_different : (xs : List ℕ) → Inside M b (different_ranges xs) → AreDifferent (values_at b xs)
  inside_different [] h = tt
  inside_different (x ∷ []) h = (tt, tt)
  inside_different (x ∷ y ∷ ys) h = inside_pairs (x ∷ y ∷ ys) h

pub are_numbers : (N : ℕ) (b : Assignment) → ((v : ℕ) → b v ≤ N) → (xs : List ℕ) → AreNumbers N (values_at b xs)
are_numbers N b small [] = tt
are_numbers N b small (x ∷ xs) = (record { number = b x; within = small x; is = refl }, are_numbers N b small xs)

-- an expansion that only equates fresh variables with integers
pub placed_one : (M N n : ℕ) (ms : List Member) (x : Expansion) (a : Assignment) → ((v : ℕ) → a v ≤ N) → KnownNumbers N ms → x.equated ≡ equated_from n ms → x.fresh ≡ fresh_after n ms
    → Inside M (filled a n ms) x.ranges → OneFits M N n x a
placed_one M N n ms x a small k e f i = record {
  extension = filled a n ms;
  extends = record { within = filled_small N ms a n k small; same = λ v h. filled_below ms a n v h };
  fits = record { equated = subst (AllEquated (filled a n ms)) (sym e) (filled_equated N ms a n k); inside = i };
  only = λ b g h v l. equated_agree ms n b (filled a n ms) (λ w p. g.same w p ∙ sym (filled_below ms a n w p)) (subst (AllEquated b) e h.equated)
      (filled_equated N ms a n k) v (subst (λ m. v < m) f l);
}

pub differing : (M N : ℕ) → N ≤ M → (l : Term) (n : ℕ) (x : Expansion) (a : Assignment) → TermBelow n l → ((v : ℕ) → a v ≤ N) → all_different l n ≡ Ok x
    → IsRewritten M N AllDifferent (term l no_terms) n x a
differing M N up l n x a below small h =
    let k = one_ok (λ ms. Ok (different_rows ms n)) (walk as_member l) x h in
    let ms = k.0 in
    let r = members_read n a l ms k.1 in
    let e : different_rows ms n ≡ x = cc (k.2) in
    subst (λ y. IsRewritten M N AllDifferent (term l no_terms) n y a) e (record {
      one = λ sat.
          let known = known_numbers N a ms (subst (AreNumbers N) r.worths sat.0) in
          let b = filled a n ms in
          placed_one M N n ms (different_rows ms n) a small known refl refl
          (different_inside M b (up_to M N up b (filled_small N ms a n known small)) (placed n ms)
          (subst AreDifferent (r.worths ∙ sym (placed_worths n a b (filled_below ms a n) ms n (r.below below) (filled_equated N ms a n known))) sat.1));
      satisfied = λ b g f.
          let w : values_at b (placed n ms) ≡ worths a l = placed_worths n a b g.same ms n (r.below below) f.equated ∙ sym r.worths in
          (subst (AreNumbers N) w (are_numbers N b g.within (placed n ms)), subst AreDifferent w (inside_different M b (up_to M N up b g.within) (placed n ms) f.inside));
    })
