-- The first line that isn't right.
use Rattle.std.proofs.Common.{◌≡◌, ℕ, suc, zero, ◌+◌, ◌-◌, ◌<◌, ◌≤◌, Bool, true, false, not, cond, ltb, List, [], ◌∷◌, ◌++◌, map, length, get_or, Some, None}
use Rattle.std.proofs.Common.{slice_get, refl, sym, ap, ◌∙◌, inl, inr, arith}
use Rattle.std.specs.List.{position, position_or_len, list_all}
use Rattle.std.proofs.lemmas.Bool.{cases_lt, cases_order, true≢false, ltb-false, and_parts, and_from, not-true, not-false}
use Rattle.std.proofs.lemmas.Option.{none-some, same_Some, slice_get-get_or, slice_get_within}
use Rattle.std.proofs.lemmas.List.{length-map}
use Rattle.std.proofs.lemmas.List.Folds.{list_all-append}
use Rattle.std.proofs.lemmas.List.Sums.{fails_before_first}
use Rattle.std.proofs.lemmas.List.Quantifiers.{position-Some}
use Rattle.listing_loader.specs.Marks.{IsFirstWrong, AreRight}

-- the first mark that is false
pub record FirstFalse (marks : List Bool) (k : ℕ) : Type 0 where
  pub wrong : slice_get marks k ≡ Some false
  pub before : (j : ℕ) → j < k → slice_get marks j ≡ Some true

place_map : {X Y : Type 0} (p : Y → Bool) (f : X → Y) (xs : List X) → position_or_len p (map f xs) ≡ position_or_len (λ x. p (f x)) xs
place_map p f [] = refl
place_map p f (x ∷ xs) = ap (λ n. cond (not (p (f x))) (1 + n) 0) (place_map p f xs)

pub position_map : {X Y : Type 0} (p : Y → Bool) (f : X → Y) (xs : List X) → position p (map f xs) ≡ position (λ x. p (f x)) xs
position_map p f xs =
    ap (λ n. cond (ltb n (length (map f xs))) (Some n) None) (place_map p f xs)
    ∙ ap (λ n. cond (ltb (position_or_len (λ x. p (f x)) xs) n) (Some (position_or_len (λ x. p (f x)) xs)) None) (length-map xs f)

-- ---- what a search for it tells

pub first_false : (marks : List Bool) (k : ℕ) → position not marks ≡ Some k → FirstFalse marks k
first_false marks k e =
    let w = position-Some not marks k true e in
    record {
      wrong = slice_get-get_or marks k true w.0 ∙ ap Some (not-true (get_or marks k true) w.1);
      before = λ j h. slice_get-get_or marks j true (omega (arith, h, w.0)) ∙ ap Some (not-false (get_or marks j true) (w.2 j h));
    }

all_true : (marks : List Bool) → ((k : ℕ) → k < length marks → get_or marks k true ≡ true) → AreRight marks
all_true [] h = refl
all_true (m ∷ ms) h = and_from m (list_all (λ m. m) ms) (h 0 (omega arith)) (all_true ms (λ k l. h (suc k) (omega (arith, l))))

pub none_false : (marks : List Bool) → position not marks ≡ None → AreRight marks
none_false marks e = all_true marks (λ k l. not-false (get_or marks k true) (fails_before_first not marks k true (omega (arith, l, far)))) where
  by : (b : Bool) → ltb (position_or_len not marks) (length marks) ≡ b → cond b (Some (position_or_len not marks)) None ≡ None → length marks ≤ position_or_len not marks
  by true f g = absurd (none-some (position_or_len not marks) (sym g))
  by false f g = ltb-false _ _ f

  far : length marks ≤ position_or_len not marks
  far = by (ltb (position_or_len not marks) (length marks)) refl e

-- ---- marks behind marks

front_get : {X : Type 0} (xs ys : List X) (k : ℕ) (x : X) → slice_get xs k ≡ Some x → slice_get (xs ++ ys) k ≡ Some x
front_get [] ys k x h = absurd (none-some x h)
front_get (z ∷ xs) ys zero x h = h
front_get (z ∷ xs) ys (suc k) x h = front_get xs ys k x h

behind_get : {X : Type 0} (xs ys : List X) (n k : ℕ) → n ≡ length xs + k → slice_get (xs ++ ys) n ≡ slice_get ys k
behind_get [] ys n k e = ap (slice_get ys) (omega (arith, e))
behind_get (x ∷ xs) ys zero k e = absurd (omega (arith, e))
behind_get (x ∷ xs) ys (suc n) k e = behind_get xs ys n k (omega (arith, e))

pub right_get : (marks : List Bool) (k : ℕ) → AreRight marks → k < length marks → slice_get marks k ≡ Some true
right_get [] k r h = absurd (omega (arith, h))
right_get (m ∷ ms) zero r h = ap Some (and_parts m (list_all (λ m. m) ms) r).0
right_get (m ∷ ms) (suc k) r h = right_get ms k (and_parts m (list_all (λ m. m) ms) r).1 (omega (arith, h))

both_right : (xs ys : List Bool) → AreRight xs → AreRight ys → AreRight (xs ++ ys)
both_right xs ys r s = list_all-append (λ m. m) xs ys ∙ and_from _ _ r s

at_front : (xs ys : List Bool) (k : ℕ) → FirstFalse xs k → FirstFalse (xs ++ ys) k
at_front xs ys k f = record { wrong = front_get xs ys k false f.wrong; before = λ j h. front_get xs ys j true (f.before j h) }

behind : (xs ys : List Bool) (n k : ℕ) → n ≡ length xs + k → AreRight xs → FirstFalse ys k → FirstFalse (xs ++ ys) n
behind xs ys n k e r f = record { wrong = behind_get xs ys n k e ∙ f.wrong; before = earlier } where
  earlier : (j : ℕ) → j < n → slice_get (xs ++ ys) j ≡ Some true
  earlier j h = elim (cases_lt j (length xs)) [
    | inl l ↦ front_get xs ys j true (right_get xs j r l)
    | inr l ↦ (let i = j - length xs in behind_get xs ys j i (omega (arith, l)) ∙ f.before i (omega (arith, l, h, e)))
  ]

line_of : (marks : List Bool) (line k : ℕ) → line ≡ suc k → FirstFalse marks k → IsFirstWrong marks line
line_of marks line k e f = record { index = k; at = e; wrong = f.wrong; before = f.before }

-- ---- all lines of a sheet, section by section

module _ (A R E Q C : List Bool) where
  abbrev pub all_marks : List Bool
  all_marks = true ∷ ((true ∷ A) ++ ((true ∷ R) ++ ((true ∷ E) ++ ((true ∷ Q) ++ (true ∷ C)))))

  pub in_atoms : (line k : ℕ) → line ≡ 3 + k → FirstFalse A k → IsFirstWrong all_marks line
  in_atoms line k e f =
      line_of all_marks line (2 + k) (omega (arith, e))
      (behind (true ∷ true ∷ []) (A ++ ((true ∷ R) ++ ((true ∷ E) ++ ((true ∷ Q) ++ (true ∷ C))))) (2 + k) k refl refl (at_front A _ k f))

  pub in_ranges : (line k : ℕ) → line ≡ 4 + length A + k → AreRight A → FirstFalse R k → IsFirstWrong all_marks line
  in_ranges line k e a f =
      line_of all_marks line (3 + length A + k) (omega (arith, e))
      (behind (true ∷ true ∷ A) ((true ∷ R) ++ ((true ∷ E) ++ ((true ∷ Q) ++ (true ∷ C)))) (3 + length A + k) (1 + k) (omega arith) a
      (at_front (true ∷ R) _ (1 + k) (behind (true ∷ []) R (1 + k) k refl refl f)))

  pub in_entries : (line k : ℕ) → line ≡ 5 + length A + length R + k → AreRight A → AreRight R → FirstFalse E k → IsFirstWrong all_marks line
  in_entries line k e a r f =
      line_of all_marks line (4 + length A + length R + k) (omega (arith, e))
      (behind (true ∷ true ∷ A) ((true ∷ R) ++ ((true ∷ E) ++ ((true ∷ Q) ++ (true ∷ C)))) (4 + length A + length R + k) (2 + length R + k) (omega arith) a
      (behind (true ∷ R) ((true ∷ E) ++ ((true ∷ Q) ++ (true ∷ C))) (2 + length R + k) (1 + k) (omega arith) r
      (at_front (true ∷ E) _ (1 + k) (behind (true ∷ []) E (1 + k) k refl refl f))))

  pub in_queries : (line k : ℕ) → line ≡ 6 + length A + length R + length E + k → AreRight A → AreRight R → AreRight E → FirstFalse Q k → IsFirstWrong all_marks line
  in_queries line k e a r p f =
      line_of all_marks line (5 + length A + length R + length E + k) (omega (arith, e))
      (behind (true ∷ true ∷ A) ((true ∷ R) ++ ((true ∷ E) ++ ((true ∷ Q) ++ (true ∷ C)))) (5 + length A + length R + length E + k) (3 + length R + length E + k) (omega arith) a
      (behind (true ∷ R) ((true ∷ E) ++ ((true ∷ Q) ++ (true ∷ C))) (3 + length R + length E + k) (2 + length E + k) (omega arith) r
      (behind (true ∷ E) ((true ∷ Q) ++ (true ∷ C)) (2 + length E + k) (1 + k) (omega arith) p
      (at_front (true ∷ Q) _ (1 + k) (behind (true ∷ []) Q (1 + k) k refl refl f)))))

  pub in_places : (line k : ℕ) → line ≡ 7 + length A + length R + length E + length Q + k → AreRight A → AreRight R → AreRight E → AreRight Q → FirstFalse C k → IsFirstWrong all_marks line
  in_places line k e a r p q f =
      line_of all_marks line (6 + length A + length R + length E + length Q + k) (omega (arith, e))
      (behind (true ∷ true ∷ A) ((true ∷ R) ++ ((true ∷ E) ++ ((true ∷ Q) ++ (true ∷ C)))) (6 + length A + length R + length E + length Q + k) (4 + length R + length E + length Q + k) (omega arith) a
      (behind (true ∷ R) ((true ∷ E) ++ ((true ∷ Q) ++ (true ∷ C))) (4 + length R + length E + length Q + k) (3 + length E + length Q + k) (omega arith) r
      (behind (true ∷ E) ((true ∷ Q) ++ (true ∷ C)) (3 + length E + length Q + k) (2 + length Q + k) (omega arith) p
      (behind (true ∷ Q) (true ∷ C) (2 + length Q + k) (1 + k) (omega arith) q (behind (true ∷ []) C (1 + k) k refl refl f)))))

  pub all_right : AreRight A → AreRight R → AreRight E → AreRight Q → AreRight C → AreRight all_marks
  all_right a r p q c = both_right A _ a (both_right R _ r (both_right E _ p (both_right Q _ q c)))

  -- and what is right of all is right of each
  pub right_parts : AreRight all_marks → AreRight A × AreRight R × AreRight E × AreRight Q × AreRight C
  right_parts h =
      let one = split A _ h in
      let two = split R _ one.1 in
      let three = split E _ two.1 in
      let four = split Q _ three.1 in
      (one.0, two.0, three.0, four.0, four.1)
    where
      split : (xs ys : List Bool) → AreRight (xs ++ ys) → AreRight xs × AreRight ys
      split xs ys h = and_parts _ _ (sym (list_all-append (λ m. m) xs ys) ∙ h)

-- ---- there is one first line, or none

pub not_wrong : (marks : List Bool) (line : ℕ) → AreRight marks → ¬ IsFirstWrong marks line
not_wrong marks line r w = absurd (true≢false (same_Some true false (sym (right_get marks w.index r (slice_get_within marks w.index false w.wrong)) ∙ w.wrong)))

pub one_wrong : (marks : List Bool) (l m : ℕ) → IsFirstWrong marks l → IsFirstWrong marks m → l ≡ m
one_wrong marks l m v w = elim (cases_order v.index w.index) [
  | inl e ↦ omega (arith, e, v.at, w.at)
  | inr o ↦ absurd (elim o [
    | inl h ↦ true≢false (same_Some true false (sym (w.before v.index h) ∙ v.wrong))
    | inr h ↦ true≢false (same_Some true false (sym (v.before w.index h) ∙ w.wrong))
  ])
]
