-- Ranges that are given in pieces.
use Rattle.std.proofs.Common.{◌≡◌, ℕ, zero, suc, ◌+◌, ◌-◌, ◌<◌, ◌≤◌, List, [], ◌∷◌, ◌++◌, length, take, drop, get_or, refl, sym, ap, subst, ◌∙◌, arith}
use Rattle.std.proofs.Common.{length-append}
use Rattle.std.specs.Prelude.{Option, Some, None, MatchOption, Result, Ok, Err, IfOk}
use Rattle.std.proofs.lemmas.List.{take_rest, drop_more, get_or_default}
use Rattle.fd_language.specs.Range.{Range, Indexical}
use Rattle.fd_model.specs.ListRows.{against, pairwise}
use Rattle.constraint_expand.specs.Pieces.{IsPiece, IsOver}
use Rattle.constraint_expand.specs.Posts.{indexicals, Posts}
use Rattle.product_bool.proofs.Lemmas.{posted_list}

pub is_piece : (old new ps : List Indexical) (list : List (ℕ × Range)) → old ≡ ps ++ new → 0 < length ps → Posts ps [] list → IsPiece old new list
is_piece old new ps list e some p = record {
  ranges = e ∙ ap (λ qs. qs ++ new) (sym (posted_list ps list p));
  some = let l : length old ≡ length ps + length new = ap length e ∙ length-append ps new in omega (arith, l, some);
}

-- ---- members that differ

pub pairs_over : (xs : List ℕ) (i : ℕ) → length xs ≤ i + 1 → pairwise (drop i xs) ≡ []
pairs_over [] zero l = refl
pairs_over [] (suc i) l = refl
pairs_over (x ∷ []) zero l = refl
pairs_over (x ∷ y ∷ xs) zero l = absurd (omega (arith, l))
pairs_over (x ∷ xs) (suc i) l = pairs_over xs i (omega (arith, l))

against_some : (x : ℕ) (ys : List ℕ) → 0 < length ys → 0 < length (against x ys)
against_some x [] l = absurd (omega (arith, l))
against_some x (y ∷ ys) l = omega arith

left_some : (xs : List ℕ) (j : ℕ) → j < length xs → 0 < length (drop j xs)
left_some [] j l = absurd (omega (arith, l))
left_some (x ∷ xs) zero l = omega arith
left_some (x ∷ xs) (suc j) l = left_some xs j (omega (arith, l))

pub pairs_piece : (xs : List ℕ) (i j : ℕ) → j ≡ i + 1 → j < length xs → (list : List (ℕ × Range)) → Posts (against (get_or xs i 0) (drop j xs)) [] list
    → IsPiece (pairwise (drop i xs)) (pairwise (drop j xs)) list
pairs_piece xs i j e l list p =
    let x = get_or xs i 0 in
    let next : drop i xs ≡ x ∷ drop j xs = drop_more xs i 0 (omega (arith, e, l)) ∙ ap (λ k. x ∷ drop k xs) (sym e) in
    is_piece (pairwise (drop i xs)) (pairwise (drop j xs)) (against x (drop j xs)) list (ap pairwise next) (against_some x (drop j xs) (left_some xs j l)) p

-- ---- the ranges that were made at once

some_left : (rest : List (ℕ × Range)) → 0 < length rest → 0 < length (indexicals rest)
some_left [] l = l
some_left (p ∷ ps) l = omega arith

pub last_piece : (a a' b b' d d' e : List Indexical) (rest now list : List (ℕ × Range)) (all : List Indexical) → IsOver a a' → IsOver b b' → IsOver d d'
    → a ++ (b ++ (d ++ (indexicals rest ++ e))) ≡ all → list ≡ rest → now ≡ [] → 0 < length rest
    → IsPiece all (a' ++ (b' ++ (d' ++ (indexicals now ++ e)))) list
last_piece a a' b b' d d' e rest now list all u v w h f g l =
    let before : a ++ (b ++ (d ++ (indexicals rest ++ e))) ≡ indexicals rest ++ e = λ i. u.0 i ++ (v.0 i ++ (w.0 i ++ (indexicals rest ++ e))) in
    let after : a' ++ (b' ++ (d' ++ (indexicals now ++ e))) ≡ e = λ i. u.1 i ++ (v.1 i ++ (w.1 i ++ (indexicals (g i) ++ e))) in
    let is : all ≡ indexicals rest ++ e = sym h ∙ before in
    record {
      ranges = is ∙ (λ i. indexicals (sym f i) ++ sym after i);
      some = let m = some_left rest l in let n : length all ≡ length (indexicals rest) + length e = ap length is ∙ length-append (indexicals rest) e in
          let k : length (a' ++ (b' ++ (d' ++ (indexicals now ++ e)))) ≡ length e = ap length after in omega (arith, m, n, k);
    }

-- ---- the rows of sums behind them

pub none_left : (rest : List (ℕ × Range)) → length rest ≡ 0 → rest ≡ []
none_left [] e = refl
none_left (p ∷ ps) e = absurd (omega arith)

module _ (a a' b b' d d' e e' : List Indexical) (rest : List (ℕ × Range)) (all : List Indexical) (u : IsOver a a') (v : IsOver b b') (w : IsOver d d')
    (g : rest ≡ []) (h : a ++ (b ++ (d ++ (indexicals rest ++ e))) ≡ all) where
  only : all ≡ e
  only = sym h ∙ (λ i. u.0 i ++ (v.0 i ++ (w.0 i ++ (indexicals (g i) ++ e))))

  left : a' ++ (b' ++ (d' ++ (indexicals rest ++ e'))) ≡ e'
  left = λ i. u.1 i ++ (v.1 i ++ (w.1 i ++ (indexicals (g i) ++ e')))

  sums_piece : (list : List (ℕ × Range)) → IsPiece e e' list → IsPiece all (a' ++ (b' ++ (d' ++ (indexicals rest ++ e')))) list
  sums_piece list p = record {
    ranges = only ∙ (p.ranges ∙ ap (λ qs. indexicals list ++ qs) (sym left));
    some = let m : length all ≡ length e = ap length only in let n : length (a' ++ (b' ++ (d' ++ (indexicals rest ++ e')))) ≡ length e' = ap length left in omega (arith, m, n, p.some);
  }

  sums_over : IsOver e e' → IsOver all (a' ++ (b' ++ (d' ++ (indexicals rest ++ e'))))
  sums_over p = (only ∙ p.0, left ∙ p.1)

  pub sums_given : {V E : Type 0} (items : V → List (ℕ × Range)) (r : Result (Option V) E) → IfOk r (λ o. MatchOption o (IsOver e e') (λ v. IsPiece e e' (items v)))
      → IfOk r (λ o. MatchOption o (IsOver all (a' ++ (b' ++ (d' ++ (indexicals rest ++ e'))))) (λ v. IsPiece all (a' ++ (b' ++ (d' ++ (indexicals rest ++ e')))) (items v)))
  sums_given items (Ok None) h = sums_over h
  sums_given items (Ok (Some v)) h = sums_piece (items v) h
  sums_given items (Err f) h = h

pub against_posts : (xs slice : List ℕ) (i j v : ℕ) (start list : List (ℕ × Range)) → slice ≡ xs → i < length xs → v ≡ get_or xs i v → start ≡ []
    → Posts (against v (take (length slice - j) (drop j slice))) start list → Posts (against (get_or xs i 0) (drop j xs)) [] list
against_posts xs slice i j v start list s l e n p =
    let rest = take (length slice - j) (drop j slice) in
    subst (λ (ys : List ℕ). Posts (against (get_or xs i 0) ys) [] list) (ap (λ zs. take (length zs - j) (drop j zs)) s ∙ take_rest xs j)
    (subst (λ (k : ℕ). Posts (against k rest) [] list) (e ∙ get_or_default xs i v 0 l)
    (subst (λ (rs : List (ℕ × Range)). Posts (against v rest) rs list) n p))
