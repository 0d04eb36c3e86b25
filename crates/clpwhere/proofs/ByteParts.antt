-- What stands before the first byte of a value, and behind the last.
use Rattle.std.proofs.Common.{◌≡◌, ℕ, ◌+◌, ◌-◌, ◌≤◌, false, not, List, length, take, drop, get_or, sym, ap, ◌∙◌, subst, arith, take_all, length-drop}
use Rattle.std.specs.Prelude.{◌==◌}
use Rattle.std.specs.List.{before_first, after_last, suffix_len}
use Rattle.std.proofs.lemmas.List.Sums.{position_or_len_is, suffix_len_is}
use Rattle.std.proofs.lemmas.Bool.{false_from_ne_true}
use Rattle.memchr.specs.Find.{NoneBefore, NoneAfter, Nowhere, Passes, is_byte}

-- the first stands at a place
pub before_some : (b : ℕ) (bs : List ℕ) (at : ℕ) → NoneBefore (Passes (is_byte b) bs) 0 (length bs) at → Passes (is_byte b) bs at → take at bs ≡ before_first (λ x. x == b) bs
before_some b bs at n p =
    let high = n.high in
    ap (λ k. take k bs) (sym (position_or_len_is (λ x. x == b) bs at 0 (omega (arith, high)) (λ k l. false_from_ne_true _ (n.before k (omega arith) l)) (λ l. p)))

-- or none stands there
pub before_none : (b : ℕ) (bs : List ℕ) → Nowhere (Passes (is_byte b) bs) 0 (length bs) → bs ≡ before_first (λ x. x == b) bs
before_none b bs n =
    let at : length bs ≤ length bs = omega arith in
    sym (ap (λ k. take k bs) (position_or_len_is (λ x. x == b) bs (length bs) 0 at (λ k l. false_from_ne_true _ (n k (omega arith) l)) (λ l. absurd (omega arith))) ∙ take_all (length bs) bs at)

from_end : (bs : List ℕ) (s n : ℕ) → n ≤ length bs → s ≡ length bs - n → drop (length bs - s) bs ≡ drop n bs
from_end bs s n l e = let same : length bs - s ≡ n = omega (arith, e) in ap (λ k. drop k bs) same

-- the last stands at a place
pub behind_some : (b : ℕ) (bs : List ℕ) (at : ℕ) → NoneAfter (Passes (is_byte b) bs) 0 (length bs) at → Passes (is_byte b) bs at
    → take (length bs - (at + 1)) (drop (at + 1) bs) ≡ after_last (λ x. x == b) bs
behind_some b bs at n p =
    let high = n.high in
    let test = λ (x : ℕ). not (x == b) in
    let here : (at + 1) - 1 ≡ at = omega arith in
    let last : suffix_len test bs ≡ length bs - (at + 1) = suffix_len_is test bs (at + 1) 0 (omega (arith, high)) (λ k lo hi. ap not (false_from_ne_true _ (n.after k lo hi)))
    (λ l. subst (λ k. not (get_or bs k 0 == b) ≡ false) (sym here) (ap not p)) in
    take_all (length bs - (at + 1)) (drop (at + 1) bs) (omega (arith, length-drop (at + 1) bs)) ∙ sym (from_end bs (suffix_len test bs) (at + 1) (omega (arith, high)) last)

-- or none stands there
pub behind_none : (b : ℕ) (bs : List ℕ) → Nowhere (Passes (is_byte b) bs) 0 (length bs) → bs ≡ after_last (λ x. x == b) bs
behind_none b bs n =
    let test = λ (x : ℕ). not (x == b) in
    let last : suffix_len test bs ≡ length bs - 0 = suffix_len_is test bs 0 0 (omega arith) (λ k lo hi. ap not (false_from_ne_true _ (n k lo hi))) (λ l. absurd (omega arith)) in
    sym (from_end bs (suffix_len test bs) 0 (omega arith) last)
