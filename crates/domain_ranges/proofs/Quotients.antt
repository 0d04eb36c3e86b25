-- The loop of the quotient of a list of intervals.
use Rattle.std.proofs.Common.{◌≡◌, ℕ, suc, ◌+◌, ◌*◌, ◌/◌, ◌<◌, ◌≤◌, Bool, false, ◌||◌, ◌&&◌, leb, List, ◌∷◌, ap, sym, ◌∙◌, subst, arith, length, get_or, drop}
use Rattle.std.proofs.Common.{drop_of_length-le, Option, inl, inr}
use Rattle.std.specs.Int.{div_ceil}
use Rattle.std.proofs.lemmas.Bool.Decides.{nat_tests}
use Rattle.std.proofs.lemmas.Grind.{div_ceil_times}
use Rattle.std.proofs.Math.Nat.{mul-le-mul_right, div-mul-le_self, le-mul_of_pos_right, suc-mul}
use Rattle.std.specs.Cmp.{both_ways}
use Rattle.std.proofs.lemmas.Bool.{le-leb, leb-true, cases_lt}
use Rattle.std.proofs.lemmas.Nat.{le-div}
use Rattle.std.proofs.lemmas.List.{drop_more}
use Rattle.domain_ranges.specs.Spans.{Span, within, IsSpans, listed}
use Rattle.domain_ranges.proofs.Spans.{within_low}
use Rattle.domain_ranges.proofs.Places.{drop_spans}
use Rattle.domain_ranges.proofs.OpenInterval.{Joining, IsFirst}

-- a quotient rounded up, and one rounded down
up_fwd : (a b n : ℕ) → 0 < b → div_ceil a b ≤ n → a ≤ n * b
up_fwd a b n h g = let t = div_ceil_times a b h in let m : div_ceil a b * b ≤ n * b = mul-le-mul_right b g in omega (arith, t.0)

up_back : (a b n : ℕ) → 0 < b → a ≤ n * b → div_ceil a b ≤ n
up_back a b n h g = elim (cases_lt n (div_ceil a b)) [
  | inl l ↦ let t = div_ceil_times a b h in let m : suc n * b ≤ div_ceil a b * b = mul-le-mul_right b l in let e = suc-mul n b in absurd (omega (arith, t.1))
  | inr l ↦ l
]

pub up_is : (a b n : ℕ) → 0 < b → leb a (n * b) ≡ leb (div_ceil a b) n
up_is a b n h = both_ways (leb a (n * b)) (leb (div_ceil a b) n) (λ e. le-leb (div_ceil a b) n (up_back a b n h (leb-true a (n * b) e)))
    (λ e. le-leb a (n * b) (up_fwd a b n h (leb-true (div_ceil a b) n e)))

pub down_fwd : (a b n : ℕ) → n ≤ a / b → n * b ≤ a
down_fwd a b n g = let t = div-mul-le_self a b in let m : n * b ≤ a / b * b = mul-le-mul_right b g in omega arith

pub down_is : (a b n : ℕ) → 0 < b → leb (n * b) a ≡ leb n (a / b)
down_is a b n h = both_ways (leb (n * b) a) (leb n (a / b)) (λ e. le-leb n (a / b) (le-div n a b h (leb-true (n * b) a e))) (λ e. le-leb (n * b) a (down_fwd a b n (leb-true n (a / b) e)))

down_low : (a b : ℕ) → 0 < b → a / b ≤ a
down_low a b h = let t = div-mul-le_self a b in let m : a / b ≤ a / b * b = le-mul_of_pos_right (a / b) h in omega arith

both_are : (b : ℕ) (x : Span) (n : ℕ) → 0 < b → (leb x.0 (n * b) && leb (n * b) x.1) ≡ (leb (div_ceil x.0 b) n && leb n (x.1 / b))
both_are b x n h = ap (λ t. t && leb (n * b) x.1) (up_is x.0 b n h) ∙ ap (λ t. leb (div_ceil x.0 b) n && t) (down_is x.1 b n h)

-- what comes of one interval
first_quotient : (M c low : ℕ) (x : Span) (xs : List Span) → 0 < c → IsSpans low M (x ∷ xs) → div_ceil x.0 c ≤ x.1 / c
    → IsFirst M (λ n. within (x ∷ xs) (n * c)) (div_ceil x.0 c, x.1 / c) (λ n. within xs (n * c))
first_quotient M c low x xs h r g = record {
  order = g;
  high = let d = down_low x.1 c h in omega (arith, r.2);
  later = λ n e. up_back x.0 c n h (omega (arith, r.1, within_low (x.1 + 2) M xs (n * c) r.3 e));
  same = λ n l. ap (λ t. t || within xs (n * c)) (both_are c x n h);
}

none_bits : (a b n : ℕ) → b < a → (leb a n && leb n b) ≡ false
none_bits a b n h = grind (arith, nat_tests)

no_quotient : (c : ℕ) (x : Span) (xs : List Span) → 0 < c → x.1 / c < div_ceil x.0 c → (n : ℕ) → within (x ∷ xs) (n * c) ≡ within xs (n * c)
no_quotient c x xs h g n = ap (λ t. t || within xs (n * c)) (both_are c x n h ∙ none_bits (div_ceil x.0 c) (x.1 / c) n g)

pub quotient_at : (M c i : ℕ) (ss : List Span) → 0 < c → IsSpans 0 M ss → i < length ss → div_ceil (get_or ss i (0, 0)).0 c ≤ (get_or ss i (0, 0)).1 / c
    → IsFirst M (λ n. within (drop i ss) (n * c)) (div_ceil (get_or ss i (0, 0)).0 c, (get_or ss i (0, 0)).1 / c) (λ n. within (drop (i + 1) ss) (n * c))
quotient_at M c i ss h r l g =
    let rest = drop_spans 0 M i ss r in
    subst (λ ts. IsFirst M (λ n. within ts (n * c)) (div_ceil (get_or ss i (0, 0)).0 c, (get_or ss i (0, 0)).1 / c) (λ n. within (drop (i + 1) ss) (n * c))) (sym (drop_more ss i (0, 0) l))
    (first_quotient M c rest.0 (get_or ss i (0, 0)) (drop (i + 1) ss) h (subst (IsSpans rest.0 M) (drop_more ss i (0, 0) l) rest.1) g)

-- where nothing comes of an interval
pub quotient_skip : (M c i : ℕ) (p : ℕ → Bool) (out : List Span) (last : Option Span) (ss : List Span) → 0 < c → i < length ss
    → (get_or ss i (0, 0)).1 / c < div_ceil (get_or ss i (0, 0)).0 c → Joining M p out last (λ n. within (drop i ss) (n * c))
    → Joining M p out last (λ n. within (drop (i + 1) ss) (n * c))
quotient_skip M c i p out last ss h l g j =
    let same : (n : ℕ) → within (drop i ss) (n * c) ≡ within (drop (i + 1) ss) (n * c) = λ n. ap (λ ts. within ts (n * c)) (drop_more ss i (0, 0) l)
    ∙ no_quotient c (get_or ss i (0, 0)) (drop (i + 1) ss) h g n in
    record {
      at = j.at;
      made = j.made;
      open_span = j.open_span;
      start = λ n e. j.start n (same n ∙ e);
      same = λ n k a. j.same n k a ∙ ap (λ t. within (listed last) n || t) (same n);
    }

pub quotient_end : (c i n : ℕ) (ss : List Span) → length ss ≤ i → within (drop i ss) (n * c) ≡ false
quotient_end c i n ss h = ap (λ ts. within ts (n * c)) (drop_of_length-le ss h)

-- where the code has the rounded quotient
pub low_at : (M c i low : ℕ) (ss : List Span) → 0 < c → IsSpans 0 M ss → i < length ss → low ≡ div_ceil (get_or ss i (0, 0)).0 c
    → low ≤ (get_or ss i (0, 0)).1 / c → IsFirst M (λ n. within (drop i ss) (n * c)) (low, (get_or ss i (0, 0)).1 / c) (λ n. within (drop (i + 1) ss) (n * c))
low_at M c i low ss h r l e g = subst (λ k. IsFirst M (λ n. within (drop i ss) (n * c)) (k, (get_or ss i (0, 0)).1 / c) (λ n. within (drop (i + 1) ss) (n * c)))
    (sym e) (quotient_at M c i ss h r l (subst (λ k. k ≤ (get_or ss i (0, 0)).1 / c) e g))

pub low_skip : (M c i low : ℕ) (p : ℕ → Bool) (out : List Span) (last : Option Span) (ss : List Span) → 0 < c → i < length ss
    → low ≡ div_ceil (get_or ss i (0, 0)).0 c → (get_or ss i (0, 0)).1 / c < low → Joining M p out last (λ n. within (drop i ss) (n * c))
    → Joining M p out last (λ n. within (drop (i + 1) ss) (n * c))
low_skip M c i low p out last ss h l e g j = quotient_skip M c i p out last ss h l (subst (λ k. (get_or ss i (0, 0)).1 / c < k) e g) j
