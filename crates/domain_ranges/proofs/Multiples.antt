-- The loop of the multiples of the members of a list of intervals.
use Rattle.std.proofs.Common.{◌≡◌, ℕ, suc, ◌+◌, ◌*◌, ◌/◌, ◌<◌, ◌≤◌, true, ◌==◌, List, [], ◌∷◌, ◌++◌, filter, refl, ap, sym, ◌∙◌, subst, inl, inr, arith, length}
use Rattle.std.proofs.Common.{get_or, drop, drop_of_length-le, max, eqb-true, eq-eqb}
use Rattle.std.proofs.lemmas.Bool.{true≢false, and_parts, and_from, false_from_ne_true, cases_lt}
use Rattle.std.proofs.Math.Nat.{mul-le-mul_right, mul-div_cancel, lt-div-mul-add, suc-mul}
use Rattle.std.proofs.lemmas.List.{drop_more}
use Rattle.domain_ranges.proofs.Quotients.{down_fwd}
use Rattle.fd_language.specs.Family.{universe}
use Rattle.domain_ranges.specs.Spans.{Span, within, IsSpans, members, interval_count, scaled}
use Rattle.domain_ranges.proofs.Spans.{within_low, in_head, past_first}
use Rattle.domain_ranges.proofs.PartialSets.{Made, IsNext, made_push, made_all, made_many}

-- the members below next are done with
pub record Scaling (M c : ℕ) (ss out : List Span) (next : ℕ) (rest : List Span) : Type 0 where
  pub at : ℕ
  pub made : Made M (scaled ss c) out at
  pub before : at ≤ next * c
  pub done : (e : ℕ) → e < next → e * c < at
  pub low : ℕ
  pub spans : IsSpans low M rest
  pub same : (e : ℕ) → next ≤ e → within ss e ≡ within rest e
  pub inside : (x : Span) (xs : List Span) → rest ≡ x ∷ xs → next ≤ x.1

-- what a multiple is of
pub scaled_from : (ss : List Span) (c n : ℕ) → scaled ss c n ≡ true → (n / c * c ≡ n) × (within ss (n / c) ≡ true)
scaled_from ss c n h = let both = and_parts (n / c * c == n) (within ss (n / c)) h in (eqb-true (n / c * c) n both.0, both.1)

pub scaled_at : (ss : List Span) (c e : ℕ) → 0 < c → within ss e ≡ true → scaled ss c (e * c) ≡ true
scaled_at ss c e h g =
    let q : e * c / c ≡ e = mul-div_cancel e h in
    and_from (e * c / c * c == e * c) (within ss (e * c / c)) (eq-eqb (e * c / c * c) (e * c) (ap (λ k. k * c) q)) (ap (within ss) q ∙ g)

-- a multiple from at on is of a member from the next one on
from_next : (M c : ℕ) (ss out rest : List Span) (next : ℕ) (s : Scaling M c ss out next rest) (n : ℕ) → s.at ≤ n → n / c * c ≡ n → next ≤ n / c
from_next M c ss out rest next s n h e = elim (cases_lt (n / c) next) [ inl l ↦ (let d : n / c * c < s.at = s.done (n / c) l in absurd (omega arith)) | inr l ↦ l ]

-- it is no less than the next member
no_less : (M c : ℕ) (ss out xs : List Span) (next : ℕ) (x : Span) (s : Scaling M c ss out next (x ∷ xs)) (n : ℕ) → s.at ≤ n → scaled ss c n ≡ true → (n / c * c ≡ n) × (max x.0 next ≤ n / c)
no_less M c ss out xs next x s n h t =
    let parts = scaled_from ss c n t in
    let r = s.spans in
    let up = from_next M c ss out (x ∷ xs) next s n h parts.0 in
    let low = within_low x.0 M (x ∷ xs) (n / c) (omega arith, r.1, r.2, r.3) (sym (s.same (n / c) up) ∙ parts.1) in
    (parts.0, omega arith)

next_member : (M c : ℕ) (ss out xs : List Span) (next : ℕ) (x : Span) (s : Scaling M c ss out next (x ∷ xs)) → 2 ≤ c → max x.0 next * c ≤ M
    → IsNext M (scaled ss c) s.at (max x.0 next * c, max x.0 next * c)
next_member M c ss out xs next x s h g =
    let r = s.spans in
    let up : next * c ≤ max x.0 next * c = mul-le-mul_right c (omega arith) in
    let in_x : next ≤ x.1 = s.inside x xs refl in
    record {
      from = omega (arith, s.before);
      order = omega arith;
      high = g;
      before = λ n k l. false_from_ne_true (scaled ss c n) (λ t.
          (let q = no_less M c ss out xs next x s n k t in
          let m : max x.0 next * c ≤ n / c * c = mul-le-mul_right c q.1 in
          omega (arith, q.0)));
      inside = λ n k l. (let e : n ≡ max x.0 next * c = omega arith in
          ap (scaled ss c) e ∙ scaled_at ss c (max x.0 next) (omega arith) (s.same (max x.0 next) (omega arith) ∙ in_head x xs (max x.0 next) (omega arith) (omega (arith, r.1))));
      after = λ k. false_from_ne_true (scaled ss c (max x.0 next * c + 1)) (λ t.
          (let q = scaled_from ss c (max x.0 next * c + 1) t in
          elim (cases_lt (max x.0 next) ((max x.0 next * c + 1) / c)) [
            | inl l ↦ let m : suc (max x.0 next) * c ≤ (max x.0 next * c + 1) / c * c = mul-le-mul_right c l in let e = suc-mul (max x.0 next) c in omega (arith, q.0)
            | inr l ↦ let m : (max x.0 next * c + 1) / c * c ≤ max x.0 next * c = mul-le-mul_right c l in omega (arith, q.0)
          ]));
    }

-- one member more, in an interval with more of them, and in one without
more_done : (m c e : ℕ) → e < m + 1 → e * c < m * c + 2
more_done m c e h = let g : e * c ≤ m * c = mul-le-mul_right c (omega arith) in omega arith

more_before : (m c : ℕ) → 2 ≤ c → m * c + 2 ≤ (m + 1) * c
more_before m c h = omega arith

scaling_in : (M c : ℕ) (ss out xs : List Span) (next : ℕ) (x : Span) (s : Scaling M c ss out next (x ∷ xs)) → 2 ≤ c → max x.0 next * c ≤ M
    → (max x.0 next ≡ x.1 → ⊥) → Scaling M c ss (out ++ (max x.0 next * c, max x.0 next * c) ∷ []) (max x.0 next + 1) (x ∷ xs)
scaling_in M c ss out xs next x s h g ne =
    let in_x : next ≤ x.1 = s.inside x xs refl in
    let r = s.spans in
    let below : max x.0 next + 1 ≤ x.1 = grind (arith, ne, in_x, r.1) in
    record {
      at = max x.0 next * c + 2;
      made = made_push M (scaled ss c) out s.at (max x.0 next * c, max x.0 next * c) s.made (next_member M c ss out xs next x s h g);
      before = more_before (max x.0 next) c h;
      done = λ e k. more_done (max x.0 next) c e k;
      low = s.low;
      spans = s.spans;
      same = λ e k. s.same e (omega arith);
      inside = λ y ys e. (let heads : x ≡ y = cc in subst (λ (z : Span). max x.0 next + 1 ≤ z.1) heads below);
    }

scaling_out : (M c : ℕ) (ss out xs : List Span) (next : ℕ) (x : Span) (s : Scaling M c ss out next (x ∷ xs)) → 2 ≤ c → max x.0 next * c ≤ M → max x.0 next ≡ x.1
    → Scaling M c ss (out ++ (max x.0 next * c, max x.0 next * c) ∷ []) (max x.0 next + 1) xs
scaling_out M c ss out xs next x s h g e =
    let r = s.spans in
    record {
      at = max x.0 next * c + 2;
      made = made_push M (scaled ss c) out s.at (max x.0 next * c, max x.0 next * c) s.made (next_member M c ss out xs next x s h g);
      before = more_before (max x.0 next) c h;
      done = λ e k. more_done (max x.0 next) c e k;
      low = x.1 + 2;
      spans = r.3;
      same = λ k l. s.same k (omega arith) ∙ past_first x xs k (omega arith);
      inside = λ y ys f. (let q : IsSpans (x.1 + 2) M (y ∷ ys) = subst (IsSpans (x.1 + 2) M) f r.3 in omega (arith, q.0, q.1));
    }

-- at places
at_place : (M c : ℕ) (ss out : List Span) (next i : ℕ) → Scaling M c ss out next (drop i ss) → i < length ss → Scaling M c ss out next (get_or ss i (0, 0) ∷ drop (i + 1) ss)
at_place M c ss out next i s h = subst (Scaling M c ss out next) (drop_more ss i (0, 0) h) s

pub scale_in : (M c : ℕ) (ss out : List Span) (next i : ℕ) → Scaling M c ss out next (drop i ss) → i < length ss → 2 ≤ c
    → max (get_or ss i (0, 0)).0 next * c ≤ M → (max (get_or ss i (0, 0)).0 next ≡ (get_or ss i (0, 0)).1 → ⊥)
    → Scaling M c ss (out ++ (max (get_or ss i (0, 0)).0 next * c, max (get_or ss i (0, 0)).0 next * c) ∷ []) (max (get_or ss i (0, 0)).0 next + 1) (drop i ss)
scale_in M c ss out next i s l h g e = subst (Scaling M c ss (out ++ (max (get_or ss i (0, 0)).0 next * c, max (get_or ss i (0, 0)).0 next * c) ∷ [])
    (max (get_or ss i (0, 0)).0 next + 1)) (sym (drop_more ss i (0, 0) l))
    (scaling_in M c ss out (drop (i + 1) ss) next (get_or ss i (0, 0)) (at_place M c ss out next i s l) h g e)

pub scale_out : (M c : ℕ) (ss out : List Span) (next i : ℕ) → Scaling M c ss out next (drop i ss) → i < length ss → 2 ≤ c
    → max (get_or ss i (0, 0)).0 next * c ≤ M → max (get_or ss i (0, 0)).0 next ≡ (get_or ss i (0, 0)).1
    → Scaling M c ss (out ++ (max (get_or ss i (0, 0)).0 next * c, max (get_or ss i (0, 0)).0 next * c) ∷ []) (max (get_or ss i (0, 0)).0 next + 1)
    (drop (i + 1) ss)
scale_out M c ss out next i s l h g e = scaling_out M c ss out (drop (i + 1) ss) next (get_or ss i (0, 0)) (at_place M c ss out next i s l) h g e

pub scale_many : (M c : ℕ) (ss out : List Span) (next i : ℕ) → Scaling M c ss out next (drop i ss) → i < length ss → 2 ≤ c
    → max (get_or ss i (0, 0)).0 next * c ≤ M → 2 ≤ length out → 2 < interval_count (filter (scaled ss c) (universe M))
scale_many M c ss out next i s l h g k =
    let t = at_place M c ss out next i s l in
    let n = next_member M c ss out (drop (i + 1) ss) next (get_or ss i (0, 0)) t h g in
    made_many M (scaled ss c) out t.at (max (get_or ss i (0, 0)).0 next * c) t.made k n.from g (n.inside (max (get_or ss i (0, 0)).0 next * c) (omega arith) (omega arith))

-- nothing is left, or only what is past the end of U
pub scale_end : (M c : ℕ) (ss out : List Span) (next i : ℕ) → Scaling M c ss out next (drop i ss) → length ss ≤ i → members out ≡ filter (scaled ss c) (universe M)
scale_end M c ss out next i s h = made_all M (scaled ss c) out s.at s.made (λ n l k. false_from_ne_true (scaled ss c n) (λ t.
    (let parts = scaled_from ss c n t in
    let up = from_next M c ss out (drop i ss) next s n k parts.0 in
    true≢false (sym parts.1 ∙ s.same (n / c) up ∙ ap (λ ts. within ts (n / c)) (drop_of_length-le ss h)))))

pub scale_past : (M c : ℕ) (ss out : List Span) (next i : ℕ) → Scaling M c ss out next (drop i ss) → i < length ss → 0 < c
    → M / c < max (get_or ss i (0, 0)).0 next → members out ≡ filter (scaled ss c) (universe M)
scale_past M c ss out next i s l h g =
    let t = at_place M c ss out next i s l in
    made_all M (scaled ss c) out t.at t.made (λ n k j. false_from_ne_true (scaled ss c n) (λ e.
    (let q = no_less M c ss out (drop (i + 1) ss) next (get_or ss i (0, 0)) t n j e in
    let m : suc (M / c) * c ≤ n / c * c = mul-le-mul_right c (omega (arith, q.1)) in
    let u : M < M / c * c + c = lt-div-mul-add h in
    let v = suc-mul (M / c) c in
    omega (arith, q.0))))

-- where the code has the next member
pub member_in : (M c : ℕ) (ss out : List Span) (next i m : ℕ) → Scaling M c ss out next (drop i ss) → i < length ss → 2 ≤ c
    → m ≡ max (get_or ss i (0, 0)).0 next → m ≤ M / c → (m ≡ (get_or ss i (0, 0)).1 → ⊥) → Scaling M c ss (out ++ (m * c, m * c) ∷ []) (m + 1) (drop i ss)
member_in M c ss out next i m s l h e g ne = subst (λ k. Scaling M c ss (out ++ (k * c, k * c) ∷ []) (k + 1) (drop i ss)) (sym e)
    (scale_in M c ss out next i s l h (down_fwd M c (max (get_or ss i (0, 0)).0 next) (subst (λ k. k ≤ M / c) e g)) (λ f. ne (e ∙ f)))

pub member_out : (M c : ℕ) (ss out : List Span) (next i m : ℕ) → Scaling M c ss out next (drop i ss) → i < length ss → 2 ≤ c
    → m ≡ max (get_or ss i (0, 0)).0 next → m ≤ M / c → m ≡ (get_or ss i (0, 0)).1 → Scaling M c ss (out ++ (m * c, m * c) ∷ []) (m + 1) (drop (i + 1) ss)
member_out M c ss out next i m s l h e g f = subst (λ k. Scaling M c ss (out ++ (k * c, k * c) ∷ []) (k + 1) (drop (i + 1) ss)) (sym e)
    (scale_out M c ss out next i s l h (down_fwd M c (max (get_or ss i (0, 0)).0 next) (subst (λ k. k ≤ M / c) e g)) (sym e ∙ f))

pub member_many : (M c : ℕ) (ss out : List Span) (next i m : ℕ) → Scaling M c ss out next (drop i ss) → i < length ss → 2 ≤ c
    → m ≡ max (get_or ss i (0, 0)).0 next → m ≤ M / c → 2 ≤ length out → 2 < interval_count (filter (scaled ss c) (universe M))
member_many M c ss out next i m s l h e g k = scale_many M c ss out next i s l h (down_fwd M c (max (get_or ss i (0, 0)).0 next) (subst (λ j. j ≤ M / c) e g)) k

pub member_past : (M c : ℕ) (ss out : List Span) (next i m : ℕ) → Scaling M c ss out next (drop i ss) → i < length ss → 0 < c
    → m ≡ max (get_or ss i (0, 0)).0 next → M / c < m → members out ≡ filter (scaled ss c) (universe M)
member_past M c ss out next i m s l h e g = scale_past M c ss out next i s l h (subst (λ j. M / c < j) e g)
