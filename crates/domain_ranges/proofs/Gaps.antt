-- The loop of the complement of a list of intervals.
use Rattle.std.proofs.Common.{◌≡◌, ℕ, ◌+◌, ◌-◌, ◌<◌, ◌≤◌, false, not, ltb, List, [], ◌∷◌, ◌++◌, filter, ap, ◌∙◌, subst, inl, inr, arith, length, get_or, drop}
use Rattle.std.proofs.Common.{append-nil, drop_of_length-le}
use Rattle.std.proofs.lemmas.Bool.{cases_Bool, ltb-true, ltb-false}
use Rattle.std.proofs.lemmas.List.{drop_more}
use Rattle.fd_language.specs.Family.{universe}
use Rattle.domain_ranges.specs.Spans.{Span, within, IsSpans, members, interval_count, gap}
use Rattle.domain_ranges.proofs.Spans.{in_head, past_first}
use Rattle.domain_ranges.proofs.PartialSets.{Made, IsNext, made_skip, made_push, made_all, made_many}
use Rattle.domain_ranges.proofs.Intersection.{below_first}

-- out is made below next, and from there on the intervals to come tell
pub record Gapped (M : ℕ) (ss out : List Span) (next : ℕ) (rest : List Span) : Type 0 where
  pub made : Made M (λ n. not (within ss n)) out next
  pub low : ℕ
  pub spans : IsSpans low M rest
  pub start : next ≤ low
  pub same : (n : ℕ) → n ≤ M → next ≤ n → within ss n ≡ within rest n

next_gap : (M : ℕ) (ss out : List Span) (next : ℕ) (x : Span) (xs : List Span) → Gapped M ss out next (x ∷ xs) → next < x.0 → IsNext M (λ n. not (within ss n)) next (next, x.0 - 1)
next_gap M ss out next x xs g h =
    let r = g.spans in
    record {
      from = omega arith;
      order = omega arith;
      high = omega (arith, r.1, r.2);
      before = λ n k l. absurd (omega arith);
      inside = λ n k l. ap not (g.same n (omega (arith, r.1, r.2)) k ∙ below_first M g.low n x xs r (omega arith));
      after = λ k. (let place : x.0 - 1 + 1 ≡ x.0 = omega arith in
          ap (λ n. not (within ss n)) place ∙ ap not (g.same x.0 (omega (arith, r.1, r.2)) (omega arith) ∙ in_head x xs x.0 (omega arith) r.1));
    }

in_first : (M : ℕ) (ss out : List Span) (next : ℕ) (x : Span) (xs : List Span) → Gapped M ss out next (x ∷ xs) → (n : ℕ) → n ≤ M → next ≤ n → x.0 ≤ n → n ≤ x.1 → not (within ss n) ≡ false
in_first M ss out next x xs g n h k a b = ap not (g.same n h k ∙ in_head x xs n a b)

made_gap : (M : ℕ) (ss out : List Span) (next : ℕ) (x : Span) (xs : List Span) → Gapped M ss out next (x ∷ xs) → Made M (λ n. not (within ss n)) (out ++ gap next x.0) (x.1 + 1)
made_gap M ss out next x xs g =
    let r = g.spans in
    let start : next ≤ x.0 = omega (arith, g.start, r.0) in
    elim (cases_Bool (ltb next x.0)) [
      | inl t ↦
          let h : next < x.0 = ltb-true next x.0 t in
          let e : x.0 - 1 + 2 ≡ x.0 + 1 = omega arith in
          rw t (made_skip M (λ n. not (within ss n)) (out ++ (next, x.0 - 1) ∷ []) (x.0 + 1) (x.1 + 1)
          (subst (Made M (λ n. not (within ss n)) (out ++ (next, x.0 - 1) ∷ [])) e
          (made_push M (λ n. not (within ss n)) out next (next, x.0 - 1) g.made (next_gap M ss out next x xs g h))) (omega (arith, r.1))
          (λ n l k j. in_first M ss out next x xs g n l (omega arith) (omega arith) (omega arith)))
      | inr t ↦
          let h : x.0 ≤ next = ltb-false next x.0 t in
          rw t (rw append-nil (made_skip M (λ n. not (within ss n)) out next (x.1 + 1) g.made (omega (arith, r.1)) (λ n l k j. in_first M ss out next x xs g n l k (omega arith) (omega arith))))
    ]

pub gapped_more : (M : ℕ) (ss out : List Span) (next : ℕ) (x : Span) (xs : List Span) → Gapped M ss out next (x ∷ xs) → Gapped M ss (out ++ gap next x.0) (x.1 + 1) xs
gapped_more M ss out next x xs g =
    let r = g.spans in
    record {
      made = made_gap M ss out next x xs g;
      low = x.1 + 2;
      spans = r.3;
      start = omega arith;
      same = λ n h k. g.same n h (omega (arith, g.start, r.0, r.1)) ∙ past_first x xs n (omega arith);
    }

pub gap_many : (M : ℕ) (ss out : List Span) (next : ℕ) (x : Span) (xs : List Span) → Gapped M ss out next (x ∷ xs) → next < x.0 → 2 ≤ length out
    → 2 < interval_count (filter (λ n. not (within ss n)) (universe M))
gap_many M ss out next x xs g h l =
    let n = next_gap M ss out next x xs g h in
    made_many M (λ n. not (within ss n)) out next next g.made l (omega arith) (omega (arith, n.order, n.high)) (n.inside next (omega arith) n.order)

-- the last gap, up to M
last_gap : (M : ℕ) (ss out : List Span) (next : ℕ) → Gapped M ss out next [] → next ≤ M → IsNext M (λ n. not (within ss n)) next (next, M)
last_gap M ss out next g h = record {
  from = omega arith;
  order = h;
  high = omega arith;
  before = λ n k l. absurd (omega arith);
  inside = λ n k l. ap not (g.same n l k);
  after = λ k. absurd (omega arith);
}

pub gapped_done : (M : ℕ) (ss out : List Span) (next : ℕ) → Gapped M ss out next [] → (end : ℕ) × (M < end) × Made M (λ n. not (within ss n)) (out ++ gap next (M + 1)) end
gapped_done M ss out next g = elim (cases_Bool (ltb next (M + 1))) [
  | inl t ↦
      let h : next < M + 1 = ltb-true next (M + 1) t in
      let e : M + 1 - 1 ≡ M = omega arith in
      rw (t, e) (M + 2, omega arith, made_push M (λ n. not (within ss n)) out next (next, M) g.made (last_gap M ss out next g (omega arith)))
  | inr t ↦
      let h : M + 1 ≤ next = ltb-false next (M + 1) t in
      rw t (rw append-nil (next, omega arith, g.made))
]

pub last_many : (M : ℕ) (ss out : List Span) (next : ℕ) → Gapped M ss out next [] → next < M + 1 → 2 ≤ length out → 2 < interval_count (filter (λ n. not (within ss n)) (universe M))
last_many M ss out next g h l = made_many M (λ n. not (within ss n)) out next next g.made l (omega arith) (omega arith) (ap not (g.same next (omega arith) (omega arith)))

pub gapped_set : (M : ℕ) (ss out : List Span) (next : ℕ) → Gapped M ss out next [] → members (out ++ gap next (M + 1)) ≡ filter (λ n. not (within ss n)) (universe M)
gapped_set M ss out next g = let done = gapped_done M ss out next g in made_all M (λ n. not (within ss n)) (out ++ gap next (M + 1)) done.0 done.2 (λ n h k. absurd (omega (arith, done.1)))

pub gapped_spans : (M : ℕ) (ss out : List Span) (next : ℕ) → Gapped M ss out next [] → IsSpans 0 M (out ++ gap next (M + 1))
gapped_spans M ss out next g = (gapped_done M ss out next g).2.spans

-- at places
pub gapped_next : (M : ℕ) (ss out : List Span) (next i : ℕ) → Gapped M ss out next (drop i ss) → i < length ss → Gapped M ss out next (get_or ss i (0, 0) ∷ drop (i + 1) ss)
gapped_next M ss out next i g h = subst (Gapped M ss out next) (drop_more ss i (0, 0) h) g

pub gapped_end : (M : ℕ) (ss out : List Span) (next i : ℕ) → Gapped M ss out next (drop i ss) → length ss ≤ i → Gapped M ss out next []
gapped_end M ss out next i g h = subst (Gapped M ss out next) (drop_of_length-le ss h) g
