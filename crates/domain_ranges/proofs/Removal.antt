-- The loop that takes a number out of a list of intervals.
use Rattle.std.proofs.Common.{◌≡◌, ℕ, suc, ◌+◌, ◌-◌, ◌<◌, ◌≤◌, ◌⊎◌, inl, inr, Bool, true, false, ◌&&◌, ◌==◌, not, ltb, List, [], ◌∷◌, ◌++◌, filter, ap, ◌∙◌}
use Rattle.std.proofs.Common.{subst, arith, length, get_or, drop, append-nil, drop_of_length-le}
use Rattle.std.proofs.lemmas.Bool.{cases_Bool, and_left, ltb-true, ltb-false}
use Rattle.std.proofs.lemmas.Bool.Decides.{nat_tests}
use Rattle.std.proofs.lemmas.List.{drop_more}
use Rattle.fd_language.specs.Family.{universe}
use Rattle.domain_ranges.specs.Spans.{Span, within, IsSpans, members, interval_count, gap}
use Rattle.domain_ranges.proofs.Spans.{in_head, past_first, behind_first}
use Rattle.domain_ranges.proofs.PartialSets.{Made, made_skip, made_push, made_all, made_many}
use Rattle.domain_ranges.proofs.Intersection.{below_first}

abbrev pub but : List Span → ℕ → ℕ → Bool
but ss z n = within ss n && not (n == z)

-- out is made, and from there on the intervals to come tell
pub record Cutting (M : ℕ) (ss : List Span) (z : ℕ) (out rest : List Span) : Type 0 where
  pub at : ℕ
  pub made : Made M (but ss z) out at
  pub low : ℕ
  pub spans : IsSpans low M rest
  pub start : at ≤ low
  pub same : (n : ℕ) → n ≤ M → at ≤ n → within ss n ≡ within rest n

not_it : (a : Bool) (n z : ℕ) → n ≡ z → (a && not (n == z)) ≡ false
not_it a n z h = grind (arith, nat_tests)

still_in : (a : Bool) (n z : ℕ) → a ≡ true → (n < z) ⊎ (z < n) → (a && not (n == z)) ≡ true
still_in a n z h (inl g) = grind (arith, nat_tests)
still_in a n z h (inr g) = grind (arith, nat_tests)

module _ (M : ℕ) (ss : List Span) (z : ℕ) (out : List Span) (x : Span) (xs : List Span) (c : Cutting M ss z out (x ∷ xs)) where
  before : (n : ℕ) → n ≤ M → c.at ≤ n → n < x.0 → but ss z n ≡ false
  before n h g l = and_left (within ss n) (not (n == z)) (c.same n h g ∙ below_first M c.low n x xs c.spans l)

  in_x : (n : ℕ) → x.0 ≤ n → n ≤ x.1 → within ss n ≡ true
  in_x n h g = let r = c.spans in c.same n (omega (arith, r.2)) (omega (arith, c.start, r.0)) ∙ in_head x xs n h g

  behind : x.1 + 1 ≤ M → but ss z (x.1 + 1) ≡ false
  behind h = let r = c.spans in and_left (within ss (x.1 + 1)) (not (x.1 + 1 == z)) (c.same (x.1 + 1) h (omega (arith, c.start, r.0, r.1))
      ∙ (let e : x.1 + 1 ≡ suc x.1 = omega arith in ap (within (x ∷ xs)) e ∙ behind_first c.low M x xs r))

  later : (list : List Span) → Made M (but ss z) list (x.1 + 2) → Cutting M ss z list xs
  later list m = let r = c.spans in record {
    at = x.1 + 2;
    made = m;
    low = x.1 + 2;
    spans = r.3;
    start = omega arith;
    same = λ n h k. c.same n h (omega (arith, c.start, r.0, r.1)) ∙ past_first x xs n (omega arith);
  }

  -- the number is elsewhere
  pub kept_whole : (z < x.0) ⊎ (x.1 < z) → Cutting M ss z (out ++ x ∷ []) xs
  kept_whole h = let r = c.spans in later (out ++ x ∷ []) (made_push M (but ss z) out c.at x c.made (record {
    from = omega (arith, c.start, r.0);
    order = r.1;
    high = r.2;
    before = λ n k l. before n (omega (arith, r.1, r.2)) k l;
    inside = λ n k l. still_in (within ss n) n z (in_x n k l) (beside n k l h);
    after = behind;
  })) where
    beside : (n : ℕ) → x.0 ≤ n → n ≤ x.1 → (z < x.0) ⊎ (x.1 < z) → (n < z) ⊎ (z < n)
    beside n k l (inl e) = inr (omega arith)
    beside n k l (inr e) = inl (omega arith)

  -- it is in the interval: what stands before it
  first_part : x.0 ≤ z → z ≤ x.1 → Made M (but ss z) (out ++ gap x.0 z) (z + 1)
  first_part h g = let r = c.spans in elim (cases_Bool (ltb x.0 z)) [
    | inl t ↦
        let l : x.0 < z = ltb-true x.0 z t in
        let e : z - 1 + 2 ≡ z + 1 = omega arith in
        let f : z - 1 + 1 ≡ z = omega arith in
        rw t (subst (Made M (but ss z) (out ++ (x.0, z - 1) ∷ [])) e (made_push M (but ss z) out c.at (x.0, z - 1) c.made (record {
          from = omega (arith, c.start, r.0);
          order = omega arith;
          high = omega (arith, r.2);
          before = λ n k j. before n (omega (arith, r.1, r.2)) k j;
          inside = λ n k j. still_in (within ss n) n z (in_x n k (omega arith)) (inl (omega arith));
          after = λ k. not_it (within ss (z - 1 + 1)) (z - 1 + 1) z f;
        })))
    | inr t ↦
        let l : z ≤ x.0 = ltb-false x.0 z t in
        rw t (rw append-nil (made_skip M (but ss z) out c.at (z + 1) c.made (omega (arith, c.start, r.0))
        (λ n k j i. elim (cases_Bool (ltb n x.0)) [
          | inl b ↦ before n k j (ltb-true n x.0 b)
          | inr b ↦ not_it (within ss n) n z (let q : x.0 ≤ n = ltb-false n x.0 b in omega arith)
        ])))
  ]

  -- what stands behind it
  pub parted : x.0 ≤ z → z ≤ x.1 → Cutting M ss z ((out ++ gap x.0 z) ++ gap (z + 1) (x.1 + 1)) xs
  parted h g = let r = c.spans in let front = first_part h g in later ((out ++ gap x.0 z) ++ gap (z + 1) (x.1 + 1)) (elim (cases_Bool (ltb (z + 1) (x.1 + 1))) [
    | inl t ↦
        let l : z + 1 < x.1 + 1 = ltb-true (z + 1) (x.1 + 1) t in
        let e : x.1 + 1 - 1 ≡ x.1 = omega arith in
        rw (t, e) (made_push M (but ss z) (out ++ gap x.0 z) (z + 1) (z + 1, x.1) front (record {
          from = omega arith;
          order = omega arith;
          high = r.2;
          before = λ n k j. absurd (omega arith);
          inside = λ n k j. still_in (within ss n) n z (in_x n (omega arith) j) (inr (omega arith));
          after = behind;
        }))
    | inr t ↦
        let l : x.1 + 1 ≤ z + 1 = ltb-false (z + 1) (x.1 + 1) t in
        rw t (rw append-nil (made_skip M (but ss z) (out ++ gap x.0 z) (z + 1) (x.1 + 2) front (omega arith)
        (λ n k j i. (let e : n ≡ x.1 + 1 = omega arith in ap (but ss z) e ∙ behind (omega arith)))))
  ])

  -- want of memory
  pub whole_many : (z < x.0) ⊎ (x.1 < z) → 2 ≤ length out → 2 < interval_count (filter (but ss z) (universe M))
  whole_many h l = let r = c.spans in made_many M (but ss z) out c.at x.0 c.made l (omega (arith, c.start, r.0)) (omega (arith, r.1, r.2))
      (still_in (within ss x.0) x.0 z (in_x x.0 (omega arith) r.1) (elim h [ inl e ↦ inr e | inr e ↦ inl (omega (arith, r.1)) ]))

  pub first_many : x.0 < z → z ≤ x.1 → 2 ≤ length out → 2 < interval_count (filter (but ss z) (universe M))
  first_many h g l = let r = c.spans in made_many M (but ss z) out c.at x.0 c.made l (omega (arith, c.start, r.0)) (omega (arith, r.1, r.2))
      (still_in (within ss x.0) x.0 z (in_x x.0 (omega arith) r.1) (inl h))

  pub last_many : x.0 ≤ z → z + 1 < x.1 + 1 → 2 ≤ length (out ++ gap x.0 z) → 2 < interval_count (filter (but ss z) (universe M))
  last_many h g l = let r = c.spans in made_many M (but ss z) (out ++ gap x.0 z) (z + 1) (z + 1) (first_part h (omega arith)) l (omega arith)
      (omega (arith, r.2)) (still_in (within ss (z + 1)) (z + 1) z (in_x (z + 1) (omega arith) (omega arith)) (inr (omega arith)))

-- at places
pub cutting_next : (M : ℕ) (ss : List Span) (z : ℕ) (out : List Span) (i : ℕ) → Cutting M ss z out (drop i ss) → i < length ss → Cutting M ss z out (get_or ss i (0, 0) ∷ drop (i + 1) ss)
cutting_next M ss z out i c h = subst (Cutting M ss z out) (drop_more ss i (0, 0) h) c

pub cutting_set : (M : ℕ) (ss : List Span) (z : ℕ) (out : List Span) (i : ℕ) → Cutting M ss z out (drop i ss) → length ss ≤ i → members out ≡ filter (but ss z) (universe M)
cutting_set M ss z out i c h = made_all M (but ss z) out c.at c.made (λ n l k. and_left (within ss n) (not (n == z)) (c.same n l k ∙ ap (λ r. within r n) (drop_of_length-le ss h)))
