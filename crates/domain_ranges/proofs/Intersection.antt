-- The loop of the intersection of two lists of intervals.
use Rattle.std.proofs.Common.{◌≡◌, ℕ, suc, ◌+◌, ◌<◌, ◌≤◌, Bool, true, false, ◌&&◌, leb, List, [], ◌∷◌, ◌++◌, filter, refl, ap, sym, ◌∙◌, subst, inl, inr, ◌⊎◌}
use Rattle.std.proofs.Common.{arith, leb-true, length, get_or, drop, max, min, append-nil, drop_of_length-le}
use Rattle.std.proofs.lemmas.Bool.{cases_Bool}
use Rattle.std.proofs.lemmas.Bool.Decides.{nat_tests}
use Rattle.std.proofs.Math.Bool.{and_comm}
use Rattle.std.proofs.lemmas.List.{drop_more}
use Rattle.fd_language.specs.Family.{universe}
use Rattle.domain_ranges.specs.Spans.{Span, within, IsSpans, members, interval_count, meet}
use Rattle.domain_ranges.proofs.Spans.{not_within, in_head, past_first, behind_first}
use Rattle.domain_ranges.proofs.PartialSets.{Made, IsNext, made_none, made_skip, made_push, made_all, made_many}

-- out is made, and from its end on the numbers to come are in both of what is left
pub record Meeting (M : ℕ) (p : ℕ → Bool) (out ra rb : List Span) : Type 0 where
  pub at : ℕ
  pub made : Made M p out at
  pub left : (low : ℕ) × IsSpans low M ra
  pub right : (low : ℕ) × IsSpans low M rb
  pub start : (at ≤ left.0) ⊎ (at ≤ right.0)
  pub same : (n : ℕ) → n ≤ M → at ≤ n → p n ≡ (within ra n && within rb n)

pub meeting_start : (M : ℕ) (a b : List Span) → IsSpans 0 M a → IsSpans 0 M b → Meeting M (λ n. within a n && within b n) [] a b
meeting_start M a b r q = record { at = 0; made = made_none M (λ n. within a n && within b n); left = (0, r); right = (0, q); start = inl (omega arith); same = λ n g h. refl }

flip_start : (a b c : ℕ) → (a ≤ b) ⊎ (a ≤ c) → (a ≤ c) ⊎ (a ≤ b)
flip_start a b c (inl h) = inr h
flip_start a b c (inr h) = inl h

flip_over : (M : ℕ) (p : ℕ → Bool) (out ra rb : List Span) → Meeting M p out ra rb → Meeting M p out rb ra
flip_over M p out ra rb s = record {
  at = s.at;
  made = s.made;
  left = s.right;
  right = s.left;
  start = flip_start s.at s.left.0 s.right.0 s.start;
  same = λ n g h. s.same n g h ∙ and_comm (within ra n) (within rb n);
}

both_false : (a b c : Bool) → c ≡ (a && b) → (a ≡ false) ⊎ (b ≡ false) → c ≡ false
both_false a b c e h = grind (arith, h)

both_true : (a b c : Bool) → c ≡ (a && b) → a ≡ true → b ≡ true → c ≡ true
both_true a b c e h g = grind arith

-- below_first the start of a list
pub below_first : (M low n : ℕ) (x : Span) (xs : List Span) → IsSpans low M (x ∷ xs) → n < x.0 → within (x ∷ xs) n ≡ false
below_first M low n x xs r h = not_within x.0 M n (x ∷ xs) (within (x ∷ xs) n) (omega arith, r.1, r.2, r.3) h refl

le_max : (n a b : ℕ) → n < max a b → (n < a) ⊎ (n < b)
le_max n a b h = grind arith

-- the interval in both is the next one
next_meet : (M : ℕ) (p : ℕ → Bool) (out ra rb : List Span) (x y : Span) (s : Meeting M p out (x ∷ ra) (y ∷ rb)) → x.1 ≤ y.1 → max x.0 y.0 ≤ min x.1 y.1 → IsNext M p s.at (max x.0 y.0, min x.1 y.1)
next_meet M p out ra rb x y s h g =
    let r = s.left.1 in let q = s.right.1 in
    let from : s.at ≤ max x.0 y.0 = elim s.start [ inl e ↦ omega (arith, e, r.0) | inr e ↦ omega (arith, e, q.0) ] in
    record {
      from = from;
      order = g;
      high = omega (arith, r.2);
      before = λ n k l. both_false (within (x ∷ ra) n) (within (y ∷ rb) n) (p n) (s.same n (omega (arith, r.2)) k)
          (elim (le_max n x.0 y.0 l) [ inl e ↦ inl (below_first M s.left.0 n x ra r e) | inr e ↦ inr (below_first M s.right.0 n y rb q e) ]);
      inside = λ n k l. both_true (within (x ∷ ra) n) (within (y ∷ rb) n) (p n) (s.same n (omega (arith, r.2)) (omega arith))
          (in_head x ra n (omega arith) (omega arith)) (in_head y rb n (omega arith) (omega arith));
      after = λ k. let place : min x.1 y.1 + 1 ≡ suc x.1 = omega arith in
          ap p place ∙ both_false (within (x ∷ ra) (suc x.1)) (within (y ∷ rb) (suc x.1)) (p (suc x.1)) (s.same (suc x.1) (omega arith) (omega arith)) (inl (behind_first s.left.0 M x ra r));
    }

-- where there is none, nothing is to come up to the end of the first
none_meet : (M : ℕ) (p : ℕ → Bool) (out ra rb : List Span) (x y : Span) (s : Meeting M p out (x ∷ ra) (y ∷ rb)) → x.1 ≤ y.1 → min x.1 y.1 < max x.0 y.0
    → (n : ℕ) → n ≤ M → s.at ≤ n → n < x.1 + 2 → p n ≡ false
none_meet M p out ra rb x y s h g n l k j =
    let r = s.left.1 in let q = s.right.1 in
    let apart : x.1 < y.0 = omega (arith, r.1) in
    let where_n : (n ≡ suc x.1) ⊎ (n < y.0) = grind arith in
    both_false (within (x ∷ ra) n) (within (y ∷ rb) n) (p n) (s.same n l k)
    (elim where_n [
      | inl e ↦ inl (ap (within (x ∷ ra)) e ∙ behind_first s.left.0 M x ra r)
      | inr e ↦ inr (below_first M s.right.0 n y rb q e)
    ])

-- the next start, once the first is done with
pass_start : (a low b c : ℕ) → (a ≤ low) ⊎ (a ≤ c) → low ≤ b → (max a b ≤ b) ⊎ (max a b ≤ c)
pass_start a low b c h g = grind (arith, h)

pub pass_left : (M : ℕ) (p : ℕ → Bool) (out ra rb : List Span) (x y : Span) → Meeting M p out (x ∷ ra) (y ∷ rb) → x.1 ≤ y.1 → Meeting M p (out ++ meet x y) ra (y ∷ rb)
pass_left M p out ra rb x y s h =
    let r = s.left.1 in let q = s.right.1 in
    record {
      at = max s.at (x.1 + 2);
      made = (elim (cases_Bool (leb (max x.0 y.0) (min x.1 y.1))) [
        | inl t ↦
            let g : max x.0 y.0 ≤ min x.1 y.1 = leb-true (max x.0 y.0) (min x.1 y.1) t in
            let next = next_meet M p out ra rb x y s h g in
            let from : s.at ≤ max x.0 y.0 = next.from in
            let end : min x.1 y.1 + 2 ≡ max s.at (x.1 + 2) = omega arith in
            rw t (subst (Made M p (out ++ (max x.0 y.0, min x.1 y.1) ∷ [])) end (made_push M p out s.at (max x.0 y.0, min x.1 y.1) s.made next))
        | inr t ↦
            let g : min x.1 y.1 < max x.0 y.0 = grind (arith, nat_tests) in
            rw t (rw append-nil (made_skip M p out s.at (max s.at (x.1 + 2)) s.made (omega arith)
            (λ n l k j. none_meet M p out ra rb x y s h g n l k (omega arith))))
      ]);
      left = (x.1 + 2, r.3);
      right = s.right;
      start = pass_start s.at s.left.0 (x.1 + 2) s.right.0 s.start (omega (arith, r.0, r.1));
      same = λ n l k. s.same n l (omega arith) ∙ ap (λ t. t && within (y ∷ rb) n) (past_first x ra n (omega arith));
    }

meet_flip : (x y : Span) → meet x y ≡ meet y x
meet_flip x y =
    let e : max x.0 y.0 ≡ max y.0 x.0 = omega arith in
    let f : min x.1 y.1 ≡ min y.1 x.1 = omega arith in
    rw (e, f) refl

pub pass_right : (M : ℕ) (p : ℕ → Bool) (out ra rb : List Span) (x y : Span) → Meeting M p out (x ∷ ra) (y ∷ rb) → y.1 ≤ x.1 → Meeting M p (out ++ meet x y) (x ∷ ra) rb
pass_right M p out ra rb x y s h =
    subst (λ l. Meeting M p (out ++ l) (x ∷ ra) rb) (meet_flip y x)
    (flip_over M p (out ++ meet y x) rb (x ∷ ra) (pass_left M p out rb ra y x (flip_over M p out (x ∷ ra) (y ∷ rb) s) h))

-- want of memory
some_more : (M : ℕ) (p : ℕ → Bool) (out ra rb : List Span) (x y : Span) → Meeting M p out (x ∷ ra) (y ∷ rb) → x.1 ≤ y.1 → 2 ≤ length out
    → max x.0 y.0 ≤ min x.1 y.1 → 2 < interval_count (filter p (universe M))
some_more M p out ra rb x y s h g l =
    let next = next_meet M p out ra rb x y s h l in
    made_many M p out s.at (max x.0 y.0) s.made g next.from (omega (arith, next.high, next.order)) (next.inside (max x.0 y.0) (omega arith) l)

le_or : (a b : ℕ) → (a ≤ b) ⊎ (b ≤ a)
le_or a b = grind arith

pub meeting_more : (M : ℕ) (p : ℕ → Bool) (out ra rb : List Span) (x y : Span) → Meeting M p out (x ∷ ra) (y ∷ rb) → 2 ≤ length out → max x.0 y.0 ≤ min x.1 y.1
    → 2 < interval_count (filter p (universe M))
meeting_more M p out ra rb x y s g l = elim (le_or x.1 y.1) [
  | inl h ↦ some_more M p out ra rb x y s h g l
  | inr h ↦ some_more M p out rb ra y x (flip_over M p out (x ∷ ra) (y ∷ rb) s) h g (omega arith)
]

-- where one of the lists is done
pub meeting_done : (M : ℕ) (p : ℕ → Bool) (out ra rb : List Span) → Meeting M p out ra rb → (ra ≡ []) ⊎ (rb ≡ []) → members out ≡ filter p (universe M)
meeting_done M p out ra rb s h = made_all M p out s.at s.made
    (λ n l k. both_false (within ra n) (within rb n) (p n) (s.same n l k) (elim h [ inl e ↦ inl (ap (λ l. within l n) e) | inr e ↦ inr (ap (λ l. within l n) e) ]))

at_places : (M : ℕ) (p : ℕ → Bool) (a b out : List Span) (i j : ℕ) → Meeting M p out (drop i a) (drop j b) → i < length a → j < length b
    → Meeting M p out (get_or a i (0, 0) ∷ drop (i + 1) a) (get_or b j (0, 0) ∷ drop (j + 1) b)
at_places M p a b out i j s h g =
    subst (λ t. Meeting M p out t (get_or b j (0, 0) ∷ drop (j + 1) b)) (drop_more a i (0, 0) h) (subst (λ t. Meeting M p out (drop i a) t) (drop_more b j (0, 0) g) s)

pub left_at : (M : ℕ) (p : ℕ → Bool) (a b out : List Span) (i j : ℕ) → Meeting M p out (drop i a) (drop j b) → i < length a → j < length b
    → (get_or a i (0, 0)).1 < (get_or b j (0, 0)).1 → Meeting M p (out ++ meet (get_or a i (0, 0)) (get_or b j (0, 0))) (drop (i + 1) a) (drop j b)
left_at M p a b out i j s h g l =
    subst (λ t. Meeting M p (out ++ meet (get_or a i (0, 0)) (get_or b j (0, 0))) (drop (i + 1) a) t) (sym (drop_more b j (0, 0) g))
    (pass_left M p out (drop (i + 1) a) (drop (j + 1) b) (get_or a i (0, 0)) (get_or b j (0, 0)) (at_places M p a b out i j s h g) (omega arith))

pub right_at : (M : ℕ) (p : ℕ → Bool) (a b out : List Span) (i j : ℕ) → Meeting M p out (drop i a) (drop j b) → i < length a → j < length b
    → (get_or b j (0, 0)).1 ≤ (get_or a i (0, 0)).1 → Meeting M p (out ++ meet (get_or a i (0, 0)) (get_or b j (0, 0))) (drop i a) (drop (j + 1) b)
right_at M p a b out i j s h g l =
    subst (λ t. Meeting M p (out ++ meet (get_or a i (0, 0)) (get_or b j (0, 0))) t (drop (j + 1) b)) (sym (drop_more a i (0, 0) h))
    (pass_right M p out (drop (i + 1) a) (drop (j + 1) b) (get_or a i (0, 0)) (get_or b j (0, 0)) (at_places M p a b out i j s h g) l)

pub more_at : (M : ℕ) (p : ℕ → Bool) (a b out : List Span) (i j : ℕ) → Meeting M p out (drop i a) (drop j b) → i < length a → j < length b → 2 ≤ length out
    → max (get_or a i (0, 0)).0 (get_or b j (0, 0)).0 ≤ min (get_or a i (0, 0)).1 (get_or b j (0, 0)).1 → 2 < interval_count (filter p (universe M))
more_at M p a b out i j s h g k l = meeting_more M p out (drop (i + 1) a) (drop (j + 1) b) (get_or a i (0, 0)) (get_or b j (0, 0)) (at_places M p a b out i j s h g) k l

pub done_at : (M : ℕ) (p : ℕ → Bool) (a b out : List Span) (i j : ℕ) → Meeting M p out (drop i a) (drop j b) → (length a ≤ i) ⊎ (length b ≤ j) → members out ≡ filter p (universe M)
done_at M p a b out i j s h = meeting_done M p out (drop i a) (drop j b) s (elim h [ inl l ↦ inl (drop_of_length-le a l) | inr l ↦ inr (drop_of_length-le b l) ])

-- the meeting of two single intervals
lists_one : (a : List Span) → 1 ≡ length a → a ≡ get_or a 0 (0, 0) ∷ []
lists_one [] h = absurd (omega arith)
lists_one (x ∷ []) h = refl
lists_one (x ∷ y ∷ xs) h = absurd (omega arith)

module _ (M : ℕ) (a : List Span) (y : Span) (r : IsSpans 0 M a) (q : IsSpans 0 M (y ∷ [])) (h : 1 ≡ length a) where
  abbrev both : ℕ → Bool
  both n = within a n && within (y ∷ []) n

  met : (ra : List Span) × (rb : List Span) × Meeting M both (meet (get_or a 0 (0, 0)) y) ra rb × ((ra ≡ []) ⊎ (rb ≡ []))
  met =
      let start : Meeting M both [] (get_or a 0 (0, 0) ∷ []) (y ∷ []) = subst (λ l. Meeting M both [] l (y ∷ [])) (lists_one a h) (meeting_start M a (y ∷ []) r q) in
      elim (le_or (get_or a 0 (0, 0)).1 y.1) [
        | inl e ↦ ([], y ∷ [], pass_left M both [] [] [] (get_or a 0 (0, 0)) y start e, inl refl)
        | inr e ↦ (get_or a 0 (0, 0) ∷ [], [], pass_right M both [] [] [] (get_or a 0 (0, 0)) y start e, inr refl)
      ]

  pub one_set : (out : List Span) → out ≡ meet (get_or a 0 (0, 0)) y → members out ≡ filter both (universe M)
  one_set out e = ap members e ∙ meeting_done M both (meet (get_or a 0 (0, 0)) y) met.0 met.1 met.2 met.3
