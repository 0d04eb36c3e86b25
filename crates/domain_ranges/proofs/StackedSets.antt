-- Sets one behind another in one list of intervals.
use Rattle.std.proofs.Common.{◌≡◌, ℕ, zero, suc, ◌+◌, ◌-◌, ◌<◌, ◌≤◌, true, false, ◌||◌, ◌&&◌, ◌==◌, leb, List, [], ◌∷◌, ◌++◌, filter, length, take, drop}
use Rattle.std.proofs.Common.{get_or, drop_of_length-le, refl, sym, ◌∙◌, ap, subst, inl, inr, arith, Option, Some, None, append-nil, ℤ, pos, int_le}
use Rattle.std.specs.Prelude.{reverse, MatchOption}
use Rattle.std.specs.Option.{option_to_list}
use Rattle.std.specs.List.Sorted.{IsNonDecreasingBy, IsPermutation}
use Rattle.std.proofs.lemmas.Bool.{true≢false}
use Rattle.std.proofs.lemmas.Bool.Decides.{nat_tests}
use Rattle.std.proofs.Math.Seq.{take-append_seam, drop-append_seam}
use Rattle.std.proofs.lemmas.List.{reverse-append, length-reverse, take-append-le, drop-append-le, take-append-drop, length-take-le, length-drop, take_all}
use Rattle.std.proofs.lemmas.List.{drop_more}
use Rattle.std.proofs.lemmas.List.Elements.{All-nil, All-cons, All-head, All-tail, All-append, All-take, filter_agree}
use Rattle.std.proofs.lemmas.List.Sorted.{list_any-IsPermutation, All-permutation}
use Rattle.std.proofs.Math.Bool.{or-false}
use Rattle.fd_language.specs.declared.TheConstants.{INFINITY}
use Rattle.fd_language.specs.Family.{has, universe}
use Rattle.domain_ranges.specs.Spans.{Span, within, IsSpans, members}
use Rattle.domain_ranges.specs.Narrowing.{between}
use Rattle.domain_ranges.specs.StackedSets.{numbers, stacked, AreStarts, AreIntervals, AreRising}
use Rattle.domain_ranges.proofs.Spans.{within_append, head_or_later}
use Rattle.domain_ranges.proofs.Members.{members_is}
use Rattle.domain_ranges.proofs.Images.{has_set, set_same}
use Rattle.domain_ranges.proofs.OpenInterval.{IsFirst}

pub length_stacked : (ks : List ℕ) (ss : List Span) → length (stacked ks ss) ≡ length ks
length_stacked [] ss = refl
length_stacked (k ∷ ks) ss = ap suc (length_stacked ks (take k ss))

-- intervals that rise and don't touch, as a set
pub numbers_of : (ss : List Span) → IsSpans 0 INFINITY ss → numbers ss ≡ members ss
numbers_of ss r = sym (members_is INFINITY ss (within ss) r (λ n h. refl))

-- one more set
pub stacked_push : (ks : List ℕ) (ss ts : List Span) → stacked (length ss ∷ ks) (ss ++ ts) ≡ numbers ts ∷ stacked ks ss
stacked_push ks ss ts = ap (λ l. numbers l ∷ stacked ks (take (length ss) (ss ++ ts))) (drop-append_seam ss ts) ∙ ap (λ l. numbers ts ∷ stacked ks l) (take-append_seam ss ts)

pub reverse_push : (xs : List ℕ) (x : ℕ) → reverse (xs ++ x ∷ []) ≡ x ∷ reverse xs
reverse_push xs x = reverse-append xs (x ∷ [])

starts_more : (ks : List ℕ) (n m : ℕ) → AreStarts ks n → n ≤ m → AreStarts ks m
starts_more [] n m h g = tt
starts_more (k ∷ ks) n m h g = (let a : k ≤ n = h.0 in omega arith, h.1)

-- what is pushed
module _ (starts : List ℕ) (ss ts : List Span) where
  pub push_view : (new : List ℕ) (all : List Span) → new ≡ starts ++ length ss ∷ [] → all ≡ ss ++ ts → stacked (reverse new) all ≡ numbers ts ∷ stacked (reverse starts) ss
  push_view new all e f = ap (λ l. stacked (reverse l) all) e
      ∙ (ap (λ l. stacked l all) (reverse_push starts (length ss)) ∙ (ap (stacked (length ss ∷ reverse starts)) f ∙ stacked_push (reverse starts) ss ts))

  pub push_starts : (new : List ℕ) (all : List Span) → new ≡ starts ++ length ss ∷ [] → all ≡ ss ++ ts → AreStarts (reverse starts) (length ss) → AreStarts (reverse new) (length all)
  push_starts new all e f h =
      subst (λ l. AreStarts l (length all)) (sym (ap reverse e ∙ reverse_push starts (length ss)))
      (subst (λ l. length ss ≤ length l) (sym f) (longer ss ts), h) where
        longer : (xs ys : List Span) → length xs ≤ length (xs ++ ys)
        longer [] ys = omega arith
        longer (x ∷ xs) ys = let k = longer xs ys in omega arith

pub wait_more : (ks : List ℕ) (ss ts all : List Span) → AreStarts ks (length ss) → all ≡ ss ++ ts → AreStarts ks (length all)
wait_more ks ss ts all h f = starts_more ks (length ss) (length all) h (subst (λ l. length ss ≤ length l) (sym f) (longer ss ts)) where
  longer : (xs ys : List Span) → length xs ≤ length (xs ++ ys)
  longer [] ys = omega arith
  longer (x ∷ xs) ys = let k = longer xs ys in omega arith

pub intervals_push : (ss : List Span) (s : Span) (all : List Span) → all ≡ ss ++ s ∷ [] → AreIntervals ss → s.0 ≤ s.1 → s.1 ≤ INFINITY → AreIntervals all
intervals_push ss s all e h a b = subst AreIntervals (sym e)
    (All-append (λ t. (t.0 ≤ t.1) × (t.1 ≤ INFINITY)) ss (s ∷ []) h
    (All-cons (λ t. (t.0 ≤ t.1) × (t.1 ≤ INFINITY)) s [] (a, b) (All-nil (λ t. (t.0 ≤ t.1) × (t.1 ≤ INFINITY)))))

are_intervals : (low : ℕ) (ss : List Span) → IsSpans low INFINITY ss → AreIntervals ss
are_intervals low [] r = All-nil (λ t. (t.0 ≤ t.1) × (t.1 ≤ INFINITY))
are_intervals low (s ∷ ss) r = All-cons (λ t. (t.0 ≤ t.1) × (t.1 ≤ INFINITY)) s ss (r.1, r.2) (are_intervals (s.1 + 2) ss r.3)

pub intervals_all : (ss ts all : List Span) → all ≡ ss ++ ts → AreIntervals ss → IsSpans 0 INFINITY ts → AreIntervals all
intervals_all ss ts all e h r = subst AreIntervals (sym e) (All-append (λ t. (t.0 ≤ t.1) × (t.1 ≤ INFINITY)) ss ts h (are_intervals 0 ts r))

-- the numbers of one interval, and of none
pub numbers_one : (s : Span) (lo hi : ℤ) → ((n : ℕ) → n ≤ INFINITY → (leb s.0 n && leb n s.1) ≡ (int_le lo (pos n) && int_le (pos n) hi)) → numbers (s ∷ []) ≡ between lo hi
numbers_one s lo hi f = set_same INFINITY (within (s ∷ [])) (λ n. int_le lo (pos n) && int_le (pos n) hi) (λ n l. or-false (leb s.0 n && leb n s.1) ∙ f n l)

pub numbers_none : (lo hi : ℤ) → ((n : ℕ) → n ≤ INFINITY → (int_le lo (pos n) && int_le (pos n) hi) ≡ false) → numbers [] ≡ between lo hi
numbers_none lo hi f = set_same INFINITY (within []) (λ n. int_le lo (pos n) && int_le (pos n) hi) (λ n l. sym (f n l))

-- the last place, as it is taken away
rev_popped : (old new : List ℕ) (o : Option ℕ) → old ≡ new ++ option_to_list o → reverse old ≡ option_to_list o ++ reverse new
rev_popped old new None e = ap reverse (e ∙ append-nil new)
rev_popped old new (Some k) e = ap reverse e ∙ reverse_push new k

-- the set on top, as it is taken away
module _ (old new : List ℕ) (k : ℕ) (ss ts : List Span) where
  pub top_starts : old ≡ new ++ k ∷ [] → ts ≡ take k ss → AreStarts (reverse old) (length ss) → AreStarts (reverse new) (length ts)
  top_starts e f h =
      let a = subst (λ l. AreStarts l (length ss)) (ap reverse e ∙ reverse_push new k) h in
      subst (AreStarts (reverse new)) (sym (ap length f ∙ length-take-le k ss a.0)) a.1

  pub top_intervals : ts ≡ take k ss → AreIntervals ss → AreIntervals ts
  top_intervals f h = subst AreIntervals (sym f) (All-take (λ t. (t.0 ≤ t.1) × (t.1 ≤ INFINITY)) k ss h)

  pub top_view : (sets : List (List ℕ)) (d : List ℕ) → old ≡ new ++ k ∷ [] → ts ≡ take k ss → stacked (reverse old) ss ≡ sets → d ≡ numbers (drop k ss) → sets ≡ d ∷ stacked (reverse new) ts
  top_view sets d e f g h =
      sym g ∙ (ap (λ l. stacked (reverse l) ss) e ∙ (ap (λ l. stacked l ss) (reverse_push new k)
      ∙ (ap (λ l. l ∷ stacked (reverse new) (take k ss)) (sym h) ∙ ap (λ l. d ∷ stacked (reverse new) l) (sym f))))

pub top_numbers : (k : ℕ) (ss all : List Span) → all ≡ ss → numbers (take (length all - k) (drop k all)) ≡ numbers (drop k ss)
top_numbers k ss all e = ap numbers (take_all (length all - k) (drop k all) (let l = length-drop k all in omega arith) ∙ ap (drop k) e)

-- places behind one another
lower : (k j : ℕ) (ss : List Span) → j ≤ k → k ≤ length ss → take j (take k ss) ≡ take j ss
lower k j ss h g =
    sym (take-append-le j (take k ss) (drop k ss) (subst (λ n. j ≤ n) (sym (length-take-le k ss g)) h)) ∙ ap (take j) (take-append-drop k ss)

upper : (k j : ℕ) (ss : List Span) → j ≤ k → k ≤ length ss → drop j (take k ss) ++ drop k ss ≡ drop j ss
upper k j ss h g =
    sym (drop-append-le j (take k ss) (drop k ss) (subst (λ n. j ≤ n) (sym (length-take-le k ss g)) h)) ∙ ap (drop j) (take-append-drop k ss)

-- the numbers of both
numbers_both : (xs ys : List Span) → numbers (xs ++ ys) ≡ filter (λ n. has (numbers xs) n || has (numbers ys) n) (universe INFINITY)
numbers_both xs ys = set_same INFINITY (within (xs ++ ys)) (λ n. has (numbers xs) n || has (numbers ys) n)
    (λ n l. within_append xs ys n ∙ (ap (λ b. b || within ys n) (sym (has_set INFINITY (within xs) n l)) ∙ ap (λ b. has (numbers xs) n || b) (sym (has_set INFINITY (within ys) n l))))

united : (k j : ℕ) (ks : List ℕ) (ss : List Span) → j ≤ k → k ≤ length ss
    → stacked (j ∷ ks) ss ≡ filter (λ n. has (numbers (drop j (take k ss))) n || has (numbers (drop k ss)) n) (universe INFINITY) ∷ stacked ks
    (take j (take k ss))
united k j ks ss h g =
    ap (λ l. numbers l ∷ stacked ks (take j ss)) (sym (upper k j ss h g)) ∙ (ap (λ l. l ∷ stacked ks (take j ss)) (numbers_both (drop j (take k ss)) (drop k ss))
    ∙ ap (λ l. filter (λ n. has (numbers (drop j (take k ss))) n || has (numbers (drop k ss)) n) (universe INFINITY) ∷ stacked ks l) (sym (lower k j ss h g)))

pub unite_view : (ks js : List ℕ) (o : Option ℕ) (ss : List Span) → AreStarts ks (length ss) → (o ≡ None → ks ≡ []) → ks ≡ option_to_list o ++ js
    → (r q : List ℕ) (rest : List (List ℕ)) → stacked ks ss ≡ q ∷ r ∷ rest →
    stacked js ss ≡ filter (λ n. has r n || has q n) (universe INFINITY) ∷ rest
unite_view [] js None ss h none e r q rest f = absurd cc
unite_view [] js (Some k) ss h none e r q rest f = absurd cc
unite_view (k ∷ []) js o ss h none e r q rest f = absurd cc
unite_view (k ∷ j ∷ ks) js None ss h none e r q rest f = absurd (let z : k ∷ j ∷ ks ≡ [] = none refl in cc)
unite_view (k ∷ j ∷ ks) js (Some i) ss h none e r q rest f =
    let below : js ≡ j ∷ ks = cc in
    let top : numbers (drop k ss) ≡ q = cc in
    let next : numbers (drop j (take k ss)) ≡ r = cc in
    let others : stacked ks (take j (take k ss)) ≡ rest = cc in
    ap (λ l. stacked l ss) below ∙ (united k j ks ss h.1.0 h.0 ∙ (ap (λ l. filter (λ n. has l n || has (numbers (drop k ss)) n) (universe INFINITY) ∷ stacked ks (take j (take k ss))) next
    ∙ (ap (λ l. filter (λ n. has r n || has l n) (universe INFINITY) ∷ stacked ks (take j (take k ss))) top ∙ ap (λ l. filter (λ n. has r n || has q n) (universe INFINITY) ∷ l) others)))

-- one more number in the set on top
one_number : (n m : ℕ) → within ((n, n) ∷ []) m ≡ (m == n)
one_number n m = grind (arith, nat_tests)

numbers_more : (xs : List Span) (n : ℕ) → numbers (xs ++ (n, n) ∷ []) ≡ filter (λ m. has (numbers xs) m || (m == n)) (universe INFINITY)
numbers_more xs n = set_same INFINITY (within (xs ++ (n, n) ∷ [])) (λ m. has (numbers xs) m || (m == n))
    (λ m l. within_append xs ((n, n) ∷ []) m ∙ (ap (λ b. b || within ((n, n) ∷ []) m) (sym (has_set INFINITY (within xs) m l)) ∙ ap (λ b. has (numbers xs) m || b) (one_number n m)))

pub added_view : (ks : List ℕ) (ss all : List Span) (n : ℕ) → AreStarts ks (length ss) → all ≡ ss ++ (n, n) ∷ [] → (r : List ℕ) (rest : List (List ℕ))
    → stacked ks ss ≡ r ∷ rest → stacked ks all ≡ filter (λ m. has r m || (m == n)) (universe INFINITY) ∷ rest
added_view [] ss all n h e r rest f = absurd cc
added_view (k ∷ ks) ss all n h e r rest f =
    let top : numbers (drop k ss) ≡ r = cc in
    let others : stacked ks (take k ss) ≡ rest = cc in
    let more = ap (drop k) e ∙ drop-append-le k ss ((n, n) ∷ []) h.0 in
    let front = ap (take k) e ∙ take-append-le k ss ((n, n) ∷ []) h.0 in
    ap (λ l. numbers l ∷ stacked ks (take k all)) more ∙ (ap (λ l. l ∷ stacked ks (take k all)) (numbers_more (drop k ss) n)
    ∙ (ap (λ l. filter (λ m. has l m || (m == n)) (universe INFINITY) ∷ stacked ks (take k all)) top
    ∙ ap (λ l. filter (λ m. has r m || (m == n)) (universe INFINITY) ∷ l) (ap (stacked ks) front ∙ others)))

-- intervals that begin in rising order
later_from : (low n : ℕ) (ss : List Span) → AreRising low ss → within ss n ≡ true → low ≤ n
later_from low n [] r h = absurd (true≢false (sym h))
later_from low n (s ∷ ss) r h = let a : low ≤ s.0 = r.0 in elim (head_or_later s ss n h) [ inl e ↦ let b : s.0 ≤ n = e.0 in omega arith | inr e ↦ let b = later_from s.0 n ss r.1 e in omega arith ]

first_rising : (low : ℕ) (s : Span) (ss : List Span) → AreIntervals (s ∷ ss) → AreRising low (s ∷ ss) → IsFirst INFINITY (within (s ∷ ss)) s (within ss)
first_rising low s ss h r =
    let own = All-head (λ t. (t.0 ≤ t.1) × (t.1 ≤ INFINITY)) s ss h in
    record { order = own.0; high = own.1; later = λ n e. later_from s.0 n ss r.1 e; same = λ n l. refl }

drop_intervals : (i : ℕ) (ss : List Span) → AreIntervals ss → AreIntervals (drop i ss)
drop_intervals zero ss h = h
drop_intervals (suc i) [] h = h
drop_intervals (suc i) (s ∷ ss) h = drop_intervals i ss (All-tail (λ t. (t.0 ≤ t.1) × (t.1 ≤ INFINITY)) s ss h)

drop_rising : (low i : ℕ) (ss : List Span) → AreRising low ss → (from : ℕ) × AreRising from (drop i ss)
drop_rising low zero ss h = (low, h)
drop_rising low (suc i) [] h = (low, h)
drop_rising low (suc i) (s ∷ ss) h = drop_rising s.0 i ss h.1

pub first_at : (i : ℕ) (ss : List Span) → i < length ss → AreIntervals ss → AreRising 0 ss → IsFirst INFINITY (within (drop i ss)) (get_or ss i (0, 0)) (within (drop (i + 1) ss))
first_at i ss l h r =
    let e = drop_more ss i (0, 0) l in
    let d = drop_rising 0 i ss r in
    subst (λ k. IsFirst INFINITY (within k) (get_or ss i (0, 0)) (within (drop (i + 1) ss))) (sym e)
    (first_rising d.0 (get_or ss i (0, 0)) (drop (i + 1) ss) (subst AreIntervals e (drop_intervals i ss h)) (subst (AreRising d.0) e d.1))

-- one more interval that begins no earlier, and one that is apart
pub rising_more : (i from : ℕ) (ss : List Span) → i < length ss → from ≤ (get_or ss i (0, 0)).0 → (AreRising from (drop i ss) → AreRising 0 ss)
    → AreRising (get_or ss i (0, 0)).0 (drop (i + 1) ss) → AreRising 0 ss
rising_more i from ss l g f h = f (subst (AreRising from) (sym (drop_more ss i (0, 0) l)) (g, h))

pub apart_more : (i from : ℕ) (ss : List Span) → i < length ss → AreIntervals ss → from ≤ (get_or ss i (0, 0)).0
    → (IsSpans from INFINITY (drop i ss) → IsSpans 0 INFINITY ss) → IsSpans ((get_or ss i (0, 0)).1 + 2) INFINITY (drop (i + 1) ss) → IsSpans 0 INFINITY ss
apart_more i from ss l a g f h =
    let e = drop_more ss i (0, 0) l in
    let own = All-head (λ t. (t.0 ≤ t.1) × (t.1 ≤ INFINITY)) (get_or ss i (0, 0)) (drop (i + 1) ss) (subst AreIntervals e (drop_intervals i ss a)) in
    f (subst (IsSpans from INFINITY) (sym e) (g, own.0, own.1, h))

pub interval_high : (i : ℕ) (ss : List Span) → i < length ss → AreIntervals ss → (get_or ss i (0, 0)).1 ≤ INFINITY
interval_high i ss l a = (All-head (λ t. (t.0 ≤ t.1) × (t.1 ≤ INFINITY)) (get_or ss i (0, 0)) (drop (i + 1) ss) (subst AreIntervals (drop_more ss i (0, 0) l) (drop_intervals i ss a))).1

-- after a sort
rises : (ss : List Span) (low : ℕ) → ((d : Span) → 0 < length ss → low ≤ (get_or ss 0 d).0) → ((i j : ℕ) (d : Span) → i ≤ j → j < length ss → (get_or ss i d).0 ≤ (get_or ss j d).0) → AreRising low ss
rises [] low f h = tt
rises (s ∷ ss) low f h = (f s (omega arith), rises ss s.0 (λ d l. h 0 1 d (omega arith) (omega arith)) (λ i j d a b. h (suc i) (suc j) d (omega arith) (omega arith)))

pub sorted_rises : (ss : List Span) → IsNonDecreasingBy (λ s. s.0) ss → AreRising 0 ss
sorted_rises ss h = rises ss 0 (λ d l. omega arith) h

pub permuted_numbers : (ss ts : List Span) → IsPermutation ss ts → numbers ts ≡ numbers ss
permuted_numbers ss ts h = sym (filter_agree (within ss) (within ts) (λ n. list_any-IsPermutation (λ s. leb s.0 n && leb n s.1) ss ts h) (universe INFINITY))

pub permuted_intervals : (ss ts : List Span) → IsPermutation ss ts → AreIntervals ss → AreIntervals ts
permuted_intervals ss ts h a = All-permutation (λ t. (t.0 ≤ t.1) × (t.1 ≤ INFINITY)) ss ts h a

pub no_more : (i n : ℕ) (ss : List Span) → length ss ≤ i → within (drop i ss) n ≡ false
no_more i n ss h = ap (λ l. within l n) (drop_of_length-le ss h)

-- how many sets wait
height : (old : List ℕ) (ss : List Span) → length (stacked (reverse old) ss) ≡ length old
height old ss = length_stacked (reverse old) ss ∙ length-reverse old

pub room_left : (starts : List ℕ) (ss : List Span) (sets : List (List ℕ)) (n cap room : ℕ) → n ≡ length starts → stacked (reverse starts) ss ≡ sets → cap ≡ room → length sets < room → n < cap
room_left starts ss sets n cap room e f g h = let k : length sets ≡ length starts = ap length (sym f) ∙ height starts ss in omega arith

pub room_more : (starts : List ℕ) (ss : List Span) (sets : List (List ℕ)) (n more cap : ℕ) → n ≡ length starts → stacked (reverse starts) ss ≡ sets → n + more ≤ cap → length sets + more ≤ cap
room_more starts ss sets n more cap e f h = let k : length sets ≡ length starts = ap length (sym f) ∙ height starts ss in omega arith

pub popped_starts : (old new : List ℕ) (o : Option ℕ) (n : ℕ) → AreStarts (reverse old) n → old ≡ new ++ option_to_list o → AreStarts (reverse new) n
popped_starts old new o n h e = behind o (subst (λ l. AreStarts l n) (rev_popped old new o e) h) where
  behind : (o : Option ℕ) → AreStarts (option_to_list o ++ reverse new) n → AreStarts (reverse new) n
  behind None h = h
  behind (Some k) h = starts_more (reverse new) k n h.1 h.0

pub one_fewer : (o : Option ℕ) (n m : ℕ) → MatchOption o ((n ≡ 0) × (m ≡ 0)) (λ _. m + 1 ≡ n) → m ≤ n - 1
one_fewer None n m h = let a : m ≡ 0 = h.1 in omega arith
one_fewer (Some k) n m h = omega arith

pub fewer_sets : (old new : List ℕ) (ss ts : List Span) (sets : List (List ℕ)) (n m : ℕ) → n ≡ length old → m ≡ length new → stacked (reverse old) ss ≡ sets
    → m ≤ n - 1 → length (stacked (reverse new) ts) ≤ length sets - 1
fewer_sets old new ss ts sets n m e f g h =
    let a : length sets ≡ length old = ap length (sym g) ∙ height old ss in
    let b = height new ts in omega arith

pub room_behind : (new : List ℕ) (ts : List Span) (n m cap cap' : ℕ) → m ≡ length new → m + 1 ≡ n → n ≤ cap → cap' ≡ cap → length (stacked (reverse new) ts) < cap'
room_behind new ts n m cap cap' e f g h = let b = height new ts in omega arith

pub none_there : (o : Option ℕ) (old : List ℕ) (n m : ℕ) → MatchOption o ((n ≡ 0) × (m ≡ 0)) (λ _. m + 1 ≡ n) → n ≡ length old → o ≡ None → reverse old ≡ []
none_there None old n m h e f = empty old (let a : n ≡ 0 = h.0 in omega arith) where
  empty : (xs : List ℕ) → length xs ≡ 0 → reverse xs ≡ []
  empty [] h = refl
  empty (x ∷ xs) h = absurd (omega arith)
none_there (Some k) old n m h e f = absurd (let z : Some k ≡ None = f in cc)

pub unite_is : (old new : List ℕ) (o : Option ℕ) (ss : List Span) (n m : ℕ) → AreStarts (reverse old) (length ss) → old ≡ new ++ option_to_list o
    → MatchOption o ((n ≡ 0) × (m ≡ 0)) (λ _. m + 1 ≡ n) → n ≡ length old → (r q : List ℕ) (rest : List (List ℕ)) → stacked (reverse old) ss ≡ q ∷ r ∷ rest →
    stacked (reverse new) ss ≡ filter (λ n. has r n || has q n) (universe INFINITY) ∷ rest
unite_is old new o ss n m h e c l r q rest f = unite_view (reverse old) (reverse new) o ss h (none_there o old n m c l) (rev_popped old new o e) r q rest f

pub same_waiting : (starts new : List ℕ) (ss all : List Span) → new ≡ starts → all ≡ ss → AreStarts (reverse starts) (length ss) × AreIntervals ss
    → AreStarts (reverse new) (length all) × AreIntervals all
same_waiting starts new ss all e f h = subst (λ l. AreStarts (reverse l) (length all) × AreIntervals all) (sym e) (subst (λ l. AreStarts (reverse starts) (length l) × AreIntervals l) (sym f) h)

pub same_sets : (starts new : List ℕ) (ss all : List Span) (sets : List (List ℕ)) → new ≡ starts → all ≡ ss → stacked (reverse starts) ss ≡ sets → stacked (reverse new) all ≡ sets
same_sets starts new ss all sets e f g = ap (λ l. stacked (reverse l) all) e ∙ (ap (stacked (reverse starts)) f ∙ g)
