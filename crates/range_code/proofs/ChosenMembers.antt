-- How the members of a target that are chosen are gathered.
use Rattle.std.proofs.Common.{◌≡◌, ℕ, zero, suc, ◌+◌, ◌<◌, ◌≤◌, length, take, get_or, Bool, true, false, ◌&&◌, ◌||◌, ◌==◌, eqb-true, eq-eqb, List, [], ◌∷◌}
use Rattle.std.proofs.Common.{◌++◌, filter, refl, sym, ◌∙◌, ap, subst, arith, ◌⊎◌, inl, inr, leb}
use Rattle.std.proofs.lemmas.Bool.{true≢false, or_cases, and_parts, cases_Bool, le-leb, lt-leb, or_right, or_left, leb-false}
use Rattle.std.proofs.lemmas.List.{get_or-take, get_or_default, length-append, length-take-le}
use Rattle.std.proofs.lemmas.List.Folds.{list_any_more}
use Rattle.std.proofs.Math.Bool.{or-false, and-false}
use Rattle.fd_language.specs.declared.TheConstants.{INFINITY}
use Rattle.fd_language.specs.Family.{has, universe, IsRising, IsSubset}
use Rattle.fd_language.specs.Range.{is_none_left}
use Rattle.fd_language.proofs.Lemmas.{eq_sym, shorter_or_same}
use Rattle.domain_ranges.specs.Spans.{Span, within, IsSpans, members}
use Rattle.domain_ranges.proofs.Lemmas.{has_set, set_same, set_is, set_rising, filter_inside, has_within, loses, below_first}
use Rattle.range_code.specs.Choices.{is_chosen, left_chosen, AreRising, IsFromNumber}

-- one more number behind a set
snoc_rises : (low M n : ℕ) (xs : List ℕ) → IsRising low M xs → ((k : ℕ) → has xs k ≡ true → k < n) → low ≤ n → n ≤ M → IsRising low M (xs ++ n ∷ [])
snoc_rises low M n [] r below l h = (l, h, tt)
snoc_rises low M n (x ∷ xs) r below l h = (
  r.0,
  r.1,
  snoc_rises (suc x) M n xs r.2 (λ k g. below k (or_right (x == k) (has xs k) g)) (let b = below x (or_left (x == x) (has xs x) (eq-eqb x x refl)) in omega (arith, b)) h,
)

has_snoc : (xs : List ℕ) (n k : ℕ) → has (xs ++ n ∷ []) k ≡ (has xs k || (k == n))
has_snoc [] n k = or-false (n == k) ∙ eq_sym n k
has_snoc (x ∷ xs) n k = ap (λ b. (x == k) || b) (has_snoc xs n k) ∙ regroup (x == k) (has xs k) (k == n) where
  regroup : (a b c : Bool) → (a || (b || c)) ≡ ((a || b) || c)
  regroup a b c = grind arith

snoc_is : (M n : ℕ) (xs : List ℕ) → IsRising 0 M xs → ((k : ℕ) → has xs k ≡ true → k < n) → n ≤ M → xs ++ n ∷ [] ≡ filter (λ k. has xs k || (k == n)) (universe M)
snoc_is M n xs r below h = set_is M (λ k. has xs k || (k == n)) (xs ++ n ∷ []) (snoc_rises 0 M n xs r below (omega arith) h) (λ k l. has_snoc xs n k)

-- the members of the first pairs that are gathered, the first number behind them, and what of the target may still come
pub record Gathering (t s : List ℕ) (ds : List (ℕ × ℕ)) (i : ℕ) (rest : List Span) (from count : ℕ) (sets : List (List ℕ)) : Type 0 where
  pub numbers : List ℕ
  pub top : sets ≡ numbers ∷ []
  pub are : numbers ≡ left_chosen t s (take i ds)
  pub below : (n : ℕ) → has numbers n ≡ true → n < from
  pub last : (k : ℕ) → from ≡ k + 1 → has numbers k ≡ true
  pub counted : count ≡ length numbers
  pub few : count ≤ from
  pub high : from ≤ INFINITY + 1
  pub spans : IsSpans 0 INFINITY rest
  pub same : (j n : ℕ) (d : ℕ × ℕ) → i ≤ j → j < length ds → (get_or ds j d).1 ≤ n → within rest n ≡ has t n

pub keeps_none : (xs : List ℕ) → filter (λ n. false) xs ≡ []
keeps_none [] = refl
keeps_none (x ∷ xs) = keeps_none xs

pub gathering_start : (t s : List ℕ) (ds : List (ℕ × ℕ)) (rest : List Span) (sets : List (List ℕ)) → sets ≡ [] ∷ [] → IsSpans 0 INFINITY rest → members rest ≡ t → Gathering t s ds 0 rest 0 0 sets
gathering_start t s ds rest sets e r m = record {
  numbers = [];
  top = e;
  are = sym (set_same INFINITY (λ n. has t n && is_chosen s [] n) (λ n. false) (λ n l. and-false (has t n)) ∙ keeps_none (universe INFINITY));
  below = λ n h. absurd (true≢false (sym h));
  last = λ k h. absurd (nothing k h);
  counted = refl;
  few = omega arith;
  high = omega arith;
  spans = r;
  same = λ j n d l g h. has_within INFINITY rest t n r m;
} where
  nothing : (k : ℕ) → 0 ≡ k + 1 → ⊥
  nothing k h = omega (arith, h)

-- the members that are chosen are no greater than the next number
chosen_below : (s : List ℕ) (ds : List (ℕ × ℕ)) (n top : ℕ) → ((k : ℕ) (d : ℕ × ℕ) → k < length ds → (get_or ds k d).1 ≤ top) → is_chosen s ds n ≡ true → n ≤ top
chosen_below s [] n top a h = absurd (true≢false (sym h))
chosen_below s (d ∷ ds) n top a h = elim (or_cases (has s d.0 && (d.1 == n)) (is_chosen s ds n) h) [
  | inl e ↦ subst (λ k. k ≤ top) (eqb-true d.1 n (and_parts (has s d.0) (d.1 == n) e).1) (a 0 d (omega arith))
  | inr e ↦ chosen_below s ds n top (λ k c l. a (suc k) c (omega arith)) e
]

module _ (t s : List ℕ) (ds : List (ℕ × ℕ)) (i : ℕ) (rest : List Span) (from count : ℕ) (sets : List (List ℕ)) (rise : AreRising ds) (d : ℕ × ℕ)
    (l : i < length ds) (h : Gathering t s ds i rest from count sets) where
  abbrev c : ℕ × ℕ
  c = get_or ds i d

  -- the intervals that end below the next number are left
  pub gathering_from : (more : List Span) → IsSpans 0 INFINITY more → ((n : ℕ) → c.1 ≤ n → within more n ≡ within rest n) → Gathering t s ds i more from count sets
  gathering_from more r e = record {
    numbers = h.numbers;
    top = h.top;
    are = h.are;
    below = h.below;
    last = h.last;
    counted = h.counted;
    few = h.few;
    high = h.high;
    spans = r;
    same = λ j n k a b g. e n (below_next j k a b n g) ∙ h.same j n k a b g;
  } where
    below_next : (j : ℕ) (k : ℕ × ℕ) → i ≤ j → j < length ds → (n : ℕ) → (get_or ds j k).1 ≤ n → c.1 ≤ n
    below_next j k a b n g = let e = get_or_default ds j k d b in let f = rise i j d a b in omega (arith, ap (λ (x : ℕ × ℕ). x.1) e, f, g)

  -- whether the next number is in the target
  pub next_there : within rest c.1 ≡ has t c.1
  next_there = h.same i c.1 d (omega arith) l (omega arith)

  gathered_below : (n : ℕ) → is_chosen s (take i ds) n ≡ true → n ≤ c.1
  gathered_below n g = chosen_below s (take i ds) n c.1 firsts g where
    firsts : (k : ℕ) (e : ℕ × ℕ) → k < length (take i ds) → (get_or (take i ds) k e).1 ≤ c.1
    firsts k e g =
        let low : k < i = omega (arith, length-take-le i ds (omega arith), g) in
        subst (λ x. x.1 ≤ c.1) (sym (get_or-take i ds k e low))
        (subst (λ x. x.1 ≤ c.1) (get_or_default ds k d e (omega arith)) (rise k i d (omega arith) l))

  -- the numbers with the next one
  abbrev with_next : List ℕ → List ℕ
  with_next xs = filter (λ k. has xs k || (k == c.1)) (universe INFINITY)

  abbrev is_next : ℕ → Bool
  is_next n = has s c.0 && (c.1 == n)

  and_more : (a b e : Bool) → (a ≡ true → e ≡ true → b ≡ true) → (a && (b || e)) ≡ (a && b)
  and_more true true true f = refl
  and_more true true false f = refl
  and_more true false true f = sym (f refl refl)
  and_more true false false f = refl
  and_more false b e f = refl

  pub skipped : ((n : ℕ) → n ≤ INFINITY → has t n ≡ true → is_next n ≡ true → is_chosen s (take i ds) n ≡ true) → Gathering t s ds (i + 1) rest from count sets
  skipped f = record {
    numbers = h.numbers;
    top = h.top;
    below = h.below;
    last = h.last;
    counted = h.counted;
    few = h.few;
    high = h.high;
    spans = h.spans;
    are = h.are ∙ sym (set_same INFINITY (λ n. has t n && is_chosen s (take (i + 1) ds) n) (λ n. has t n && is_chosen s (take i ds) n)
        (λ n low. ap (λ b. has t n && b) (list_any_more (λ x. has s x.0 && (x.1 == n)) ds i d l) ∙ and_more (has t n) (is_chosen s (take i ds) n) (is_next n) (f n low)));
    same = λ j n k a b g. h.same j n k (omega arith) b g;
  }

  -- a pair whose number is there already, or isn't in the target, or whose key isn't in the set
  pub skipped_again : c.1 < from → Gathering t s ds (i + 1) rest from count sets
  skipped_again g = skipped (λ n low a b. there from n low (eqb-true c.1 n (and_parts (has s c.0) (c.1 == n) b).1) refl) where
    found : (k n : ℕ) → n ≤ INFINITY → from ≡ k + 1 → (c.1 ≡ n) → is_chosen s (take i ds) n ≡ true
    found k n low e f =
        let has_k : has (left_chosen t s (take i ds)) k ≡ true = ap (λ xs. has xs k) (sym h.are) ∙ h.last k e in
        let small : k ≤ INFINITY = omega (arith, e, h.high) in
        let both : (has t k ≡ true) × (is_chosen s (take i ds) k ≡ true) = and_parts (has t k) (is_chosen s (take i ds) k)
        (sym (has_set INFINITY (λ m. has t m && is_chosen s (take i ds) m) k small) ∙ has_k) in
        let low_k : k ≤ c.1 = gathered_below k both.1 in
        let is : k ≡ n = omega (arith, e, f, g) in
        subst (λ m. is_chosen s (take i ds) m ≡ true) is both.1

    there : (m n : ℕ) → n ≤ INFINITY → c.1 ≡ n → m ≡ from → is_chosen s (take i ds) n ≡ true
    there zero n low e f = absurd (let z : ⊥ = omega (arith, f, g) in z)
    there (suc k) n low e f = found k n low (let z : from ≡ k + 1 = omega (arith, f) in z) e

  pub skipped_out : within rest c.1 ≡ false → Gathering t s ds (i + 1) rest from count sets
  skipped_out g = skipped (λ n low a b. absurd (true≢false (sym a ∙ (ap (has t) (sym (eqb-true c.1 n (and_parts (has s c.0) (c.1 == n) b).1)) ∙ (sym next_there ∙ g)))))

  pub skipped_key : has s c.0 ≡ false → Gathering t s ds (i + 1) rest from count sets
  skipped_key g = skipped (λ n low a b. absurd (true≢false (sym (and_parts (has s c.0) (c.1 == n) b).0 ∙ g)))

  -- a number that is gathered
  taken_test : (a b e x : Bool) → (x ≡ true → a ≡ true) → e ≡ x → ((a && b) || x) ≡ (a && (b || e))
  taken_test true true e true f g = refl
  taken_test true true e false f g = refl
  taken_test true false e x f g = sym g
  taken_test false b e true f g = sym (f refl)
  taken_test false b e false f g = refl

  pub taken : (sets' : List (List ℕ)) → c.1 ≤ INFINITY → from ≤ c.1 → within rest c.1 ≡ true → has s c.0 ≡ true
      → ((r : List ℕ) (more : List (List ℕ)) → sets ≡ r ∷ more → sets' ≡ filter (λ k. has r k || (k == c.1)) (universe INFINITY) ∷ more) → Gathering t s ds (i + 1) rest (c.1 + 1) (count + 1) sets'
  taken sets' high low inside key added = record {
    numbers = with_next h.numbers;
    top = added h.numbers [] h.top;
    are = set_same INFINITY (λ k. has h.numbers k || (k == c.1)) (λ k. has t k && is_chosen s (take (i + 1) ds) k)
        (λ k l'. ap (λ a. a || (k == c.1)) (ap (λ xs. has xs k) h.are ∙ has_set INFINITY (λ m. has t m && is_chosen s (take i ds) m) k l')
        ∙ (taken_test (has t k) (is_chosen s (take i ds) k) (is_next k) (k == c.1) (λ e. ap (has t) (eqb-true k c.1 e) ∙ (sym next_there ∙ inside)) (ap (λ b. b && (c.1 == k)) key ∙ eq_sym c.1 k)
        ∙ sym (ap (λ b. has t k && b) (list_any_more (λ x. has s x.0 && (x.1 == k)) ds i d l))));
    below = λ n g. bounded n (or_cases (has h.numbers n) (n == c.1) (sym (has_snoc h.numbers c.1 n) ∙ (ap (λ xs. has xs n) is ∙ g)));
    last = λ k e. let at : c.1 ≡ k = omega (arith, e) in
        subst (λ m. has (with_next h.numbers) m ≡ true) at
        (ap (λ xs. has xs c.1) (sym is) ∙ (has_snoc h.numbers c.1 c.1 ∙ or_right (has h.numbers c.1) (c.1 == c.1) (eq-eqb c.1 c.1 refl)));
    counted = let e : length (h.numbers ++ c.1 ∷ []) ≡ length h.numbers + 1 = length-append h.numbers (c.1 ∷ []) in
        let f : length (with_next h.numbers) ≡ length (h.numbers ++ c.1 ∷ []) = ap length (sym is) in omega (arith, e, f, h.counted);
    few = omega (arith, h.few, low);
    high = omega (arith, high);
    spans = h.spans;
    same = λ j n k a b g. h.same j n k (omega arith) b g;
  } where
    is : h.numbers ++ c.1 ∷ [] ≡ with_next h.numbers
    is = snoc_is INFINITY c.1 h.numbers (subst (IsRising 0 INFINITY) (sym h.are) (set_rising INFINITY (λ m. has t m && is_chosen s (take i ds) m)))
        (λ k g. let b = h.below k g in omega (arith, b, low)) high

    bounded : (n : ℕ) → (has h.numbers n ≡ true) ⊎ ((n == c.1) ≡ true) → n < c.1 + 1
    bounded n (inl g) = let b = h.below n g in omega (arith, b, low)
    bounded n (inr g) = let e = eqb-true n c.1 g in omega (arith, e)

pub gathering_same : (t s : List ℕ) (ds : List (ℕ × ℕ)) (i : ℕ) (rest : List Span) (from count : ℕ) (sets : List (List ℕ)) (old_from old_count : ℕ)
    (old_sets : List (List ℕ)) → from ≡ old_from → count ≡ old_count → sets ≡ old_sets → Gathering t s ds i rest old_from old_count old_sets
    → Gathering t s ds i rest from count sets
gathering_same t s ds i rest from count sets old_from old_count old_sets e f g h =
    subst (λ n. Gathering t s ds i rest n count sets) (sym e) (subst (λ n. Gathering t s ds i rest old_from n sets) (sym f) (subst (Gathering t s ds i rest old_from old_count) (sym g) h))

-- whether the number is in the first interval
pub in_first : (number : ℕ) (ss : List Span) (d : Span) → 1 ≤ length ss → IsSpans 0 INFINITY ss → IsFromNumber number ss → leb (get_or ss 0 d).0 number ≡ within ss number
in_first number [] d l r h = absurd (let z : ⊥ = omega (arith, l) in z)
in_first number (x ∷ xs) d l r h = elim (cases_Bool (leb x.0 number)) [
  | inl e ↦ e ∙ sym (here (leb x.0 number) (leb number x.1) (within xs number) e (le-leb number x.1 h))
  | inr e ↦ e ∙ sym (below_first INFINITY 0 number x xs r (leb-false x.0 number e))
] where
  here : (a b w : Bool) → a ≡ true → b ≡ true → ((a && b) || w) ≡ true
  here a b w e f = grind (arith, e, f)

-- whether the number is in a set of one interval
only_has : (ss : List Span) (d : Span) (xs : List ℕ) (n : ℕ) → length ss ≡ 1 → IsSpans 0 INFINITY ss → members ss ≡ xs → (leb (get_or ss 0 d).0 n && leb n (get_or ss 0 d).1) ≡ has xs n
only_has [] d xs n l r e = absurd (let z : ⊥ = omega (arith, l) in z)
only_has (x ∷ []) d xs n l r e = sym (or-false (leb x.0 n && leb n x.1)) ∙ has_within INFINITY (x ∷ []) xs n r e
only_has (x ∷ y ∷ ys) d xs n l r e = absurd (let z : ⊥ = omega (arith, l) in z)

second : (a b : Bool) → a ≡ true → b ≡ (a && b)
second a b e = grind (arith, e)

neither : (a b : Bool) → a ≡ false → a ≡ (a && b)
neither a b e = grind (arith, e)

pub only_above : (ss : List Span) (d : Span) (xs : List ℕ) (n : ℕ) → length ss ≡ 1 → IsSpans 0 INFINITY ss → members ss ≡ xs → (get_or ss 0 d).0 ≤ n → leb n (get_or ss 0 d).1 ≡ has xs n
only_above ss d xs n l r e h = second (leb (get_or ss 0 d).0 n) (leb n (get_or ss 0 d).1) (le-leb (get_or ss 0 d).0 n h) ∙ only_has ss d xs n l r e

pub only_below : (ss : List Span) (d : Span) (xs : List ℕ) (n : ℕ) → length ss ≡ 1 → IsSpans 0 INFINITY ss → members ss ≡ xs → n < (get_or ss 0 d).0 → leb (get_or ss 0 d).0 n ≡ has xs n
only_below ss d xs n l r e h = neither (leb (get_or ss 0 d).0 n) (leb n (get_or ss 0 d).1) (lt-leb (get_or ss 0 d).0 n h) ∙ only_has ss d xs n l r e

-- what is left of a target
module _ (t s : List ℕ) (ds : List (ℕ × ℕ)) (rise : IsRising 0 INFINITY t) where
  abbrev set : List ℕ
  set = filter (is_chosen s ds) (universe INFINITY)

  left_is : left_chosen t s ds ≡ filter (has set) t
  left_is = set_same INFINITY (λ n. has t n && is_chosen s ds n) (λ n. has t n && has set n)
      (λ n l. ap (λ b. has t n && b) (sym (has_set INFINITY (is_chosen s ds) n l))) ∙ filter_inside INFINITY t set rise

  pub none_left : 0 ≡ length (left_chosen t s ds) → filter (has set) t ≡ []
  none_left e = empty (filter (has set) t) (e ∙ ap length left_is) where
    empty : (xs : List ℕ) → 0 ≡ length xs → xs ≡ []
    empty [] h = refl
    empty (x ∷ xs) h = absurd (let z : ⊥ = omega (arith, h) in z)

  pub all_left : length t ≡ length (left_chosen t s ds) → IsSubset t set
  all_left e = record { each = λ n g. there n g (has set n) refl } where
    there : (n : ℕ) → has t n ≡ true → (b : Bool) → has set n ≡ b → has set n ≡ true
    there n g true h = h
    there n g false h = absurd (let z : length (filter (has set) t) < length t = loses t set n g h in
        let w : length (left_chosen t s ds) ≡ length (filter (has set) t) = ap length left_is in let o : ⊥ = omega (arith, z, w, e) in o)

  pub some_left : (new : List ℕ) → new ≡ left_chosen t s ds → (length (left_chosen t s ds) ≡ 0 → ⊥) → (length (left_chosen t s ds) ≡ length t → ⊥)
      → (new ≡ filter (has set) t) × (is_none_left new ≡ false) × (length new < length t)
  some_left new e f g = (e ∙ left_is, some new (λ h. f (ap length (sym e) ∙ h)), subst (λ xs. length xs < length t) (sym (e ∙ left_is)) (fewer (shorter_or_same (has set) t))) where
    some : (xs : List ℕ) → (length xs ≡ 0 → ⊥) → is_none_left xs ≡ false
    some [] h = absurd (h refl)
    some (x ∷ xs) h = refl

    fewer : (length (filter (has set) t) < length t) ⊎ (filter (has set) t ≡ t) → length (filter (has set) t) < length t
    fewer (inl l) = l
    fewer (inr h) = absurd (g (ap length (left_is ∙ h)))
