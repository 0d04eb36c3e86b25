-- A list of intervals that is being made, with its last interval still open to what touches it.
use Rattle.std.proofs.Common.{◌≡◌, ℕ, ◌+◌, ◌<◌, ◌≤◌, Bool, true, false, ◌||◌, ◌&&◌, leb, List, [], ◌∷◌, ◌++◌, filter, refl, ap, sym, ◌∙◌, inl, inr, arith}
use Rattle.std.proofs.Common.{length, max, append-nil, Option, Some, None, IsSome, IfSome}
use Rattle.std.proofs.lemmas.Bool.{cases_Bool, true≢false, leb-true, leb-false}
use Rattle.std.proofs.lemmas.Bool.Decides.{nat_tests}
use Rattle.fd_language.specs.Family.{universe}
use Rattle.domain_ranges.specs.Spans.{Span, within, IsSpans, members, interval_count, listed, written, joined}
use Rattle.domain_ranges.proofs.PartialSets.{Made, IsNext, made_push, made_all, made_many, out_high, out_low}
use Rattle.domain_ranges.proofs.Spans.{or_step}

-- the least number of the open interval, or else the end of what is made
abbrev pub front : Option Span → ℕ → ℕ
front None at = at
front (Some s) at = s.0

-- from the end of out on, what passes p is in the open interval or in what is to come
pub record Joining (M : ℕ) (p : ℕ → Bool) (out : List Span) (last : Option Span) (rest : ℕ → Bool) : Type 0 where
  pub at : ℕ
  pub made : Made M p out at
  pub open_span : IsSpans at M (listed last)
  pub start : (n : ℕ) → rest n ≡ true → front last at ≤ n
  pub same : (n : ℕ) → n ≤ M → at ≤ n → p n ≡ (within (listed last) n || rest n)

-- x is the first of what is to come
pub record IsFirst (M : ℕ) (rest : ℕ → Bool) (x : Span) (rest' : ℕ → Bool) : Type 0 where
  pub order : x.0 ≤ x.1
  pub high : x.1 ≤ M
  pub later : (n : ℕ) → rest' n ≡ true → x.0 ≤ n
  pub same : (n : ℕ) → n ≤ M → rest n ≡ ((leb x.0 n && leb n x.1) || rest' n)

or_nil : (a b : Bool) → (a || b) ≡ ((a || false) || b)
or_nil a b = grind arith

in_it : (r : Bool) (x : Span) (n : ℕ) → x.0 ≤ n → n ≤ x.1 → ((leb x.0 n && leb n x.1) || r) ≡ true
in_it r x n h g = grind (arith, nat_tests)

here : (M : ℕ) (rest rest' : ℕ → Bool) (x : Span) → IsFirst M rest x rest' → (n : ℕ) → x.0 ≤ n → n ≤ x.1 → rest n ≡ true
here M rest rest' x f n h g = f.same n (omega (arith, f.high)) ∙ in_it (rest' n) x n h g

not_yet : (n k : ℕ) (b : Bool) → (b ≡ true → k ≤ n) → n < k → b ≡ false
not_yet n k false f h = refl
not_yet n k true f h = absurd (omega (arith, f refl))

pub either_false : (a b c : Bool) → c ≡ (a || b) → a ≡ false → b ≡ false → c ≡ false
either_false a b c e h g = grind arith

pub either_true : (a b c : Bool) → c ≡ (a || b) → a ≡ true → c ≡ true
either_true a b c e h = grind arith

one_in : (s : Span) (n : ℕ) → s.0 ≤ n → n ≤ s.1 → within (s ∷ []) n ≡ true
one_in s n h g = grind (arith, nat_tests)

-- the first open interval
pub join_first : (M : ℕ) (p : ℕ → Bool) (out : List Span) (rest rest' : ℕ → Bool) (x : Span) → Joining M p out None rest → IsFirst M rest x rest' → Joining M p out (Some x) rest'
join_first M p out rest rest' x j f = record {
  at = j.at;
  made = j.made;
  open_span = (j.start x.0 (here M rest rest' x f x.0 (omega arith) f.order), f.order, f.high, tt);
  start = λ n h. f.later n h;
  same = λ n g h. j.same n g h ∙ f.same n g ∙ or_nil (leb x.0 n && leb n x.1) (rest' n);
}

longer_bits : (s0 s1 x0 x1 n : ℕ) → s0 ≤ s1 → x0 ≤ x1 → s0 ≤ x0 → x0 ≤ s1 + 1 → (((leb s0 n && leb n s1) || false) || (leb x0 n && leb n x1)) ≡ ((leb s0 n && leb n (max s1 x1)) || false)
longer_bits s0 s1 x0 x1 n a b c d = grind (arith, nat_tests)

-- an interval that touches the open one makes it longer
pub join_longer : (M : ℕ) (p : ℕ → Bool) (out : List Span) (rest rest' : ℕ → Bool) (s x : Span) → Joining M p out (Some s) rest → IsFirst M rest x rest'
    → x.0 ≤ s.1 + 1 → Joining M p out (Some (s.0, max s.1 x.1)) rest'
join_longer M p out rest rest' s x j f t =
    let open_ = j.open_span in
    let past : s.0 ≤ x.0 = j.start x.0 (here M rest rest' x f x.0 (omega arith) f.order) in
    record {
      at = j.at;
      made = j.made;
      open_span = (open_.0, omega (arith, open_.1), omega (arith, open_.2, f.high), tt);
      start = λ n h. omega (arith, f.later n h);
      same = λ n g h. j.same n g h ∙ or_step (within (s ∷ []) n) (leb x.0 n && leb n x.1) (rest' n) (rest n) (f.same n g)
          ∙ ap (λ b. b || rest' n) (longer_bits s.0 s.1 x.0 x.1 n open_.1 f.order past t);
    }

-- the open interval is the next one, where nothing to come touches it
next_open : (M : ℕ) (p : ℕ → Bool) (out : List Span) (rest : ℕ → Bool) (s : Span) (j : Joining M p out (Some s) rest) → rest (s.1 + 1) ≡ false → IsNext M p j.at s
next_open M p out rest s j e =
    let open_ = j.open_span in
    record {
      from = open_.0;
      order = open_.1;
      high = open_.2;
      before = λ n k l. either_false (within (s ∷ []) n) (rest n) (p n) (j.same n (omega (arith, open_.1, open_.2)) k) (out_low s n l) (not_yet n s.0 (rest n) (j.start n) l);
      inside = λ n k l. either_true (within (s ∷ []) n) (rest n) (p n) (j.same n (omega (arith, open_.2)) (omega (arith, open_.0))) (one_in s n k l);
      after = λ k. either_false (within (s ∷ []) (s.1 + 1)) (rest (s.1 + 1)) (p (s.1 + 1)) (j.same (s.1 + 1) k (omega (arith, open_.0, open_.1))) (out_high s (s.1 + 1) (omega arith)) e;
    }

pub not_low : (x : Span) (n : ℕ) → n < x.0 → (leb x.0 n && leb n x.1) ≡ false
not_low x n h = grind (arith, nat_tests)

no_rest : (M : ℕ) (rest rest' : ℕ → Bool) (x : Span) (n : ℕ) → IsFirst M rest x rest' → n ≤ M → n < x.0 → rest n ≡ false
no_rest M rest rest' x n f g h = f.same n g ∙ either_false (leb x.0 n && leb n x.1) (rest' n) ((leb x.0 n && leb n x.1) || rest' n) refl (not_low x n h) (not_yet n x.0 (rest' n) (f.later n) h)

apart : (M : ℕ) (p : ℕ → Bool) (out : List Span) (rest rest' : ℕ → Bool) (s x : Span) (j : Joining M p out (Some s) rest) → IsFirst M rest x rest' → s.1 + 1 < x.0 → IsNext M p j.at s
apart M p out rest rest' s x j f t = next_open M p out rest s j (no_rest M rest rest' x (s.1 + 1) f (omega (arith, f.order, f.high)) t)

-- an interval apart from it closes it
pub join_apart : (M : ℕ) (p : ℕ → Bool) (out : List Span) (rest rest' : ℕ → Bool) (s x : Span) → Joining M p out (Some s) rest → IsFirst M rest x rest'
    → s.1 + 1 < x.0 → Joining M p (out ++ s ∷ []) (Some x) rest'
join_apart M p out rest rest' s x j f t =
    let next = apart M p out rest rest' s x j f t in
    record {
      at = s.1 + 2;
      made = made_push M p out j.at s j.made next;
      open_span = (omega arith, f.order, f.high, tt);
      start = λ n h. f.later n h;
      same = λ n g h. j.same n g (omega (arith, next.from, next.order)) ∙ ap (λ b. b || rest n) (out_high s n (omega arith)) ∙ f.same n g ∙ or_nil (leb x.0 n && leb n x.1) (rest' n);
    }

pub apart_many : (M : ℕ) (p : ℕ → Bool) (out : List Span) (rest rest' : ℕ → Bool) (s x : Span) → Joining M p out (Some s) rest → IsFirst M rest x rest'
    → s.1 + 1 < x.0 → 2 ≤ length out → 2 < interval_count (filter p (universe M))
apart_many M p out rest rest' s x j f t l =
    let next = apart M p out rest rest' s x j f t in
    made_many M p out j.at s.0 j.made l next.from (omega (arith, next.order, next.high)) (next.inside s.0 (omega arith) next.order)

-- one interval more
pub join_more : (M : ℕ) (p : ℕ → Bool) (out : List Span) (last : Option Span) (rest rest' : ℕ → Bool) (x : Span) → Joining M p out last rest
    → IsFirst M rest x rest' → Joining M p (out ++ written last x) (Some (joined last x)) rest'
join_more M p out None rest rest' x j f = rw append-nil (join_first M p out rest rest' x j f)
join_more M p out (Some s) rest rest' x j f = elim (cases_Bool (leb x.0 (s.1 + 1))) [
  | inl t ↦ rw (t, append-nil) (join_longer M p out rest rest' s x j f (leb-true x.0 (s.1 + 1) t))
  | inr t ↦ rw t (join_apart M p out rest rest' s x j f (leb-false x.0 (s.1 + 1) t))
]

-- the open interval is the last one, where nothing is to come
last_next : (M : ℕ) (p : ℕ → Bool) (out : List Span) (rest : ℕ → Bool) (s : Span) (j : Joining M p out (Some s) rest) → ((n : ℕ) → n ≤ M → rest n ≡ false) → IsNext M p j.at s
last_next M p out rest s j none =
    let open_ = j.open_span in
    record {
      from = open_.0;
      order = open_.1;
      high = open_.2;
      before = λ n k l. either_false (within (s ∷ []) n) (rest n) (p n) (j.same n (omega (arith, open_.1, open_.2)) k) (out_low s n l) (none n (omega (arith, open_.1, open_.2)));
      inside = λ n k l. either_true (within (s ∷ []) n) (rest n) (p n) (j.same n (omega (arith, open_.2)) (omega (arith, open_.0))) (one_in s n k l);
      after = λ k. either_false (within (s ∷ []) (s.1 + 1)) (rest (s.1 + 1)) (p (s.1 + 1)) (j.same (s.1 + 1) k (omega (arith, open_.0, open_.1)))
          (out_high s (s.1 + 1) (omega arith)) (none (s.1 + 1) k);
    }

-- at the end
pub join_done : (M : ℕ) (p : ℕ → Bool) (out : List Span) (last : Option Span) (rest : ℕ → Bool) → Joining M p out last rest → ((n : ℕ) → n ≤ M → rest n ≡ false)
    → members (out ++ listed last) ≡ filter p (universe M)
join_done M p out None rest j none = rw append-nil (made_all M p out j.at j.made (λ n g h. j.same n g h ∙ none n g))
join_done M p out (Some s) rest j none = made_all M p (out ++ s ∷ []) (s.1 + 2) (made_push M p out j.at s j.made (last_next M p out rest s j none))
    (λ n g h. either_false (within (s ∷ []) n) (rest n) (p n) (j.same n g (omega (arith, j.open_span.0, j.open_span.1))) (out_high s n (omega arith)) (none n g))

pub done_many : (M : ℕ) (p : ℕ → Bool) (out : List Span) (s : Span) (rest : ℕ → Bool) → Joining M p out (Some s) rest → ((n : ℕ) → n ≤ M → rest n ≡ false)
    → 2 ≤ length out → 2 < interval_count (filter p (universe M))
done_many M p out s rest j none l =
    let next = last_next M p out rest s j none in
    made_many M p out j.at s.0 j.made l next.from (omega (arith, next.order, next.high)) (next.inside s.0 (omega arith) next.order)

pub join_many : (M : ℕ) (p : ℕ → Bool) (out : List Span) (last : Option Span) (rest rest' : ℕ → Bool) (x : Span) → Joining M p out last rest
    → IsFirst M rest x rest' → IsSome last → IfSome last (λ s. s.1 + 1 < x.0) → 2 ≤ length out → 2 < interval_count (filter p (universe M))
join_many M p out None rest rest' x j f is_some t l = absurd (true≢false (sym is_some))
join_many M p out (Some s) rest rest' x j f is_some t l = apart_many M p out rest rest' s x j f t l

pub close_many : (M : ℕ) (p : ℕ → Bool) (out : List Span) (last : Option Span) (rest : ℕ → Bool) → Joining M p out last rest
    → ((n : ℕ) → n ≤ M → rest n ≡ false) → IsSome last → 2 ≤ length out → 2 < interval_count (filter p (universe M))
close_many M p out None rest j none is_some l = absurd (true≢false (sym is_some))
close_many M p out (Some s) rest j none is_some l = done_many M p out s rest j none l

-- the whole list rises
pub close_spans : (M : ℕ) (p : ℕ → Bool) (out : List Span) (last : Option Span) (rest : ℕ → Bool) → Joining M p out last rest → ((n : ℕ) → n ≤ M → rest n ≡ false) → IsSpans 0 M (out ++ listed last)
close_spans M p out None rest j none = rw append-nil j.made.spans
close_spans M p out (Some s) rest j none = (made_push M p out j.at s j.made (last_next M p out rest s j none)).spans
