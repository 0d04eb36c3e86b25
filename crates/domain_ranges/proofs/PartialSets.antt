-- A set that is being made, from its least number on.
use Rattle.std.proofs.Common.{◌≡◌, ℕ, suc, ◌+◌, ◌<◌, ◌≤◌, Bool, true, false, ◌||◌, List, [], ◌∷◌, ◌++◌, filter, refl, ap, sym, ◌∙◌, inl, inr, ◌⊎◌, arith}
use Rattle.std.proofs.Common.{length}
use Rattle.std.proofs.lemmas.Bool.{true≢false, cases_lt}
use Rattle.std.proofs.lemmas.Bool.Decides.{nat_tests}
use Rattle.fd_language.specs.Family.{has, universe}
use Rattle.fd_language.proofs.Lemmas.{has-filter, has-filter_back, universe_rising, in_universe, rising-filter}
use Rattle.domain_ranges.specs.Spans.{Span, within, IsSpans, members, interval_count}
use Rattle.domain_ranges.proofs.Spans.{EndBefore, within_append, spans_push, ends_push, ends_more, ends_none, in_head, past_first, behind_first}
use Rattle.domain_ranges.proofs.Members.{members_is, three_intervals}

-- out has what passes p below k, and nothing else; an interval that begins at k doesn't touch it
pub record Made (M : ℕ) (p : ℕ → Bool) (out : List Span) (k : ℕ) : Type 0 where
  pub spans : IsSpans 0 M out
  pub ends : EndBefore out k
  pub same : (n : ℕ) → n ≤ M → n < k → within out n ≡ p n

-- s is the next interval of what passes p
pub record IsNext (M : ℕ) (p : ℕ → Bool) (k : ℕ) (s : Span) : Type 0 where
  pub from : k ≤ s.0
  pub order : s.0 ≤ s.1
  pub high : s.1 ≤ M
  pub before : (n : ℕ) → k ≤ n → n < s.0 → p n ≡ false
  pub inside : (n : ℕ) → s.0 ≤ n → n ≤ s.1 → p n ≡ true
  pub after : s.1 + 1 ≤ M → p (s.1 + 1) ≡ false

pub made_none : (M : ℕ) (p : ℕ → Bool) → Made M p [] 0
made_none M p = record { spans = tt; ends = tt; same = λ n h g. absurd (omega arith) }

pub made_skip : (M : ℕ) (p : ℕ → Bool) (out : List Span) (k j : ℕ) → Made M p out k → k ≤ j → ((n : ℕ) → n ≤ M → k ≤ n → n < j → p n ≡ false) → Made M p out j
made_skip M p out k j m h f = record {
  spans = m.spans;
  ends = ends_more out k j m.ends h;
  same = λ n g l. elim (cases_lt n k) [ inl a ↦ m.same n g a | inr a ↦ ends_none out k n m.ends a ∙ sym (f n g a l) ];
}

-- where a number lies, beside an interval
where_is : (k n : ℕ) (s : Span) → n < s.1 + 2 → (n < k) ⊎ (((k ≤ n) × (n < s.0)) ⊎ (((s.0 ≤ n) × (n ≤ s.1)) ⊎ (n ≡ s.1 + 1)))
where_is k n s h = grind arith

or_none : (a b c : Bool) → a ≡ c → b ≡ false → (a || b) ≡ c
or_none a b c e f = grind arith

or_some : (a b c : Bool) → a ≡ false → b ≡ c → (a || b) ≡ c
or_some a b c e f = grind arith

pub out_low : (s : Span) (n : ℕ) → n < s.0 → within (s ∷ []) n ≡ false
out_low s n h = grind (arith, nat_tests)

pub out_high : (s : Span) (n : ℕ) → s.1 < n → within (s ∷ []) n ≡ false
out_high s n h = grind (arith, nat_tests)

pushed_same : (M : ℕ) (p : ℕ → Bool) (out : List Span) (k : ℕ) (s : Span) (n : ℕ) → Made M p out k → IsNext M p k s → n ≤ M → n < s.1 + 2 → (within out n || within (s ∷ []) n) ≡ p n
pushed_same M p out k s n m x g l = elim (where_is k n s l) [
  | inl a ↦ or_none (within out n) (within (s ∷ []) n) (p n) (m.same n g a) (out_low s n (omega (arith, x.from)))
  | inr (inl a) ↦ or_none (within out n) (within (s ∷ []) n) (p n) (ends_none out k n m.ends a.0 ∙ sym (x.before n a.0 a.1)) (out_low s n a.1)
  | inr (inr (inl a)) ↦ or_some (within out n) (within (s ∷ []) n) (p n) (ends_none out k n m.ends (omega (arith, x.from, a.0))) (in_head s [] n a.0 a.1 ∙ sym (x.inside n a.0 a.1))
  | inr (inr (inr a)) ↦ or_none (within out n) (within (s ∷ []) n) (p n) (ends_none out k n m.ends (omega (arith, x.from, x.order)) ∙ sym (ap p a ∙ x.after (omega arith))) (out_high s n (omega arith))
]

pub made_push : (M : ℕ) (p : ℕ → Bool) (out : List Span) (k : ℕ) (s : Span) → Made M p out k → IsNext M p k s → Made M p (out ++ s ∷ []) (s.1 + 2)
made_push M p out k s m x = record {
  spans = spans_push 0 M out s m.spans (omega arith) x.order x.high (ends_more out k s.0 m.ends x.from);
  ends = ends_push out s (s.1 + 2) (ends_more out k (s.1 + 2) m.ends (omega (arith, x.from, x.order))) (omega arith);
  same = λ n g l. within_append out (s ∷ []) n ∙ pushed_same M p out k s n m x g l;
}

pub made_all : (M : ℕ) (p : ℕ → Bool) (out : List Span) (k : ℕ) → Made M p out k → ((n : ℕ) → n ≤ M → k ≤ n → p n ≡ false) → members out ≡ filter p (universe M)
made_all M p out k m f = members_is M out p m.spans (λ n g. elim (cases_lt n k) [ inl a ↦ m.same n g a | inr a ↦ ends_none out k n m.ends a ∙ sym (f n g a) ])

has_not : (M : ℕ) (p : ℕ → Bool) (n : ℕ) (b : Bool) → p n ≡ false → has (filter p (universe M)) n ≡ b → b ≡ false
has_not M p n false h e = refl
has_not M p n true h e = absurd (true≢false (sym (has-filter_back p (universe M) n e).1 ∙ h))

has_it : (M : ℕ) (p : ℕ → Bool) (n : ℕ) → n ≤ M → p n ≡ true → has (filter p (universe M)) n ≡ true
has_it M p n h e = has-filter p (universe M) n (in_universe M n h) e

-- two intervals are there, and some more is to come
pub made_many : (M : ℕ) (p : ℕ → Bool) (out : List Span) (k x : ℕ) → Made M p out k → 2 ≤ length out → k ≤ x → x ≤ M → p x ≡ true → 2 < interval_count (filter p (universe M))
made_many M p [] k x m h l g e = absurd (omega arith)
made_many M p (s ∷ []) k x m h l g e = absurd (omega arith)
made_many M p (s ∷ t ∷ ss) k x m h l g e =
    let r : IsSpans 0 M (s ∷ t ∷ ss) = m.spans in
    let z : EndBefore (s ∷ t ∷ ss) k = m.ends in
    let s1 : s.1 + 2 ≤ t.0 = r.3.0 in
    let t1 : t.0 ≤ t.1 = r.3.1 in
    let ends_s : s.1 + 2 ≤ k = z.0 in
    let ends_t : t.1 + 2 ≤ k = z.1.0 in
    three_intervals M s.1 t.1 x (filter p (universe M)) (rising-filter p 0 M (universe M) (universe_rising M))
    (has_it M p s.1 r.2 (sym (m.same s.1 r.2 (omega arith)) ∙ in_head s (t ∷ ss) s.1 r.1 (omega arith)))
    (has_not M p (suc s.1) _ (sym (m.same (suc s.1) (omega arith) (omega arith)) ∙ behind_first 0 M s (t ∷ ss) r) refl)
    (has_it M p t.1 r.3.2 (sym (m.same t.1 r.3.2 (omega arith)) ∙ past_first s (t ∷ ss) t.1 (omega arith) ∙ in_head t ss t.1 t1 (omega arith)))
    (has_not M p (suc t.1) _ (sym (m.same (suc t.1) (omega arith) (omega arith)) ∙ past_first s (t ∷ ss) (suc t.1) (omega arith) ∙ behind_first (s.1 + 2) M t ss r.3) refl)
    (has_it M p x g e) (omega arith) (omega arith)
