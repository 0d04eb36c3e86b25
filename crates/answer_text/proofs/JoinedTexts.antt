-- Texts joined one after another.
use Rattle.std.proofs.Common.{◌≡◌, ℕ, zero, suc, ◌+◌, ◌<◌, List, [], ◌∷◌, ◌++◌, refl, ap, sym, ◌∙◌, arith, append_assoc, length, map, take, slice_index_or}
use Rattle.std.proofs.Common.{codes}
use Rattle.std.proofs.lemmas.List.{length-take-le, length-map, map_more}
use Rattle.fd_language.specs.Term.{Name, Term}
use Rattle.fd_language.specs.TermTexts.{Quoted, term_text}
use Rattle.fd_model.specs.Lines.{joined, interval_text, intervals, domain_text, equals_text}
use Rattle.domain_ranges.specs.Spans.{IsSpans, members}
use Rattle.term_pool.specs.declared.AtomId.{AtomId}
use Rattle.term_pool.specs.declared.TermId.{TermId}
use Rattle.answer_text.specs.Pieces.{separator_at, spans_text, interval_of_span}
use Rattle.machine_events.proofs.Lemmas.{span_intervals}

-- a text more, behind others
joined_more : (between : List ℕ) (t : List ℕ) (ts : List (List ℕ)) (u : List ℕ) → joined between ((t ∷ ts) ++ u ∷ []) ≡ joined between (t ∷ ts) ++ (between ++ u)
joined_more between t [] u = refl
joined_more between t (v ∷ ts) u =
    ap (λ l. t ++ (between ++ l)) (joined_more between v ts u)
    ∙ ap (λ l. t ++ l) (sym (append_assoc between (joined between (v ∷ ts)) (between ++ u)))
    ∙ sym (append_assoc t (between ++ joined between (v ∷ ts)) (between ++ u))

regrouped : (t sep rest last : List ℕ) → t ++ (sep ++ (rest ++ last)) ≡ (t ++ (sep ++ rest)) ++ last
regrouped t sep rest last = ap (λ x. t ++ x) (sym (append_assoc sep rest last)) ∙ sym (append_assoc t (sep ++ rest) last)

-- one text more
module _ {A : Type 0} (sep : List ℕ) (f : A → List ℕ) (d : A) where
  pub joined_step : (xs : List A) (i : ℕ) → i < length xs → joined sep (map f (take (suc i) xs)) ≡ joined sep (map f (take i xs)) ++ (separator_at i sep ++ f (slice_index_or xs i d))
  joined_step [] i h = absurd (omega arith)
  joined_step (x ∷ xs) zero h = refl
  joined_step (x ∷ []) (suc i) h = absurd (omega arith)
  joined_step (x ∷ y ∷ ys) (suc zero) h = refl
  joined_step (x ∷ y ∷ ys) (suc (suc i)) h =
      let more : joined sep (map f (take (suc (suc i)) (y ∷ ys))) ≡ joined sep (map f (take (suc i) (y ∷ ys)))
      ++ (separator_at (suc i) sep ++ f (slice_index_or (y ∷ ys) (suc i) d)) = joined_step (y ∷ ys) (suc i) (omega arith) in
      ap (λ t. f x ++ (sep ++ t)) more ∙ regrouped (f x) sep (joined sep (map f (take (suc i) (y ∷ ys)))) (sep ++ f (slice_index_or (y ∷ ys) (suc i) d))

pub spans_step : (init text mid last : List ℕ) (spans : List (ℕ × ℕ)) (i : ℕ) (d : ℕ × ℕ) → i < length spans → text ≡ init ++ spans_text (take i spans)
    → mid ≡ text ++ separator_at i (codes ":") → last ≡ mid ++ interval_text (interval_of_span (slice_index_or spans i d))
    → last ≡ init ++ spans_text (take (i + 1) spans)
spans_step init text mid last spans i d h e f g =
    let one : take (i + 1) spans ≡ take (suc i) spans = ap (λ n. take n spans) (let k : i + 1 ≡ suc i = omega arith in k) in
    g ∙ ap (λ x. x ++ interval_text (interval_of_span (slice_index_or spans i d))) (f ∙ ap (λ x. x ++ separator_at i (codes ":")) e)
    ∙ append_assoc (init ++ spans_text (take i spans)) (separator_at i (codes ":")) (interval_text (interval_of_span (slice_index_or spans i d)))
    ∙ append_assoc init (spans_text (take i spans)) (separator_at i (codes ":") ++ interval_text (interval_of_span (slice_index_or spans i d)))
    ∙ ap (λ x. init ++ x) (sym (joined_step (codes ":") (λ s. interval_text (interval_of_span s)) d spans i h))
    ∙ ap (λ x. init ++ spans_text x) (sym one)

same_texts : (spans : List (ℕ × ℕ)) → map (λ s. interval_text (interval_of_span s)) spans ≡ map interval_text (map interval_of_span spans)
same_texts [] = refl
same_texts (s ∷ spans) = ap (λ l. interval_text (interval_of_span s) ∷ l) (same_texts spans)

-- the text of a domain, by its intervals
pub domain_spans : (high : ℕ) (domain : List ℕ) (spans : List (ℕ × ℕ)) → IsSpans 0 high spans → members spans ≡ domain → spans_text spans ≡ domain_text domain
domain_spans high domain spans h e = ap (joined (codes ":")) (same_texts spans ∙ ap (map interval_text) (sym (span_intervals 0 high spans h) ∙ ap intervals e))

joined_last : (sep : List ℕ) (ts : List (List ℕ)) (u : List ℕ) → joined sep (ts ++ u ∷ []) ≡ joined sep ts ++ (separator_at (length ts) sep ++ u)
joined_last sep [] u = refl
joined_last sep (t ∷ ts) u = joined_more sep t ts u

-- ---- entries

entries_more : (vars : ℕ → List ℕ) (names : List Name) (ts : List Term) (n : Name) (t : Term) → length names ≡ length ts
    → equals_text vars (names ++ n ∷ []) (ts ++ t ∷ []) ≡ equals_text vars names ts ++ (n ++ (codes " = " ++ term_text Quoted vars 699 t)) ∷ []
entries_more vars [] [] n t e = refl
entries_more vars [] (u ∷ ts) n t e = absurd (omega arith)
entries_more vars (m ∷ names) [] n t e = absurd (omega arith)
entries_more vars (m ∷ names) (u ∷ ts) n t e = ap (λ (l : List (List ℕ)). (m ++ (codes " = " ++ term_text Quoted vars 699 u)) ∷ l) (entries_more vars names ts n t (omega arith))

entries_count : (vars : ℕ → List ℕ) (names : List Name) (ts : List Term) → length names ≡ length ts → length (equals_text vars names ts) ≡ length names
entries_count vars [] ts e = refl
entries_count vars (m ∷ names) [] e = absurd (omega arith)
entries_count vars (m ∷ names) (u ∷ ts) e = ap suc (entries_count vars names ts (omega arith))

abbrev joined_entries : (ℕ → List ℕ) → List Name → List Term → List ℕ
joined_entries vars names ts = joined (codes ", ") (equals_text vars names ts)

entry_behind : (vars : ℕ → List ℕ) (names : List Name) (ts : List Term) (n : Name) (t : Term) (i : ℕ) → length names ≡ i → length ts ≡ i
    → joined_entries vars (names ++ n ∷ []) (ts ++ t ∷ []) ≡ joined_entries vars names ts ++ (separator_at i (codes ", ") ++ (n ++ (codes " = " ++ term_text Quoted vars 699 t)))
entry_behind vars names ts n t i e f =
    ap (joined (codes ", ")) (entries_more vars names ts n t (e ∙ sym f))
    ∙ joined_last (codes ", ") (equals_text vars names ts) (n ++ (codes " = " ++ term_text Quoted vars 699 t))
    ∙ ap (λ (k : ℕ). joined_entries vars names ts ++ (separator_at k (codes ", ") ++ (n ++ (codes " = " ++ term_text Quoted vars 699 t)))) (entries_count vars names ts (e ∙ sym f) ∙ e)

put_four : (a b c d e : List ℕ) → (((a ++ b) ++ c) ++ d) ++ e ≡ a ++ (b ++ (c ++ (d ++ e)))
put_four a b c d e = append_assoc ((a ++ b) ++ c) d e ∙ append_assoc (a ++ b) c (d ++ e) ∙ append_assoc a b (c ++ (d ++ e))

module _ {A B : Type 0} (f : A → B) where
  take_map : (n : ℕ) (xs : List A) → take n (map f xs) ≡ map f (take n xs)
  take_map zero xs = refl
  take_map (suc n) [] = refl
  take_map (suc n) (x ∷ xs) = ap (λ (l : List B). f x ∷ l) (take_map n xs)

  -- the first of what f makes of a list, and one more
  pub one_more : (xs : List A) (i : ℕ) (x : A) → i < length xs → take (i + 1) (map f xs) ≡ take i (map f xs) ++ f (slice_index_or xs i x) ∷ []
  one_more xs i x h = take_map (i + 1) xs ∙ map_more f xs i x h ∙ ap (λ (l : List B). l ++ f (slice_index_or xs i x) ∷ []) (sym (take_map i xs))

-- one entry more
pub entry_step : (init t0 t1 t2 t3 t4 : List ℕ) (vars : ℕ → List ℕ) (f : AtomId → Name) (g : TermId → Term) (ids : List AtomId) (ts : List TermId) (i : ℕ)
    (a : AtomId) (t : TermId) → i < length ids → i < length ts
    → t0 ≡ init ++ joined (codes ", ") (equals_text vars (take i (map f ids)) (take i (map g ts)))
    → t1 ≡ t0 ++ separator_at i (codes ", ") → t2 ≡ t1 ++ f (slice_index_or ids i a) → t3 ≡ t2 ++ codes " = " → t4 ≡ t3 ++ term_text Quoted vars 699 (g (slice_index_or ts i t))
    → t4 ≡ init ++ joined (codes ", ") (equals_text vars (take (i + 1) (map f ids)) (take (i + 1) (map g ts)))
entry_step init t0 t1 t2 t3 t4 vars f g ids ts i a t h k inv f1 f2 f3 f4 =
    let names = take i (map f ids) in
    let terms = take i (map g ts) in
    let name = f (slice_index_or ids i a) in
    let here = g (slice_index_or ts i t) in
    let text = term_text Quoted vars 699 here in
    let one : length names ≡ i = length-take-le i (map f ids) (omega (arith, h, length-map ids f)) in
    let two : length terms ≡ i = length-take-le i (map g ts) (omega (arith, k, length-map ts g)) in
    let old = joined_entries vars names terms in
    let tail = separator_at i (codes ", ") ++ (name ++ (codes " = " ++ text)) in
    let both : joined_entries vars (take (i + 1) (map f ids)) (take (i + 1) (map g ts)) ≡ joined_entries vars (names ++ name ∷ []) (terms ++ here ∷ []) =
    ap (λ (l : List Name). joined_entries vars l (take (i + 1) (map g ts))) (one_more f ids i a h) ∙ ap (joined_entries vars (names ++ name ∷ [])) (one_more g ts i t k) in
    f4 ∙ ap (λ (x : List ℕ). x ++ text) (f3 ∙ ap (λ (x : List ℕ). x ++ codes " = ") (f2 ∙ ap (λ (x : List ℕ). x ++ name) f1))
    ∙ put_four t0 (separator_at i (codes ", ")) name (codes " = ") text
    ∙ ap (λ (x : List ℕ). x ++ tail) inv
    ∙ append_assoc init old tail
    ∙ ap (λ (x : List ℕ). init ++ x) (sym (entry_behind vars names terms name here i one two))
    ∙ ap (λ (x : List ℕ). init ++ x) (sym both)

-- a text in parentheses
pub put_between : (t0 t1 t2 t3 d : List ℕ) → t1 ≡ t0 ++ 40 ∷ [] → t2 ≡ t1 ++ d → t3 ≡ t2 ++ 41 ∷ [] → t3 ≡ t0 ++ (codes "(" ++ (d ++ codes ")"))
put_between t0 t1 t2 t3 d e f g =
    g ∙ ap (λ (x : List ℕ). x ++ 41 ∷ []) (f ∙ ap (λ (x : List ℕ). x ++ d) e) ∙ append_assoc (t0 ++ 40 ∷ []) d (41 ∷ []) ∙ append_assoc t0 (40 ∷ []) (d ++ 41 ∷ [])
