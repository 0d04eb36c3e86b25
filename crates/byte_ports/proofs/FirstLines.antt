-- The first line of bytes, and the others.
use Rattle.std.proofs.Common.{◌≡◌, ℕ, zero, suc, ◌+◌, ◌<◌, ◌≤◌, Bool, true, false, cond, List, [], ◌∷◌, ◌++◌, length, take, drop, get_or}
use Rattle.std.proofs.Common.{refl, sym, ap, ◌∙◌, arith, length-append, true≢false}
use Rattle.std.specs.List.{concat, onto_first}
use Rattle.std.proofs.lemmas.Bool.{false_from_ne_true}
use Rattle.memchr.specs.Find.{NoneBefore, Nowhere, Passes, is_byte}
use Rattle.byte_ports.specs.Lines.{is_newline, lines_of, first_line}

-- ---- the first line by the place of its newline

first_some : (bs : List ℕ) (at : ℕ) → at < length bs → ((k : ℕ) → k < at → is_newline (get_or bs k 0) ≡ false) → is_newline (get_or bs at 0) ≡ true → take (at + 1) bs ≡ first_line bs
first_some [] at l h e = absurd (omega arith)
first_some (b ∷ bs) at l h e = by_first (is_newline b) refl at l h e (first_some bs)
  where
    by_first : (t : Bool) → is_newline b ≡ t → (at : ℕ) → at < length (b ∷ bs) → ((k : ℕ) → k < at → is_newline (get_or (b ∷ bs) k 0) ≡ false) → is_newline (get_or (b ∷ bs) at 0) ≡ true
        → ((k : ℕ) → k < length bs → ((i : ℕ) → i < k → is_newline (get_or bs i 0) ≡ false) → is_newline (get_or bs k 0) ≡ true → take (k + 1) bs ≡ first_line bs)
        → take (at + 1) (b ∷ bs) ≡ cond (is_newline b) (b ∷ []) (b ∷ first_line bs)
    by_first true f zero l h e i = sym (ap (λ t. cond t (b ∷ []) (b ∷ first_line bs)) f)
    by_first true f (suc k) l h e i = let g = h 0 (omega arith) in absurd (true≢false (sym f ∙ g))
    by_first false f zero l h e i = absurd (true≢false (sym e ∙ f))
    by_first false f (suc k) l h e i =
        let step : suc k + 1 ≡ suc (k + 1) = omega arith in
        ap (λ n. take n (b ∷ bs)) step
        ∙ ap (λ xs. b ∷ xs) (i k (omega arith) (λ m j. h (suc m) (omega arith)) e)
        ∙ sym (ap (λ t. cond t (b ∷ []) (b ∷ first_line bs)) f)

first_none : (bs : List ℕ) → ((k : ℕ) → k < length bs → is_newline (get_or bs k 0) ≡ false) → bs ≡ first_line bs
first_none [] h = refl
first_none (b ∷ bs) h =
    let f : is_newline b ≡ false = h 0 (omega arith) in
    ap (λ xs. b ∷ xs) (first_none bs (λ k l. h (suc k) (omega arith))) ∙ sym (ap (λ t. cond t (b ∷ []) (b ∷ first_line bs)) f)

-- ---- the lines behind it

pub line_and_rest : (bs : List ℕ) → first_line bs ++ drop (length (first_line bs)) bs ≡ bs
line_and_rest [] = refl
line_and_rest (b ∷ bs) = by (is_newline b) (line_and_rest bs) where
  by : (t : Bool) → first_line bs ++ drop (length (first_line bs)) bs ≡ bs → cond t (b ∷ []) (b ∷ first_line bs) ++ drop (length (cond t (b ∷ []) (b ∷ first_line bs))) (b ∷ bs) ≡ b ∷ bs
  by true h = refl
  by false h = ap (λ xs. b ∷ xs) h

pub lines_step : (bs : List ℕ) → 0 < length bs → lines_of bs ≡ first_line bs ∷ lines_of (drop (length (first_line bs)) bs)
lines_step [] l = absurd (omega arith)
lines_step (b ∷ []) l = by (is_newline b) where
  by : (t : Bool) → cond t ((b ∷ []) ∷ []) (onto_first b []) ≡ cond t (b ∷ []) (b ∷ []) ∷ lines_of (drop (length (cond t (b ∷ []) (b ∷ []))) (b ∷ []))
  by true = refl
  by false = refl
lines_step (b ∷ d ∷ ds) l = by (is_newline b) (lines_step (d ∷ ds) (omega arith)) where
  by : (t : Bool) → lines_of (d ∷ ds) ≡ first_line (d ∷ ds) ∷ lines_of (drop (length (first_line (d ∷ ds))) (d ∷ ds))
      → cond t ((b ∷ []) ∷ lines_of (d ∷ ds)) (onto_first b (lines_of (d ∷ ds))) ≡ cond t (b ∷ []) (b ∷ first_line (d ∷ ds)) ∷ lines_of
      (drop (length (cond t (b ∷ []) (b ∷ first_line (d ∷ ds)))) (b ∷ d ∷ ds))
  by true h = refl
  by false h = ap (onto_first b) h

pub some_line : (bs : List ℕ) → 0 < length bs → 0 < length (first_line bs)
some_line [] l = absurd (omega arith)
some_line (b ∷ bs) l = by (is_newline b) where
  by : (t : Bool) → 0 < length (cond t (b ∷ []) (b ∷ first_line bs))
  by true = omega arith
  by false = omega arith

pub line_within : (bs : List ℕ) → length (first_line bs) ≤ length bs
line_within bs = let e = ap length (line_and_rest bs) in let f = length-append (first_line bs) (drop (length (first_line bs)) bs) in omega (arith, e, f)

-- joined, they are the text
onto_joined : (b : ℕ) (ls : List (List ℕ)) → concat (onto_first b ls) ≡ b ∷ concat ls
onto_joined b [] = refl
onto_joined b (l ∷ ls) = refl

pub joined_lines : (bs : List ℕ) → concat (lines_of bs) ≡ bs
joined_lines [] = refl
joined_lines (b ∷ bs) = by (is_newline b) (joined_lines bs) where
  by : (t : Bool) → concat (lines_of bs) ≡ bs → concat (cond t ((b ∷ []) ∷ lines_of bs) (onto_first b (lines_of bs))) ≡ b ∷ bs
  by true h = ap (λ (xs : List ℕ). b ∷ xs) h
  by false h = onto_joined b (lines_of bs) ∙ ap (λ (xs : List ℕ). b ∷ xs) h

-- ---- the first line as memchr finds its newline

pub line_at : (bs : List ℕ) (at : ℕ) → NoneBefore (Passes (is_byte 10) bs) 0 (length bs) at → Passes (is_byte 10) bs at → take (at + 1) bs ≡ first_line bs
line_at bs at n p = first_some bs at n.high (λ k l. false_from_ne_true _ (n.before k (omega arith) l)) p

pub line_whole : (bs : List ℕ) → Nowhere (Passes (is_byte 10) bs) 0 (length bs) → bs ≡ first_line bs
line_whole bs n = first_none bs (λ k l. false_from_ne_true _ (n k (omega arith) l))
