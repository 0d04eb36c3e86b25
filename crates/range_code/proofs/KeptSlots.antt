-- The slots below a number that pass a test, one more at a time.
use Rattle.std.proofs.Common.{◌≡◌, ℕ, zero, suc, ◌+◌, Bool, true, false, cond, List, [], ◌∷◌, ◌++◌, filter, sym, ◌∙◌, ap, arith, zero-add, add-zero}
use Rattle.std.proofs.lemmas.List.{append-nil}
use Rattle.std.proofs.lemmas.List.Elements.{filter-append}
use Rattle.fd_language.specs.Family.{count_up}

up_append : (low n : ℕ) → count_up low (suc n) ≡ count_up low n ++ (low + n) ∷ []
up_append low zero = ap (λ k. k ∷ []) (sym (add-zero low))
up_append low (suc n) = ap (λ l. low ∷ l) (up_append (suc low) n ∙ ap (λ k. count_up (suc low) n ++ k ∷ []) (let e : suc low + n ≡ low + suc n = omega arith in e))

up_more : (n : ℕ) → count_up 0 (n + 1) ≡ count_up 0 n ++ n ∷ []
up_more n = ap (count_up 0) (let e : n + 1 ≡ suc n = omega arith in e) ∙ (up_append 0 n ∙ ap (λ k. count_up 0 n ++ k ∷ []) (zero-add n))

-- one more slot
pub kept_more : (p : ℕ → Bool) (n : ℕ) (old new : List ℕ) → old ≡ filter p (count_up 0 n) → new ≡ old ++ cond (p n) (n ∷ []) [] → new ≡ filter p (count_up 0 (n + 1))
kept_more p n old new e f = f ∙ (ap (λ l. l ++ cond (p n) (n ∷ []) []) e ∙ sym (ap (filter p) (up_more n) ∙ filter-append p (count_up 0 n) (n ∷ [])))

pub kept_put : (p : ℕ → Bool) (n : ℕ) (old new : List ℕ) → old ≡ filter p (count_up 0 n) → p n ≡ true → new ≡ old ++ n ∷ [] → new ≡ filter p (count_up 0 (n + 1))
kept_put p n old new e t f = kept_more p n old new e (f ∙ ap (λ b. old ++ cond b (n ∷ []) []) (sym t))

pub kept_left : (p : ℕ → Bool) (n : ℕ) (old : List ℕ) → old ≡ filter p (count_up 0 n) → p n ≡ false → old ≡ filter p (count_up 0 (n + 1))
kept_left p n old e t = kept_more p n old old e (sym (append-nil old) ∙ ap (λ b. old ++ cond b (n ∷ []) []) (sym t))
