-- The numbers that words mean: std's `parse` reads them, and they lie in their ranges.
use Rattle.std.proofs.Common.{◌≡◌, ◌∙◌, ◌&&◌, ◌≤◌, ◌<◌, ◌^◌, ℕ, Bool, cond, not, refl, sym, ap, subst, true, false, arith, codes, List, [], ◌∷◌, length, get_or}
use Rattle.std.proofs.Common.{Option, Some, None, Result, Ok, Err}
use Rattle.std.specs.Prelude.{◌==◌, IfSome, nat_le, option_and_then, unwrap_or}
use Rattle.std.specs.Bool.{then_some}
use Rattle.std.specs.Result.{OkIff, result_ok}
use Rattle.std.specs.Str.{all_ascii_digits}
use Rattle.std.specs.Str.Parse.{ParsesUnsigned, digits_value}
use Rattle.std.proofs.lemmas.Bool.{eqb-true, leb-true}
use Rattle.std.proofs.lemmas.Str.Parse.{IsNumeralModel, numerals_by_value, parse_plain, tells_all_ascii_digits}
use Rattle.clap.proofs.WalkLemmas.{both}
use Rattle.fd_language.specs.declared.TheConstants.{INFINITY}
use Rattle.fd_model.specs.Output.{Options}
use Rattle.clap.specs.Words.{Text}
use Rattle.command_words.specs.Words.{number_in, options_by}

own : IsNumeralModel (λ ds. all_ascii_digits ds ≡ true) (digits_value 10)
own = numerals_by_value _ tells_all_ascii_digits

-- what is kept of a number that was read
abbrev kept : ℕ → ℕ → Option ℕ → Option ℕ
kept low high (Some n) = then_some (nat_le low n && nat_le n high) n
kept low high None = None

not_zero : (d : ℕ) → 49 ≤ d → not (d == 48) ≡ true
not_zero d least = go (d == 48) refl
  where
    go : (b : Bool) → (d == 48) ≡ b → not b ≡ true
    go true e = let same : d ≡ 48 = eqb-true d 48 e in absurd (omega arith)
    go false e = refl

number_read : {E : Type 0} (low high : ℕ) (text : List ℕ) (r : Result ℕ E) → high < 2 ^ 64 → 49 ≤ get_or text 0 0 → get_or text 0 0 ≤ 57
    → ParsesUnsigned 64 10 text r → number_in low high text ≡ kept low high (result_ok r)
number_read low high [] r fits least most parses = absurd (omega arith)
number_read {E} low high (d ∷ ds) r fits least most parses =
    ap (λ b. cond (b && (digits && within)) (Some value) None) (not_zero d least) ∙ go r (parse_plain own 64 (d ∷ ds) r parses (λ e. absurd (omega (arith, e))))
  where
    value : ℕ
    value = digits_value 10 (d ∷ ds)

    digits : Bool
    digits = all_ascii_digits (d ∷ ds)

    within : Bool
    within = nat_le low value && nat_le value high

    chosen : (b : Bool) (v : ℕ) → cond b (Some v) None ≡ then_some b v
    chosen true v = refl
    chosen false v = refl

    refused : (b : Bool) → (digits && within) ≡ b → ((digits ≡ true) × (0 < length (d ∷ ds)) × (value < 2 ^ 64) → ⊥) → cond b (Some value) None ≡ None
    refused false e fails = refl
    refused true e fails =
        let parts = both digits _ e in
        let under = leb-true value high (both (nat_le low value) _ parts.1).1 in
        absurd (fails (parts.0, omega arith, omega arith))

    go : (r : Result ℕ E) → OkIff r ((digits ≡ true) × (0 < length (d ∷ ds)) × (value < 2 ^ 64)) value → cond (digits && within) (Some value) None ≡ kept low high (result_ok r)
    go (Ok n) h = rw (h.0.0, h.1) (chosen within value)
    go (Err e) h = refused (digits && within) refl h

module _ {E : Type 0} (low high : ℕ) (text : List ℕ) (r : Result ℕ E) (fits : high < 2 ^ 64) (least : 49 ≤ get_or text 0 0) (most : get_or text 0 0 ≤ 57)
    (parses : ParsesUnsigned 64 10 text r) where
  pub number_kept : (n : ℕ) (b : Bool) → Some n ≡ result_ok r → b ≡ (nat_le low n && nat_le n high) → then_some b n ≡ number_in low high text
  number_kept n b is inside = ap (λ t. then_some t n) inside ∙ ap (kept low high) is ∙ sym (number_read low high text r fits least most parses)

  pub no_number : None ≡ result_ok r → None ≡ number_in low high text
  no_number is = ap (kept low high) is ∙ sym (number_read low high text r fits least most parses)

-- ---- the ranges of numbers

number_in-within : (low high : ℕ) (text : Text) → IfSome (number_in low high text) (λ n. (low ≤ n) × (n ≤ high))
number_in-within low high [] = tt
number_in-within low high (d ∷ ds) = go (not (d == 48)) (all_ascii_digits (d ∷ ds)) (nat_le low value) (nat_le value high) refl refl
  where
    value : ℕ
    value = digits_value 10 (d ∷ ds)

    go : (a b c e : Bool) → nat_le low value ≡ c → nat_le value high ≡ e → IfSome (cond (a && (b && (c && e))) (Some value) None) (λ n. (low ≤ n) × (n ≤ high))
    go false b c e above below = tt
    go true false c e above below = tt
    go true true false e above below = tt
    go true true true false above below = tt
    go true true true true above below = (leb-true low value above, leb-true value high below)

given_within : (low high : ℕ) (given : Option Text) → IfSome (option_and_then (number_in low high) given) (λ n. (low ≤ n) × (n ≤ high))
given_within low high None = tt
given_within low high (Some text) = number_in-within low high text

-- the size and the number of answers that are asked for lie in their ranges
pub generate_within : (o : Options) (given : Text → Option Text) → o ≡ options_by given → IfSome o.generate (λ n. (4 ≤ n) × (n ≤ 12))
generate_within o given is = subst (λ m. IfSome m (λ n. (4 ≤ n) × (n ≤ 12))) (sym (ap (λ (p : Options). p.generate) is)) (given_within 4 12 (given (codes "gen")))

pub answers_within : (o : Options) (given : Text → Option Text) → o ≡ options_by given → IfSome o.answers (λ n. (1 ≤ n) × (n ≤ 1000000000000))
answers_within o given is = subst (λ m. IfSome m (λ n. (1 ≤ n) × (n ≤ 1000000000000))) (sym (ap (λ (p : Options). p.answers) is))
    (given_within 1 1000000000000 (given (codes "answers")))

either_within : (low high usual : ℕ) → low ≤ usual → usual ≤ high → (o : Option ℕ) → IfSome o (λ n. (low ≤ n) × (n ≤ high)) → (low ≤ unwrap_or o usual) × (unwrap_or o usual ≤ high)
either_within low high usual least most None h = (least, most)
either_within low high usual least most (Some n) h = h

-- so does the greatest number that a variable may have
pub infinity_within : (o : Options) (given : Text → Option Text) → o ≡ options_by given → (1 ≤ o.infinity) × (o.infinity ≤ INFINITY)
infinity_within o given is = subst (λ (n : ℕ). (1 ≤ n) × (n ≤ INFINITY)) (sym (ap (λ (p : Options). p.infinity) is))
    (either_within 1 INFINITY INFINITY (omega arith) (omega arith) _ (given_within 1 INFINITY (given (codes "infinity"))))
