-- The number that bytes write in decimal.
use Rattle.std.proofs.Common.{◌≡◌, ℕ, ◌<◌, ◌≤◌, ◌^◌, Bool, true, false, cond, List, Some, None, Result, Ok, refl, sym, ap, ◌∙◌, subst, arith, decimal}
use Rattle.std.specs.Prelude.{◌&&◌, nat_le}
use Rattle.std.specs.Bool.{then_some}
use Rattle.std.specs.Result.{result_ok}
use Rattle.std.specs.Str.{IsUtf8, bytes_eq}
use Rattle.std.specs.Str.Parse.{ParsesUnsigned, digits_value}
use Rattle.std.proofs.lemmas.Bool.{leb-true}
use Rattle.std.proofs.lemmas.Fmt.{IsAscii-decimal, decimal_is_IsNumeral, parse-decimal}
use Rattle.std.proofs.lemmas.Slice.Eq.{bytes_eq-Decides}
use Rattle.std.proofs.lemmas.Str.{IsUtf8-from_ascii}
use Rattle.fd_language.specs.declared.TheConstants.{INFINITY}
use Rattle.answer_check.specs.Rows.{number_in}

no_number_there : (bs : List ℕ) → ((n : ℕ) → n ≤ INFINITY → bs ≡ decimal n → ⊥) → None ≡ number_in bs
no_number_there bs h = go (bytes_eq (decimal (digits_value 10 bs)) bs) (nat_le (digits_value 10 bs) INFINITY) refl refl
  where
    v : ℕ
    v = digits_value 10 bs

    go : (a b : Bool) → bytes_eq (decimal v) bs ≡ a → nat_le v INFINITY ≡ b → None ≡ cond (a && b) (Some v) None
    go false b e f = refl
    go true false e f = refl
    go true true e f = absurd (h v (leb-true v INFINITY f) (sym ((bytes_eq-Decides (decimal v) bs).0 e)))

pub small : (n : ℕ) → n ≤ INFINITY → n < 2 ^ 64
small n l = omega arith

low : (n : ℕ) → n ≤ INFINITY → n < 2 ^ 32
low n l = omega arith

-- bytes that aren't text write none
pub no_text : (bs : List ℕ) → (IsUtf8 bs → ⊥) → None ≡ number_in bs
no_text bs h = no_number_there bs (λ n l e. h (subst IsUtf8 (sym e) (IsUtf8-from_ascii (decimal n) (IsAscii-decimal n (small n l)))))

-- nor do bytes that don't parse
pub no_number : {E : Type 0} (bs text : List ℕ) (r : Result ℕ E) → text ≡ bs → ParsesUnsigned 32 10 text r → None ≡ result_ok r → None ≡ number_in bs
no_number {E} bs text r same parses none = no_number_there bs (λ n l e. clash n (parse-decimal 32 n text r (low n l) (small n l) (same ∙ e) parses))
  where
    clash : (n : ℕ) → r ≡ Ok n → ⊥
    clash n e = let f : None ≡ Some n = none ∙ ap result_ok e in absurd (cc (f))

-- bytes that parse are a number where they are written like the number
pub number_written : {E : Type 0} (bs text : List ℕ) (r : Result ℕ E) (m : ℕ) → text ≡ bs → ParsesUnsigned 32 10 text r → Some m ≡ result_ok r → m < 2 ^ 64
    → then_some (bytes_eq (decimal m) bs && nat_le m INFINITY) m ≡ number_in bs
number_written {E} bs text r m same parses some below = go (bytes_eq (decimal m) bs) refl
  where
    only : (n : ℕ) → r ≡ Ok n → m ≡ n
    only n e = let f : Some m ≡ Some n = some ∙ ap result_ok e in cc

    chosen : (b : Bool) → then_some b m ≡ cond b (Some m) None
    chosen true = refl
    chosen false = refl

    go : (b : Bool) → bytes_eq (decimal m) bs ≡ b → then_some (b && nat_le m INFINITY) m ≡ number_in bs
    go true e =
        let is : decimal m ≡ bs = (bytes_eq-Decides (decimal m) bs).0 e in
        let value : digits_value 10 bs ≡ m = ap (digits_value 10) (sym is) ∙ (decimal_is_IsNumeral m below).1 in
        chosen (nat_le m INFINITY) ∙ sym (ap (λ v. cond (bytes_eq (decimal v) bs && nat_le v INFINITY) (Some v) None) value ∙ ap (λ b. cond (b && nat_le m INFINITY) (Some m) None) e)
    go false e = no_number_there bs (λ n l f. clash n l f (only n (parse-decimal 32 n text r (low n l) (small n l) (same ∙ f) parses)))
      where
        clash : (n : ℕ) → n ≤ INFINITY → bs ≡ decimal n → m ≡ n → ⊥
        clash n l f k =
            let t : bytes_eq (decimal m) bs ≡ true = (bytes_eq-Decides (decimal m) bs).1 (ap decimal k ∙ sym f) in
            let g : true ≡ false = sym t ∙ e in absurd (cc (g))
