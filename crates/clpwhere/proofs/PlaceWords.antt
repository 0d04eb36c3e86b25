-- The place that bytes write in decimal.
use Rattle.std.proofs.Common.{◌≡◌, ℕ, ◌<◌, ◌≤◌, ◌^◌, Bool, true, false, cond, List, Some, None, Result, Ok, refl, sym, ap, ◌∙◌, subst, arith, decimal}
use Rattle.std.specs.Prelude.{◌&&◌, nat_le}
use Rattle.std.specs.Bool.{then_some}
use Rattle.std.specs.Result.{result_ok}
use Rattle.std.specs.Str.{IsUtf8, bytes_eq}
use Rattle.std.specs.Str.Parse.{ParsesUnsigned, digits_value}
use Rattle.std.proofs.lemmas.Bool.{leb-true}
use Rattle.std.proofs.lemmas.Fmt.{IsAscii-decimal, decimal_is_IsNumeral, parse-decimal}
use Rattle.std.proofs.lemmas.Slice.Eq.{bytes_eq-Decides}
use Rattle.std.proofs.lemmas.Str.{IsUtf8-from_ascii}
use Rattle.clpwhere.specs.Numbers.{last_place, place_in}

no_place : (bs : List ℕ) → ((n : ℕ) → n ≤ last_place → bs ≡ decimal n → ⊥) → None ≡ place_in bs
no_place bs h = go (bytes_eq (decimal (digits_value 10 bs)) bs) (nat_le (digits_value 10 bs) last_place) refl refl
  where
    v : ℕ
    v = digits_value 10 bs

    go : (a b : Bool) → bytes_eq (decimal v) bs ≡ a → nat_le v last_place ≡ b → None ≡ cond (a && b) (Some v) None
    go false b e f = refl
    go true false e f = refl
    go true true e f = absurd (h v (leb-true v last_place f) (sym ((bytes_eq-Decides (decimal v) bs).0 e)))

pub small : (n : ℕ) → n ≤ last_place → n < 2 ^ 64
small n l = omega arith

-- bytes that aren't text write none
pub no_text : (bs : List ℕ) → (IsUtf8 bs → ⊥) → None ≡ place_in bs
no_text bs h = no_place bs (λ n l e. h (subst IsUtf8 (sym e) (IsUtf8-from_ascii (decimal n) (IsAscii-decimal n (small n l)))))

-- nor do bytes that don't parse
pub no_number : {E : Type 0} (bs text : List ℕ) (r : Result ℕ E) → text ≡ bs → ParsesUnsigned 64 10 text r → None ≡ result_ok r → None ≡ place_in bs
no_number {E} bs text r same parses none = no_place bs (λ n l e. clash n (parse-decimal 64 n text r (small n l) (small n l) (same ∙ e) parses))
  where
    clash : (n : ℕ) → r ≡ Ok n → ⊥
    clash n e = let f : None ≡ Some n = none ∙ ap result_ok e in absurd (cc (f))

-- bytes that parse are a place where they are written like the number
pub number_place : {E : Type 0} (bs text : List ℕ) (r : Result ℕ E) (m : ℕ) → text ≡ bs → ParsesUnsigned 64 10 text r → Some m ≡ result_ok r → m < 2 ^ 64
    → then_some (bytes_eq (decimal m) bs && nat_le m last_place) m ≡ place_in bs
number_place {E} bs text r m same parses some low = go (bytes_eq (decimal m) bs) refl
  where
    only : (n : ℕ) → r ≡ Ok n → m ≡ n
    only n e = let f : Some m ≡ Some n = some ∙ ap result_ok e in cc

    chosen : (b : Bool) → then_some b m ≡ cond b (Some m) None
    chosen true = refl
    chosen false = refl

    go : (b : Bool) → bytes_eq (decimal m) bs ≡ b → then_some (b && nat_le m last_place) m ≡ place_in bs
    go true e =
        let is : decimal m ≡ bs = (bytes_eq-Decides (decimal m) bs).0 e in
        let value : digits_value 10 bs ≡ m = ap (digits_value 10) (sym is) ∙ (decimal_is_IsNumeral m low).1 in
        chosen (nat_le m last_place) ∙ sym (ap (λ v. cond (bytes_eq (decimal v) bs && nat_le v last_place) (Some v) None) value ∙ ap (λ b. cond (b && nat_le m last_place) (Some m) None) e)
    go false e = no_place bs (λ n l f. clash n l f (only n (parse-decimal 64 n text r (small n l) (small n l) (same ∙ f) parses)))
      where
        clash : (n : ℕ) → n ≤ last_place → bs ≡ decimal n → m ≡ n → ⊥
        clash n l f k =
            let t : bytes_eq (decimal m) bs ≡ true = (bytes_eq-Decides (decimal m) bs).1 (ap decimal k ∙ sym f) in
            let g : true ≡ false = sym t ∙ e in absurd (cc (g))
