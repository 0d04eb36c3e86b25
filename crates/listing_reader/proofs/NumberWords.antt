-- Numbers that words write.
use Rattle.std.proofs.Common.{◌≡◌, ℕ, ◌<◌, ◌^◌, ℤ, pos, negsuc, Bool, true, false, List, Some, None, Result, Ok, refl, sym, ap, ◌∙◌, subst, arith, decimal}
use Rattle.std.proofs.Common.{FitsSigned, w64}
use Rattle.std.specs.Fmt.{signed_decimal}
use Rattle.std.specs.Result.{result_ok}
use Rattle.std.specs.Str.{IsUtf8, bytes_eq}
use Rattle.std.specs.Str.Parse.{ParsesUnsigned, ParsesSigned}
use Rattle.std.specs.Int.Signed.{mag}
use Rattle.std.proofs.lemmas.Fmt.{IsAscii-decimal, IsAscii-signed, parse-decimal, parse-signed_decimal}
use Rattle.std.proofs.lemmas.Slice.Eq.{bytes_eq-Decides}
use Rattle.std.proofs.lemmas.Str.{IsUtf8-from_ascii}

-- ---- numbers

-- bytes that aren't text write none
pub no_text : (bs : List ℕ) → (IsUtf8 bs → ⊥) → (n : ℕ) → n < 2 ^ 64 → decimal n ≡ bs → ⊥
no_text bs h n small e = h (subst IsUtf8 e (IsUtf8-from_ascii (decimal n) (IsAscii-decimal n small)))

module _ {E : Type 0} (bs text : List ℕ) (r : Result ℕ E) (same : text ≡ bs) (parses : ParsesUnsigned 64 10 text r) where
  parsed : (n : ℕ) → n < 2 ^ 64 → decimal n ≡ bs → r ≡ Ok n
  parsed n small e = parse-decimal 64 n text r small small (same ∙ sym e) parses

  -- nor do bytes that don't parse
  pub no_number : None ≡ result_ok r → (n : ℕ) → n < 2 ^ 64 → decimal n ≡ bs → ⊥
  no_number none n small e = let f : None ≡ Some n = none ∙ ap result_ok (parsed n small e) in absurd (cc (f))

  -- nor those that are written in another way than their number
  pub no_spelling : (m : ℕ) → Some m ≡ result_ok r → bytes_eq (decimal m) bs ≡ false → (n : ℕ) → n < 2 ^ 64 → decimal n ≡ bs → ⊥
  no_spelling m some differs n small e =
      let f : Some m ≡ Some n = some ∙ ap result_ok (parsed n small e) in
      let g : m ≡ n = cc in
      let t : bytes_eq (decimal m) bs ≡ true = (bytes_eq-Decides (decimal m) bs).1 (ap decimal g ∙ e) in
      absurd (cc (t, differs))

-- ---- integers

magnitude : (z : ℤ) → FitsSigned w64 z → mag z < 2 ^ 63
magnitude (pos n) h = omega (arith, h)
magnitude (negsuc n) h = omega (arith, h)

pub no_signed_text : (bs : List ℕ) → (IsUtf8 bs → ⊥) → (z : ℤ) → FitsSigned w64 z → signed_decimal z ≡ bs → ⊥
no_signed_text bs h z small e = h (subst IsUtf8 e (IsUtf8-from_ascii (signed_decimal z) (IsAscii-signed z (magnitude z small))))

module _ {E : Type 0} (bs text : List ℕ) (r : Result ℤ E) (same : text ≡ bs) (parses : ParsesSigned w64 10 text r) where
  signed_parsed : (z : ℤ) → FitsSigned w64 z → signed_decimal z ≡ bs → r ≡ Ok z
  signed_parsed z small e = parse-signed_decimal w64 z text r small (magnitude z small) (same ∙ sym e) parses

  pub no_integer : None ≡ result_ok r → (z : ℤ) → FitsSigned w64 z → signed_decimal z ≡ bs → ⊥
  no_integer none z small e = let f : None ≡ Some z = none ∙ ap result_ok (signed_parsed z small e) in absurd (cc (f))

  pub no_signed_spelling : (y : ℤ) → Some y ≡ result_ok r → bytes_eq (signed_decimal y) bs ≡ false → (z : ℤ) → FitsSigned w64 z → signed_decimal z ≡ bs → ⊥
  no_signed_spelling y some differs z small e =
      let f : Some y ≡ Some z = some ∙ ap result_ok (signed_parsed z small e) in
      let g : y ≡ z = cc in
      let t : bytes_eq (signed_decimal y) bs ≡ true = (bytes_eq-Decides (signed_decimal y) bs).1 (ap signed_decimal g ∙ e) in
      absurd (cc (t, differs))
