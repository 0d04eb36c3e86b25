-- Lines that say what lines are and how many.
use Rattle.std.proofs.Common.{◌≡◌, ℕ, Bool, true, false, ◌||◌, nat_eq, List, [], ◌∷◌, ◌++◌, refl, sym, ap, ◌∙◌, decimal}
use Rattle.std.specs.Str.{bytes_eq}
use Rattle.std.proofs.lemmas.List.{append-nil}
use Rattle.std.proofs.lemmas.Slice.Eq.{bytes_eq-Decides}
use Rattle.listing_reader.specs.NumberBounds.{IsNumber}
use Rattle.listing_reader.specs.Lines.{header}
use Rattle.listing_reader.specs.Reading.{has_byte}
use Rattle.listing_reader.proofs.LineWords.{cut_same}

header_is : (name : List ℕ) (n : ℕ) → header name n ≡ name ++ 32 ∷ decimal n
header_is name n = ap (λ (x : List ℕ). name ++ 32 ∷ x) (append-nil (decimal n))

has_space : (v w : List ℕ) → has_byte 32 (v ++ 32 ∷ w) ≡ true
has_space [] w = refl
has_space (b ∷ v) w = go (nat_eq b 32) (has_space v w)
  where
    go : (t : Bool) → has_byte 32 (v ++ 32 ∷ w) ≡ true → (t || has_byte 32 (v ++ 32 ∷ w)) ≡ true
    go true h = refl
    go false h = h

module _ (name line : List ℕ) where
  -- a line without a space
  pub no_space : has_byte 32 line ≡ false → (n : ℕ) → IsNumber n → ¬ (header name n ≡ line)
  no_space h n f e = let k : true ≡ false = sym (has_space name (decimal n)) ∙ ap (has_byte 32) (sym (header_is name n) ∙ e) ∙ h in cc

  module _ (plain : has_byte 32 name ≡ false) (word digits : List ℕ) (cut : (line ≡ word ++ 32 ∷ digits) × (has_byte 32 word ≡ false)) where
    parts : (n : ℕ) → header name n ≡ line → (name ≡ word) × (decimal n ≡ digits)
    parts n e = cut_same 32 name (decimal n) word digits plain cut.1 (sym (header_is name n) ∙ e ∙ cut.0)

    -- another word
    pub other_word : bytes_eq word name ≡ false → (n : ℕ) → IsNumber n → ¬ (header name n ≡ line)
    other_word h n f e = let k : true ≡ false = sym ((bytes_eq-Decides word name).1 (sym (parts n e).0)) ∙ h in cc

    -- no number behind it
    pub no_digits : ((n : ℕ) → IsNumber n → ¬ (decimal n ≡ digits)) → (n : ℕ) → IsNumber n → ¬ (header name n ≡ line)
    no_digits h n f e = h n f (parts n e).1

    pub whole_header : bytes_eq word name ≡ true → (n : ℕ) → decimal n ≡ digits → header name n ≡ line
    whole_header h n e = header_is name n ∙ ap (λ (x : List ℕ). name ++ 32 ∷ x) e ∙ ap (λ (x : List ℕ). x ++ 32 ∷ digits) (sym ((bytes_eq-Decides word name).0 h)) ∙ sym cut.0
