-- Ends of texts, tests of their characters, and what a word of letters begins with.
use Rattle.std.proofs.Common.{◌≡◌, ◌∙◌, ℕ, zero, suc, ◌<◌, ◌+◌, List, [], ◌∷◌, length, drop, get_or, Bool, true, false, Some, refl, sym, ap, arith}
use Rattle.std.specs.Prelude.{◌==◌, ◌&&◌, ◌||◌, ◌-◌, not, slice_get}
use Rattle.std.specs.Char.{is_ascii_uppercase}
use Rattle.std.specs.List.{list_all}
use Rattle.std.proofs.lemmas.Bool.{true≢false, eqb-true}
use Rattle.std.proofs.lemmas.List.{at_drop_more}
use Rattle.unicode_ident.specs.Ident.{is_xid_start}
use Rattle.unicode_ident.proofs.IdentLemmas.{is_xid_start-ascii}
use Rattle.fd_language.specs.Characters.{is_symbol, begins_variable}
use Rattle.fd_language.specs.TermTexts.{ends_with_symbol}

ends_at : (xs : List ℕ) (n y : ℕ) → length xs ≡ suc n → slice_get xs n ≡ Some y → is_symbol y ≡ ends_with_symbol xs
ends_at [] n y e h = absurd cc
ends_at (x ∷ []) zero y e h = ap is_symbol (let s : y ≡ x = cc in s)
ends_at (x ∷ []) (suc n) y e h = absurd (omega arith)
ends_at (x ∷ w ∷ xs) zero y e h = absurd (omega arith)
ends_at (x ∷ w ∷ xs) (suc n) y e h = ends_at (w ∷ xs) n y (omega arith) h

pub ends_last : (xs : List ℕ) (y : ℕ) → Some y ≡ slice_get xs (length xs - 1) → is_symbol y ≡ ends_with_symbol xs
ends_last [] y h = absurd cc
ends_last (x ∷ xs) y h = ends_at (x ∷ xs) (length (x ∷ xs) - 1) y (omega arith) (sym h)

pub all_here : (p : ℕ → Bool) (cs : List ℕ) (n c : ℕ) → (n < length cs) × (c ≡ get_or cs n c) → list_all p (drop n cs) ≡ (p c && list_all p (drop (n + 1) cs))
all_here p cs n c h = at_drop_more (list_all p) cs n c h.0 ∙ ap (λ (x : ℕ). p x && list_all p (drop (n + 1) cs)) (sym h.1)

apart : (line capital letter : Bool) → (line ≡ true → letter ≡ false) → (not (line || capital) && letter) ≡ (letter && not capital)
apart true capital true k = absurd (true≢false (k refl))
apart true capital false k = refl
apart false true true k = refl
apart false true false k = refl
apart false false true k = refl
apart false false false k = refl

-- a letter that begins no variable is one that is no capital of A to Z, since `_` is no letter
pub word_begins : (c : ℕ) → (not (begins_variable c) && is_xid_start c) ≡ (is_xid_start c && not (is_ascii_uppercase c))
unfolding begins_variable
word_begins c = apart (c == 95) (is_ascii_uppercase c) (is_xid_start c) (λ e. ap is_xid_start (eqb-true c 95 e) ∙ is_xid_start-ascii 95 (omega arith))
