-- How texts begin and end, by whether with a symbol character.
use Rattle.std.proofs.Common.{◌≡◌, ◌∙◌, ℕ, ◌<◌, inl, inr, List, [], ◌∷◌, ◌++◌, Bool, true, false, cond, refl, sym, ap, arith, append_assoc}
use Rattle.std.specs.Prelude.{IsUtf8, codes, ◌||◌, ◌&&◌, not}
use Rattle.std.specs.Str.{bytes_eq, chars}
use Rattle.std.proofs.lemmas.Bool.{true≢false, cases_Bool, false_from_ne_true}
use Rattle.std.proofs.lemmas.Str.{chars-append, chars-encodes, byte_from_char, char_from_byte}
use lib.Utf8.{encode, encodes, scalars}
use Rattle.fd_language.specs.Term.{Name}
use Rattle.fd_language.specs.Characters.{is_symbol}
use Rattle.fd_language.specs.Operators.{infix_of, prefix_of, is_operator}
use Rattle.fd_language.specs.TermTexts as writing
use Rattle.fd_language.specs.TermTexts.{is_empty_name, is_bare, quoted_name, starts_with_symbol, ends_with_symbol, atom_text, functor_text}
use Rattle.term_writer.proofs.Classes.{symbol_low}
use Rattle.term_writer.proofs.Joins.{ends-append}
use Rattle.term_writer.proofs.TextTokens.{chars_ascii}

-- The text is not empty, and its first character is a symbol where its first byte is one.
pub record Begins (w : List ℕ) : Type 0 where
  pub some : is_empty_name w ≡ false
  pub first : (r : List ℕ) → starts_with_symbol (chars (w ++ r)) ≡ starts_with_symbol w

pub starts_before : (w r : List ℕ) → is_empty_name w ≡ false → starts_with_symbol (w ++ r) ≡ starts_with_symbol w
starts_before [] r h = absurd (true≢false h)
starts_before (c ∷ cs) r h = refl

some_before : (w r : List ℕ) → is_empty_name w ≡ false → is_empty_name (w ++ r) ≡ false
some_before [] r h = absurd (true≢false h)
some_before (c ∷ cs) r h = refl

pub some_behind : (w r : List ℕ) → is_empty_name r ≡ false → is_empty_name (w ++ r) ≡ false
some_behind [] r h = h
some_behind (c ∷ cs) r h = refl

pub ends_behind : (w r : List ℕ) → is_empty_name r ≡ false → ends_with_symbol (w ++ r) ≡ ends_with_symbol r
ends_behind w [] h = absurd (true≢false h)
ends_behind w (c ∷ cs) h = ends-append w c cs

pub begins_before : (w v : List ℕ) → Begins w → Begins (w ++ v)
begins_before w v b = record {
  some = some_before w v b.some;
  first = λ r. ap (λ (x : List ℕ). starts_with_symbol (chars x)) (append_assoc w v r) ∙ b.first (v ++ r) ∙ sym (starts_before w v b.some);
}

pub begins_ascii : (c : ℕ) (w : List ℕ) → c < 128 → Begins (c ∷ w)
begins_ascii c w h = record { some = refl; first = λ r. ap starts_with_symbol (chars_ascii c (w ++ r) h) }

same_symbol : (b c : ℕ) → (b < 128 → c ≡ b) → (c < 128 → b ≡ c) → is_symbol c ≡ is_symbol b
same_symbol b c h k = elim (cases_Bool (is_symbol b)) [
  | inl e ↦ ap is_symbol (h (symbol_low b e))
  | inr e ↦ false_from_ne_true (is_symbol c) (λ d. true≢false (sym d ∙ ap is_symbol (sym (k (symbol_low c d))) ∙ e)) ∙ sym e
]

first_byte : (w rest : List ℕ) (c : ℕ) → w ≡ encode c ++ rest → is_empty_name w ≡ false → is_symbol c ≡ starts_with_symbol w
first_byte [] rest c e h = absurd (true≢false h)
first_byte (b ∷ bs) rest c e h = same_symbol b c (λ l. char_from_byte (b ∷ bs) rest c e l (omega arith)) (λ l. byte_from_char (b ∷ bs) rest c e l)

pub begins_utf8 : (w : List ℕ) → IsUtf8 w → is_empty_name w ≡ false → Begins w
begins_utf8 w u h = go u.0 u.1.0 u.1.1
  where
    go : (cs : List ℕ) → scalars cs ≡ true → encodes cs ≡ w → Begins w
    go [] s e = absurd (true≢false (ap is_empty_name e ∙ h))
    go (c ∷ cs) s e = record {
      some = h;
      first = λ r.
          (let whole : chars (w ++ r) ≡ c ∷ (cs ++ chars r) = chars-append w r u ∙ ap (λ (x : List ℕ). x ++ chars r) (ap chars (sym e) ∙ chars-encodes (c ∷ cs) s) in
          ap starts_with_symbol whole ∙ first_byte w (encodes cs) c (sym e) h);
    }

-- ---- names

empty_not_bare : is_bare [] ≡ false
unfolding chars
empty_not_bare = refl

empty_no_functor : (is_bare [] || (is_operator [] && not (bytes_eq [] (codes ",")))) ≡ false
unfolding chars is_operator infix_of prefix_of
empty_no_functor = refl

pub some_name : (test : Name → Bool) (a : Name) → test [] ≡ false → test a ≡ true → is_empty_name a ≡ false
some_name test [] e h = absurd (true≢false (sym h ∙ e))
some_name test (c ∷ cs) e h = refl

name_begins : (test : Name → Bool) (a : Name) → IsUtf8 a → test [] ≡ false → Begins (cond (test a) a (quoted_name a))
name_begins test a u e = go (test a) refl
  where
    go : (b : Bool) → test a ≡ b → Begins (cond b a (quoted_name a))
    go true h = begins_utf8 a u (some_name test a e h)
    go false h = begins_ascii 39 (writing.quoted_bytes a ++ codes "'") (omega arith)

pub atom_begins : (a : Name) → IsUtf8 a → Begins (atom_text writing.Quoted a)
atom_begins a u = name_begins is_bare a u empty_not_bare

pub functor_begins : (f : Name) → IsUtf8 f → Begins (functor_text writing.Quoted f)
functor_begins f u = name_begins (λ x. is_bare x || (is_operator x && not (bytes_eq x (codes ",")))) f u empty_no_functor
