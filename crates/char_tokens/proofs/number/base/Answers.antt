use Rattle.std.proofs.Common.{◌≡◌, ◌∙◌, ◌++◌, ℕ, List, drop, sym, ap, subst}
use Rattle.std.specs.Str.{chars, IsUtf8}
use Rattle.std.proofs.lemmas.Str.{encode_ascii}
use Rattle.fd_language.specs.Characters.{starts_with_digit_of, tail}
use Rattle.fd_language.specs.Tokens as model
use Rattle.char_tokens.proofs.Runs.{first_is}
use Rattle.char_tokens.proofs.number.base.Goals as goal

pub returns-then-starts_with_digit : goal.returns-then-starts_with_digit
returns-then-starts_with_digit c =
    let text = c.args.text.now in
    let behind = c.in_ok-letter.behind.now in
    let split = c.in_ok-letter.ensures.split.1 in
    let characters = c.in_ok-letter.ensures.characters in
    let b = c.in_ok-base.ensures in
    let first = first_is c.in_ok-letter.letter text behind b.3 c.utf8.text split in
    let rest : behind ≡ drop 1 text = sym (ap (drop 1) (split ∙ ap (λ (l : List ℕ). l ++ behind) (encode_ascii c.in_ok-letter.letter b.3))) in
    record {
      has_base = ap model.has_base characters ∙ ap (λ (n : ℕ). starts_with_digit_of n (chars behind)) b.0 ∙ sym c.starts_with_digit.ensures ∙ c.if-starts_with_digit.true;
      base_at = ap model.base_at characters ∙ b.0;
      low = b.1;
      high = b.2;
      behind = rest;
      within = first.within;
      digits = ap tail characters;
      utf8 = subst IsUtf8 (sym rest) first.utf8;
    }

pub returns-else-starts_with_digit : goal.returns-else-starts_with_digit
returns-else-starts_with_digit c =
    ap model.has_base c.in_ok-letter.ensures.characters
    ∙ ap (λ (n : ℕ). starts_with_digit_of n (chars c.in_ok-letter.behind.now)) c.in_ok-base.ensures.0
    ∙ sym c.starts_with_digit.ensures ∙ c.if-starts_with_digit.false
