use Rattle.std.proofs.Common.{◌∙◌, ◌++◌, ℕ, List, ap, arith}
use Rattle.std.specs.Str.{chars, encode_utf8_all}
use Rattle.std.specs.String.{string_bytes}
use Rattle.std.proofs.lemmas.Str.{len_utf8_bounds}
use Rattle.fd_language.specs.Tokens.{Between, Past, Broken, quoted_spells, unquoted}
use Rattle.char_tokens.specs.Views.{inside_of, cause_of}
use Rattle.char_tokens.proofs.Runs.{shorter}
use Rattle.char_tokens.proofs.QuotedAtoms.{spells_end}
use Rattle.fd_language.proofs.Lemmas.{spells_past, spells_broken}
use Rattle.char_tokens.proofs.quotation.unquote.Goals as goal

pub loop-c-init : goal.loop-c-init
unfolding unquoted
loop-c-init c = record {
  utf8 = c.behind_first-rest.ensures.text;
  held = tt;
  same = ap (λ (l : List ℕ). l ++ encode_utf8_all (quoted_spells Between (chars c.behind_first-rest.result.now))) c.new-spelling.ensures.bytes
      ∙ ap (λ (cs : List ℕ). encode_utf8_all (quoted_spells Between cs)) c.behind_first-rest.ensures.characters;
}

pub loop-c-smaller : goal.loop-c-smaller
loop-c-smaller c = omega (arith, shorter c.loop-c.rest.now c.in-Some.behind.now c.in-Some.c c.in-Some.ensures.split.1, (len_utf8_bounds c.in-Some.c).0)

pub returns-in-Ends : goal.returns-in-Ends
returns-in-Ends c =
    spells_end (string_bytes c.loop-c.spelling) (string_bytes c.append.new.text) (unquoted c.args.text.now) (inside_of c.loop-c.place) (Past 0) c.in-Some.c
    (chars c.in-Some.behind.now) (chars c.loop-c.rest.now)
    (c.in_ok-append.ensures ∙ ap (λ (cs : List ℕ). string_bytes c.loop-c.spelling ++ encode_utf8_all cs) c.spelled.ensures) c.in-Ends.ensures.step c.in-Some.ensures.characters
    (spells_past 0 (chars c.in-Some.behind.now)) c.loop-c.invariant.same

pub returns-in-Offends : goal.returns-in-Offends
returns-in-Offends c =
    let broken = Broken (cause_of c.in-Offends.field-0) c.in-Offends.field-1 in
    spells_end (string_bytes c.loop-c.spelling) (string_bytes c.append.new.text) (unquoted c.args.text.now) (inside_of c.loop-c.place) broken c.in-Some.c
    (chars c.in-Some.behind.now) (chars c.loop-c.rest.now)
    (c.in_ok-append.ensures ∙ ap (λ (cs : List ℕ). string_bytes c.loop-c.spelling ++ encode_utf8_all cs) c.spelled.ensures) c.in-Offends.ensures.step c.in-Some.ensures.characters
    (spells_broken (cause_of c.in-Offends.field-0) c.in-Offends.field-1 (chars c.in-Some.behind.now)) c.loop-c.invariant.same
