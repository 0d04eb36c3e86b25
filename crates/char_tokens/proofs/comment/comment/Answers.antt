use Rattle.std.proofs.Common.{◌≡◌, ◌∙◌, ◌+◌, ℕ, List, true, false, sym, ap, subst, arith, drop}
use Rattle.std.specs.Prelude.{◌==◌, ◌&&◌}
use Rattle.std.specs.Char.{len_utf8}
use Rattle.std.specs.Str.{chars, IsUtf8}
use Rattle.std.proofs.lemmas.Bool.{and_parts, eqb-true}
use Rattle.std.proofs.lemmas.Str.{IsCharBoundary-from_drop}
use Rattle.fd_language.specs.Characters.{starts_with, tail}
use Rattle.fd_language.specs.Tokens.{comment_front}
use Rattle.char_tokens.proofs.Runs.{IsAt, at_next, starts_ascii, at_ascii, at_first, comment_on}
use Rattle.char_tokens.proofs.comment.comment.Goals as goal

pub range_from-rest-requires : goal.range_from-rest-requires
range_from-rest-requires c =
    let first = starts_ascii 42 c.args.behind.now (omega arith) c.utf8.behind c.requires.star in
    λ _. IsCharBoundary-from_drop c.args.behind.now 1 first.within first.utf8

pub loop-c-init : goal.loop-c-init
loop-c-init c =
    let first = starts_ascii 42 c.args.behind.now (omega arith) c.utf8.behind c.requires.star in
    let rest : c.range_from-rest.result.now ≡ drop 1 c.args.behind.now = c.range_from-rest.ensures.value in
    let at : IsAt c.args.text.now 2 (drop 1 c.args.behind.now) = at_ascii c.args.text.now c.args.behind.now 1 42 (omega arith)
    (at_first c.args.text.now c.args.behind.now 47 c.requires.slash c.utf8.behind) first in
    record {
      utf8 = subst IsUtf8 (sym rest) first.utf8;
      at = subst (λ (l : List ℕ). IsAt c.args.text.now 2 l) (sym rest) at;
      same = ap (λ (l : List ℕ). comment_front 2 l) (ap (λ (l : List ℕ). chars l) rest ∙ sym (ap (λ (l : List ℕ). tail l) first.characters));
    }

pub range_from-requires : goal.range_from-requires
range_from-requires c =
    let parts : ((c.in-Some.c == 42) ≡ true) × (starts_with 47 (chars c.in-Some.later.now) ≡ true) = and_parts _ _ (sym c.closes.ensures ∙ c.if-closes.true) in
    let behind = at_next c.args.text.now c.loop-c.rest.now c.in-Some.later.now c.loop-c.size c.in-Some.c c.loop-c.invariant.at c.in-Some.ensures.split.1 in
    let first = starts_ascii 47 c.in-Some.later.now (omega arith) behind.utf8 parts.1 in
    λ _. IsCharBoundary-from_drop c.in-Some.later.now 1 first.within first.utf8

pub returns-then-closes-clause-behind : goal.returns-then-closes-clause-behind
returns-then-closes-clause-behind c =
    let text = c.args.text.now in
    let parts : ((c.in-Some.c == 42) ≡ true) × (starts_with 47 (chars c.in-Some.later.now) ≡ true) = and_parts _ _ (sym c.closes.ensures ∙ c.if-closes.true) in
    let star : c.in-Some.c ≡ 42 = eqb-true c.in-Some.c 42 parts.0 in
    let behind : IsAt text (c.loop-c.size + len_utf8 c.in-Some.c) c.in-Some.later.now =
    at_next text c.loop-c.rest.now c.in-Some.later.now c.loop-c.size c.in-Some.c c.loop-c.invariant.at c.in-Some.ensures.split.1 in
    let one : IsAt text (c.loop-c.size + 1) c.in-Some.later.now = subst (λ (d : ℕ). IsAt text (c.loop-c.size + len_utf8 d) c.in-Some.later.now) star behind in
    let first = starts_ascii 47 c.in-Some.later.now (omega arith) one.utf8 parts.1 in
    let two : IsAt text (c.loop-c.size + 1 + 1) (drop 1 c.in-Some.later.now) = at_ascii text c.in-Some.later.now (c.loop-c.size + 1) 47 (omega arith) one first in
    let sizes : c.loop-c.size + 1 + 1 ≡ c.loop-c.size + 2 = omega arith in
    (omega (arith, two.within), c.range_from.ensures.value ∙ two.rest_is ∙ ap (λ (n : ℕ). drop n text) sizes)

pub loop-c-preserved : goal.loop-c-preserved
loop-c-preserved c =
    let text = c.args.text.now in
    let i = c.loop-c.invariant in
    let more : (c.in-Some.c == 42 && starts_with 47 (chars c.in-Some.later.now)) ≡ false = sym c.closes.ensures ∙ c.if-closes.false in
    let n : c.len_utf8-size.result ≡ len_utf8 c.in-Some.c = c.len_utf8-size.ensures.value in
    let next = at_next text c.loop-c.rest.now c.in-Some.later.now c.loop-c.size c.in-Some.c i.at c.in-Some.ensures.split.1 in
    record {
      utf8 = next.utf8;
      at = subst (λ (m : ℕ). IsAt text (c.loop-c.size + m) c.in-Some.later.now) (sym n) next;
      same = ap (λ (m : ℕ). comment_front (c.loop-c.size + m) (chars c.in-Some.later.now)) n
          ∙ sym (comment_on c.loop-c.size c.in-Some.c (chars c.in-Some.later.now) (chars c.loop-c.rest.now) c.in-Some.ensures.characters more) ∙ i.same;
    }
