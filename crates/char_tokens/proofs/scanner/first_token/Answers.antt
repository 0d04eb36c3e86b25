use Rattle.std.proofs.Common.{◌≡◌, ◌∙◌, ℕ, List, sym, ap, subst, arith, length, take, length-drop, refl}
use Rattle.std.proofs.lemmas.Str.{IsCharBoundary-from_drop}
use Rattle.std.specs.Str.{IsUtf8}
use Rattle.fd_language.specs.Tokens.{Gap, ended, front_of}
use Rattle.fd_language.proofs.Lemmas.{gap_grows}
use Rattle.char_tokens.specs.declared.front.Front.{Front}
use Rattle.char_tokens.specs.declared.front.Front.TheVariants as fronts
use Rattle.char_tokens.specs.Views.{front_is, IsBehind}
use Rattle.char_tokens.specs.NextTokens.{no_gap}
use Rattle.char_tokens.proofs.NextTokens.{gaps_tokens, gaps_more}
use Rattle.char_tokens.proofs.scanner.first_token.Goals as goal

-- behind the front
behind_is : (rest behind : List ℕ) (f g : Front) → f ≡ g → IsBehind rest f behind → IsBehind rest g behind
behind_is rest behind f g e h = subst (λ (x : Front). IsBehind rest x behind) e h

pub loop-cause-init : goal.loop-cause-init
loop-cause-init c = record { utf8 = c.utf8.text; within = refl; gaps = no_gap }

pub returns-in-Ends-clause-found : goal.returns-in-Ends-clause-found
returns-in-Ends-clause-found c = gaps_tokens c.loop-cause.invariant.gaps (ended (sym c.front_of-front.ensures.front ∙ ap front_is c.in-Ends.is))

pub returns-in-Offends-clause-fault : goal.returns-in-Offends-clause-fault
returns-in-Offends-clause-fault c = record {
  at = c.loop-cause.place;
  tight = c.loop-cause.tight;
  rest = c.loop-cause.rest.now;
  offset = c.in-Offends.n;
  gaps = c.loop-cause.invariant.gaps;
  front = sym c.front_of-front.ensures.front ∙ ap front_is c.in-Offends.is;
  is = refl;
}

pub range-requires-clause-end_boundary : goal.range-requires-clause-end_boundary
range-requires-clause-end_boundary c =
    let rest = c.loop-cause.rest.now in
    let f = behind_is rest c.front_of-front.result.1.now c.front_of-front.result.0 (fronts.Token c.in-Token.kind c.in-Token.size) c.in-Token.is c.front_of-front.ensures.behind in
    IsCharBoundary-from_drop rest c.in-Token.size f.0 (subst IsUtf8 f.1 c.front_of-front.ensures.text)

pub loop-cause-smaller : goal.loop-cause-smaller
loop-cause-smaller c =
    let rest = c.loop-cause.rest.now in
    let f = behind_is rest c.front_of-front.result.1.now c.front_of-front.result.0 (fronts.Gap c.in-Gap.size) c.in-Gap.is c.front_of-front.ensures.behind in
    let grows = gap_grows rest c.in-Gap.size (sym c.front_of-front.ensures.front ∙ ap front_is c.in-Gap.is) in
    omega (arith, f.0, grows, ap (λ (l : List ℕ). length l) f.1, length-drop c.in-Gap.size rest)

pub loop-cause-preserved : goal.loop-cause-preserved
loop-cause-preserved c =
    let rest = c.loop-cause.rest.now in
    let i = c.loop-cause.invariant in
    let f = behind_is rest c.front_of-front.result.1.now c.front_of-front.result.0 (fronts.Gap c.in-Gap.size) c.in-Gap.is c.front_of-front.ensures.behind in
    let e : front_of rest ≡ Gap c.in-Gap.size = sym c.front_of-front.ensures.front ∙ ap front_is c.in-Gap.is in
    record {
      utf8 = c.front_of-front.ensures.text;
      within = omega (arith, i.within, f.0, ap (λ (l : List ℕ). length l) f.1, length-drop c.in-Gap.size rest);
      gaps = rw f.1 (gaps_more c.in-Gap.size i.gaps e);
    }

pub returns-in-Token-clause-found : goal.returns-in-Token-clause-found
returns-in-Token-clause-found c =
    let rest = c.loop-cause.rest.now in
    let size = c.in-Token.size in
    let f = behind_is rest c.front_of-front.result.1.now c.front_of-front.result.0 (fronts.Token c.in-Token.kind size) c.in-Token.is c.front_of-front.ensures.behind in
    record {
      rest = rest;
      size = size;
      gaps = c.loop-cause.invariant.gaps;
      front = sym c.front_of-front.ensures.front ∙ ap front_is c.in-Token.is;
      within = f.0;
      text = c.range.ensures.value ∙ ap (λ (n : ℕ). take n rest) (omega arith);
      place = omega arith;
      bytes = f.1;
    }

pub returns-in-Token-clause-within : goal.returns-in-Token-clause-within
returns-in-Token-clause-within c =
    let rest = c.loop-cause.rest.now in
    let f = behind_is rest c.front_of-front.result.1.now c.front_of-front.result.0 (fronts.Token c.in-Token.kind c.in-Token.size) c.in-Token.is c.front_of-front.ensures.behind in
    omega (arith, c.loop-cause.invariant.within, f.0, ap (λ (l : List ℕ). length l) f.1, length-drop c.in-Token.size rest)
