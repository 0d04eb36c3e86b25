use Rattle.std.proofs.Common.{◌≡◌, ◌<◌, List, [], ◌∷◌, ◌++◌, sym, ap, ◌∙◌, subst, length, map}
use Rattle.std.specs.Prelude.{All}
use Rattle.std.proofs.Common.{Some}
use Rattle.std.proofs.lemmas.List.{map-append}
use Rattle.std.proofs.lemmas.List.Elements.{All-push, All-pop}
use Rattle.term_pool.specs.declared.TermId.{TermId}
use Rattle.term_pool.specs.Terms.{total_size}
use Rattle.term_pool.specs.PlacedTerms.{placed_of}
use Rattle.term_pool.proofs.Lemmas.{rest_is_smaller}
use Rattle.text_warnings.specs.OpenVariables.{outer_goals}
use Rattle.text_warnings.proofs.BodyCalls.{both_smaller}
use Rattle.text_warnings.proofs.Walks.{find_both, find_leaf}
use Rattle.text_warnings.proofs.occurrences.find_goals.Goals as goal

-- two parts
pub loop-next-smaller-in-Continue-branch-3 : goal.loop-next-smaller-in-Continue-branch-3
loop-next-smaller-in-Continue-branch-3 c =
    let pool = c.args.pool.now in
    let rest = c.pop.new.self.items in
    let t = c.in-Some.next in
    let a = c.in-Some-joined_parts.left in
    let b = c.in-Some-joined_parts.right in
    let new = c.push-in-Some-joined_parts-2.new.self.items in
    let items : new ≡ (rest ++ b ∷ []) ++ a ∷ [] = c.in_ok-push-in-Some-joined_parts-2.ensures.items ∙ ap (λ (l : List TermId). l ++ a ∷ []) c.in_ok-push-in-Some-joined_parts.ensures.items in
    subst (λ (ts : List TermId). total_size pool new < total_size pool ts) (sym c.in-Some.ensures.items)
    (subst (λ (ts : List TermId). total_size pool ts < total_size pool (rest ++ t ∷ [])) (sym items) (both_smaller pool rest t a b c.in-Some-joined_parts.ensures.3))

pub loop-next-preserved-in-Continue-branch-3 : goal.loop-next-preserved-in-Continue-branch-3
loop-next-preserved-in-Continue-branch-3 c =
    let pool = c.args.pool.now in
    let rest = c.pop.new.self.items in
    let a = c.in-Some-joined_parts.left in
    let b = c.in-Some-joined_parts.right in
    let new = c.push-in-Some-joined_parts-2.new.self.items in
    let items : new ≡ (rest ++ b ∷ []) ++ a ∷ [] = c.in_ok-push-in-Some-joined_parts-2.ensures.items ∙ ap (λ (l : List TermId). l ++ a ∷ []) c.in_ok-push-in-Some-joined_parts.ensures.items in
    record {
      own = c.loop-next.invariant.own;
      found = find_both pool outer_goals c.args.body (map (placed_of pool) c.loop-next.goals.items) c.loop-next.ahead.items rest new c.in-Some.next a b
          c.in-Some.ensures.items c.in-Some-joined_parts.ensures.0 c.in-Some-joined_parts.ensures.1 c.in-Some-joined_parts.ensures.2 items c.loop-next.invariant.found;
    }

-- one goal
pub loop-next-smaller : goal.loop-next-smaller
loop-next-smaller c =
    let pool = c.args.pool.now in
    let rest = c.pop.new.self.items in
    subst (λ (ts : List TermId). total_size pool rest < total_size pool ts) (sym c.in-Some.ensures.items) (rest_is_smaller pool rest c.in-Some.next)

pub loop-next-preserved : goal.loop-next-preserved
loop-next-preserved c =
    let pool = c.args.pool.now in
    let rest = c.pop.new.self.items in
    let t = c.in-Some.next in
    let now = c.loop-next.goals.items in
    let next = c.push-in-None.new.self.items in
    let P : TermId → Type 0 = λ t. t.number < length pool.entries in
    let popped = All-pop P c.loop-next.ahead.items rest (Some t) c.in-Some.ensures.items c.loop-next.invariant.found.inside in
    record {
      own = subst (All P) (sym c.in_ok-push-in-None.ensures.items) (All-push P now t c.loop-next.invariant.own popped.1);
      found = find_leaf pool outer_goals c.args.body (map (placed_of pool) now) (map (placed_of pool) next) (placed_of pool t ∷ []) c.loop-next.ahead.items rest t
          c.in-Some.ensures.items c.in-None.ensures (ap (map (placed_of pool)) c.in_ok-push-in-None.ensures.items ∙ map-append (placed_of pool) now (t ∷ [])) c.loop-next.invariant.found;
    }
