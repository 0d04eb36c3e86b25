use Rattle.std.proofs.Common.{◌≡◌, ◌<◌, List, ℕ, [], ◌∷◌, ◌++◌, Some, length, sym, ap, ◌∙◌, subst, append_assoc}
use Rattle.std.specs.Prelude.{All}
use Rattle.std.specs.Option.{option_to_list}
use Rattle.std.proofs.lemmas.List.Elements.{All-push, All-pop}
use Rattle.fd_model.specs.Refusals.{functor_of}
use Rattle.term_pool.specs.declared.TermId.{TermId}
use Rattle.term_pool.specs.Terms.{total_size}
use Rattle.term_pool.specs.PlacedTerms.{placed_of}
use Rattle.term_pool.proofs.Lemmas.{rest_is_smaller}
use Rattle.text_warnings.specs.Graphs.{numbers_in}
use Rattle.text_warnings.proofs.BodyCalls.{ahead_calls, both_step, inner_step, goal_step, both_smaller, inner_smaller}
use Rattle.text_warnings.proofs.calls.put_calls.Goals as goal

-- two parts
pub loop-next-smaller-in-Continue-branch-3 : goal.loop-next-smaller-in-Continue-branch-3
loop-next-smaller-in-Continue-branch-3 c =
    let pool = c.args.pool.now in
    let rest = c.pop.new.self.items in
    let t = c.in-Some.next in
    let a = c.in-Both.left in
    let b = c.in-Both.right in
    let new = c.push-in-Both-2.new.self.items in
    let items : new ≡ (rest ++ b ∷ []) ++ a ∷ [] = c.in_ok-push-in-Both-2.ensures.items ∙ ap (λ (l : List TermId). l ++ a ∷ []) c.in_ok-push-in-Both.ensures.items in
    subst (λ (ts : List TermId). total_size pool new < total_size pool ts) (sym c.in-Some.ensures.items)
    (subst (λ (ts : List TermId). total_size pool ts < total_size pool (rest ++ t ∷ [])) (sym items) (both_smaller pool rest t a b c.in-Both.ensures.3))

pub loop-next-preserved-in-Continue-branch-3 : goal.loop-next-preserved-in-Continue-branch-3
loop-next-preserved-in-Continue-branch-3 c =
    let pool = c.args.pool.now in
    let keys = c.args.functors.now.keys in
    let rest = c.pop.new.self.items in
    let t = c.in-Some.next in
    let a = c.in-Both.left in
    let b = c.in-Both.right in
    let new = c.push-in-Both-2.new.self.items in
    let calls = c.loop-next.calls.items in
    let items : new ≡ (rest ++ b ∷ []) ++ a ∷ [] = c.in_ok-push-in-Both-2.ensures.items ∙ ap (λ (l : List TermId). l ++ a ∷ []) c.in_ok-push-in-Both.ensures.items in
    let P : TermId → Type 0 = λ t. t.number < length pool.entries in
    let popped = All-pop P c.loop-next.ahead.items rest (Some t) c.in-Some.ensures.items c.loop-next.invariant.within in
    record {
      within = subst (All P) (sym items) (All-push P (rest ++ b ∷ []) a (All-push P rest b popped.0 c.in-Both.ensures.1) c.in-Both.ensures.0);
      calls = ap (λ (ts : List TermId). calls ++ ahead_calls pool keys ts) items
          ∙ ap (λ (l : List ℕ). calls ++ l) (both_step pool keys rest t a b c.in-Both.ensures.2)
          ∙ ap (λ (ts : List TermId). calls ++ ahead_calls pool keys ts) (sym c.in-Some.ensures.items)
          ∙ c.loop-next.invariant.calls;
    }

-- one part
pub loop-next-smaller-in-Continue-branch-4 : goal.loop-next-smaller-in-Continue-branch-4
loop-next-smaller-in-Continue-branch-4 c =
    let pool = c.args.pool.now in
    let rest = c.pop.new.self.items in
    let t = c.in-Some.next in
    let a = c.in-Inner.inner in
    let new = c.push-in-Inner.new.self.items in
    subst (λ (ts : List TermId). total_size pool new < total_size pool ts) (sym c.in-Some.ensures.items)
    (subst (λ (ts : List TermId). total_size pool ts < total_size pool (rest ++ t ∷ [])) (sym c.in_ok-push-in-Inner.ensures.items) (inner_smaller pool rest t a c.in-Inner.ensures.2))

pub loop-next-preserved-in-Continue-branch-4 : goal.loop-next-preserved-in-Continue-branch-4
loop-next-preserved-in-Continue-branch-4 c =
    let pool = c.args.pool.now in
    let keys = c.args.functors.now.keys in
    let rest = c.pop.new.self.items in
    let t = c.in-Some.next in
    let a = c.in-Inner.inner in
    let calls = c.loop-next.calls.items in
    let P : TermId → Type 0 = λ t. t.number < length pool.entries in
    let popped = All-pop P c.loop-next.ahead.items rest (Some t) c.in-Some.ensures.items c.loop-next.invariant.within in
    record {
      within = subst (All P) (sym c.in_ok-push-in-Inner.ensures.items) (All-push P rest a popped.0 c.in-Inner.ensures.0);
      calls = ap (λ (ts : List TermId). calls ++ ahead_calls pool keys ts) c.in_ok-push-in-Inner.ensures.items
          ∙ ap (λ (l : List ℕ). calls ++ l) (inner_step pool keys rest t a c.in-Inner.ensures.1)
          ∙ ap (λ (ts : List TermId). calls ++ ahead_calls pool keys ts) (sym c.in-Some.ensures.items)
          ∙ c.loop-next.invariant.calls;
    }

-- one goal
pub loop-next-smaller : goal.loop-next-smaller
loop-next-smaller c =
    let pool = c.args.pool.now in
    let rest = c.pop.new.self.items in
    subst (λ (ts : List TermId). total_size pool rest < total_size pool ts) (sym c.in-Some.ensures.items) (rest_is_smaller pool rest c.in-Some.next)

pub loop-next-preserved : goal.loop-next-preserved
loop-next-preserved c =
    let pool = c.args.pool.now in
    let keys = c.args.functors.now.keys in
    let rest = c.pop.new.self.items in
    let t = c.in-Some.next in
    let calls = c.loop-next.calls.items in
    let own = numbers_in pool keys (option_to_list (functor_of (placed_of pool t))) in
    let P : TermId → Type 0 = λ t. t.number < length pool.entries in
    let popped = All-pop P c.loop-next.ahead.items rest (Some t) c.in-Some.ensures.items c.loop-next.invariant.within in
    record {
      within = popped.0;
      calls = ap (λ (l : List ℕ). l ++ ahead_calls pool keys rest) c.in_ok-put_number-in-Goal.ensures
          ∙ append_assoc calls own (ahead_calls pool keys rest)
          ∙ ap (λ (l : List ℕ). calls ++ l) (goal_step pool keys rest t c.in-Goal.ensures)
          ∙ ap (λ (ts : List TermId). calls ++ ahead_calls pool keys ts) (sym c.in-Some.ensures.items)
          ∙ c.loop-next.invariant.calls;
    }
