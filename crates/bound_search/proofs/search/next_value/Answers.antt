use Rattle.std.proofs.Common.{◌≡◌, ℕ, ◌+◌, nat_le, List, ◌∷◌, filter, subst}
use Rattle.std.specs.Prelude.{IfSome}
use Rattle.bound_search.proofs.Numbers.{next_some, next_few}
use Rattle.bound_search.proofs.search.next_value.Goals as goal

pub returns-clause-some : goal.returns-clause-some
returns-clause-some g c =
    subst (λ (xs : List ℕ). IfSome c.next_from.result (λ v. filter (λ k. nat_le c.args.node.from k) xs ≡ v ∷ filter (λ k. nat_le (v + 1) k) xs)) c.domain.ensures
    (next_some c.domain.result.now c.args.node.from c.next_from.result c.next_from.ensures.least c.next_from.ensures.from c.next_from.ensures.member c.next_from.ensures.rising)

pub returns-clause-few : goal.returns-clause-few
returns-clause-few g c = next_few c.domain.result.now c.next_from.result c.next_from.ensures.member c.next_from.ensures.rising
