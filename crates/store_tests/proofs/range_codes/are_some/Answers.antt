use Rattle.store_tests.proofs.Domains.{all_some}
use Rattle.store_tests.proofs.range_codes.are_some.Goals as goal

pub returns-clause-some : goal.returns-clause-some
returns-clause-some c = λ _ k. (all_some c.args.domains.now c.loop-domain.domain-index c.loop-domain-test.false c.loop-domain.invariant k).0

pub returns-clause-family : goal.returns-clause-family
returns-clause-family c = λ _. record { rising = λ k. (all_some c.args.domains.now c.loop-domain.domain-index c.loop-domain-test.false c.loop-domain.invariant k).1 }
