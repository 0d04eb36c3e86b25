use Rattle.std.proofs.Common.{rules, get_or}
use Rattle.code_flow.specs.Successors.{CoversAt}
use Rattle.code_listing.specs.States.{states_of}
use Rattle.code_flow.proofs.StateEquivalence.{all_step, has_at}
use Rattle.code_flow.proofs.successor_places.hands_all.Goals as goal

pub loop-index-preserved : goal.loop-index-preserved
loop-index-preserved c =
    let i = c.loop-index.index in
    let here : CoversAt (states_of c.args.states.now) c.args.handed.now (get_or c.args.named.now i 0) = search rules in
    all_step c.args.named.now i 0 (search rules) (λ to. CoversAt (states_of c.args.states.now) c.args.handed.now to) c.loop-index.invariant here

pub returns-then-not-hands : goal.returns-then-not-hands
returns-then-not-hands c =
    let i = c.loop-index.index in
    let miss : CoversAt (states_of c.args.states.now) c.args.handed.now (get_or c.args.named.now i 0) → ⊥ = search rules in
    ((λ e. absurd (cc (e))), λ f. absurd (miss (f (get_or c.args.named.now i 0) (has_at c.args.named.now i 0 (search rules)))))
