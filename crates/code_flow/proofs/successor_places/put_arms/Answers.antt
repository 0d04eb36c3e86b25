use Rattle.std.proofs.Common.{rules}
use Rattle.code_listing.proofs.Lemmas.{letters_step}
use Rattle.code_flow.proofs.successor_places.put_arms.Goals as goal

pub loop-index-preserved : goal.loop-index-preserved
loop-index-preserved c = letters_step (λ row. row.1) c.args.rows.now c.loop-index.index _ c.args.named.now.items c.loop-index.named.items
    c.put_place.new.named.items (search rules) c.loop-index.invariant c.in_ok-put_place.ensures
