use Rattle.std.proofs.Common.{◌++◌, ◌∙◌, ap, append_assoc}
use Rattle.wam_code.specs.Area.{area_of}
use Rattle.wam_code.specs.VerifiedCode.{arms}
use Rattle.code_flow.specs.Successors.{direct}
use Rattle.code_listing.specs.Listing.{table_of}
use Rattle.code_flow.proofs.Successors.{named_is}
use Rattle.code_flow.proofs.successor_places.put_named.Goals as goal

pub returns : goal.returns
returns c =
    let a = area_of c.args.parts.now in
    let i = c.args.code in
    let old = c.args.named.now.items in
    c.in_ok-put_arms.ensures ∙ ap (λ l. c.put_direct.new.named.items ++ arms l) c.rows_of.ensures
    ∙ ap (λ l. l ++ arms (table_of a.tables i)) c.in_ok-put_direct.ensures ∙ append_assoc old (direct i) (arms (table_of a.tables i))
    ∙ ap (λ l. old ++ l) (named_is a i)
