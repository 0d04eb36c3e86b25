use Rattle.std.proofs.Common.{rules}
use Rattle.code_text.proofs.PlaceOwners.{has_query, no_query}
use Rattle.code_text.proofs.owners.query_at.Goals as goal

pub returns-then-number-len : goal.returns-then-number-len
returns-then-number-len c = has_query c.args.parts.now.queries.items c.args.number c.index.result.now (search rules) c.index.ensures

pub returns-else-number-len : goal.returns-else-number-len
returns-else-number-len c = no_query c.args.parts.now.queries.items c.args.number (search rules)
