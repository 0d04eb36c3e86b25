use Rattle.std.proofs.Common.{rules, None, sym}
use Rattle.std.proofs.lemmas.List.{get_or_read, get_or_past}
use Rattle.code_text.proofs.owners.owner_at.Goals as goal

pub returns-then-place-owners : goal.returns-then-place-owners
returns-then-place-owners c = get_or_read c.args.owners.now c.args.place _ (search rules) (search rules) None

pub returns-else-place-owners : goal.returns-else-place-owners
returns-else-place-owners c = sym (get_or_past c.args.owners.now c.args.place None (search rules))
