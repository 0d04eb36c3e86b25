use Rattle.std.proofs.Common.{rules, sym}
use Rattle.std.proofs.lemmas.List.{get_or_past}
use Rattle.code_text.specs.declared.place_predecessors.Namers.TheVariants.{Nobody}
use Rattle.code_text.proofs.places.namers_of.Goals as goal

pub returns-else-at-len : goal.returns-else-at-len
returns-else-at-len c = sym (get_or_past c.args.reach.now.namers.items c.args.at Nobody (search rules))
