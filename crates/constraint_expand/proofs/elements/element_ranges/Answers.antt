use Rattle.std.proofs.Common.{◌^◌, ◌<◌, length, rules}
use Rattle.constraint_expand.proofs.Widths.{element_accepted}
use Rattle.constraint_expand.proofs.elements.element_ranges.Goals as goal

pub post_union-requires : goal.post_union-requires
post_union-requires c =
    let zs = c.args.elements.now in
    let short : length zs < 2 ^ 64 = search rules in
    ((element_accepted c.args.index zs c.args.value c.requires short).0, tt)

pub post_union-requires-2 : goal.post_union-requires-2
post_union-requires-2 c =
    let zs = c.args.elements.now in
    let short : length zs < 2 ^ 64 = search rules in
    (element_accepted c.args.index zs c.args.value c.requires short).1
