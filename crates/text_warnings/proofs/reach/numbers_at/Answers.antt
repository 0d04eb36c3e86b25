use Rattle.std.proofs.Common.{[], sym, ap, ◌∙◌}
use Rattle.std.proofs.lemmas.List.{get_or-map}
use Rattle.text_warnings.specs.Graphs.{items_of}
use Rattle.text_warnings.proofs.reach.numbers_at.Goals as goal

pub returns : goal.returns
returns c =
    c.as_slice.ensures.value ∙ ap items_of c.index-edges-number.is ∙ sym (get_or-map items_of c.args.edges.now c.args.number c.index-edges-number.result [] c.requires)
