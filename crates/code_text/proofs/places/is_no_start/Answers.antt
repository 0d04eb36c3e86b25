use Rattle.std.proofs.Common.{◌∙◌}
use Rattle.wam_code.specs.Area.{area_of}
use Rattle.code_text.proofs.Predecessors.{no_start_is}
use Rattle.range_code.proofs.Lemmas.{any_has}
use Rattle.code_text.proofs.places.is_no_start.Goals as goal

pub returns : goal.returns
returns c =
    let keys = c.args.reach.now.starts.keys in
    no_start_is (area_of c.args.parts.now) keys c.args.at c.contains.result (c.contains.ensures ∙ any_has keys c.args.at) (c.requires.starts c.args.at)
