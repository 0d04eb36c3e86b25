use Rattle.std.proofs.Common.{◌∙◌, ◌+◌}
use Rattle.range_code.proofs.Lemmas.{any_has}
use Rattle.wam_code.specs.Area.{area_of}
use Rattle.code_text.proofs.PlaceConditions.{last_is}
use Rattle.code_text.proofs.places.is_last.Goals as goal

pub returns : goal.returns
returns c =
    let keys = c.args.reach.now.ends.keys in
    last_is (area_of c.args.parts.now) keys c.args.at c.contains.result (c.contains.ensures ∙ any_has keys (c.args.at + 1)) (c.requires.reach.lasts c.args.at)
