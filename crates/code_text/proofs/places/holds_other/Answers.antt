use Rattle.std.proofs.Common.{rules, ◌<◌, refl, length}
use Rattle.std.proofs.lemmas.Option.{slice_get_read}
use Rattle.wam_code.specs.Area.{Holds, area_of}
use Rattle.wam_code.specs.VerifiedCode.{is_other}
use Rattle.code_text.proofs.PlaceConditions.{holds_by, holds_past}
use Rattle.code_text.proofs.places.holds_other.Goals as goal

pub returns-then-at-len : goal.returns-then-at-len
returns-then-at-len c =
    let a = area_of c.args.parts.now in
    let at = c.args.at in
    let i = c.index.result.now in
    let low : at < length a.code = search rules in
    let h : Holds a at i = slice_get_read a.code (length a.code) at i refl low c.index.ensures in
    holds_by a at i is_other c.is_other.result h c.is_other.ensures

pub returns-else-at-len : goal.returns-else-at-len
returns-else-at-len c = holds_past (area_of c.args.parts.now) c.args.at is_other (search rules)
