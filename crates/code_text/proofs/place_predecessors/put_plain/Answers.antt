use Rattle.std.proofs.Common.{◌∙◌, refl, sym, length}
use Rattle.std.proofs.lemmas.Option.{slice_get_read}
use Rattle.wam_code.specs.Area.{Holds, area_of}
use Rattle.code_text.proofs.Predecessors.{plain_put, plain_keep}
use Rattle.code_text.proofs.place_predecessors.put_plain.Goals as goal

pub returns-in_ok-put_named-in-None : goal.returns-in_ok-put_named-in-None
returns-in_ok-put_named-in-None c =
    let a = area_of c.args.parts.now in
    let at = c.args.at in
    let i = c.index-code.result.now in
    let h : Holds a at i = slice_get_read a.code (length a.code) at i refl c.requires c.index-code.ensures in
    λ p f. plain_put a at i h c.args.named.now.items c.put_named.new.named.items p (sym c.other_of.ensures ∙ c.in-None.is) c.in_ok-put_named-in-None.ensures f

pub returns-in-Some : goal.returns-in-Some
returns-in-Some c =
    let a = area_of c.args.parts.now in
    let at = c.args.at in
    let i = c.index-code.result.now in
    let h : Holds a at i = slice_get_read a.code (length a.code) at i refl c.requires c.index-code.ensures in
    λ p f. plain_keep a at i h c.args.named.now.items c.in-Some.field-0 p (sym c.other_of.ensures ∙ c.in-Some.is) f
