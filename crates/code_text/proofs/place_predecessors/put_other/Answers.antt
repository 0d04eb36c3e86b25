use Rattle.std.proofs.Common.{rules, ◌∙◌, ◌<◌, ap, refl, sym, length}
use Rattle.std.proofs.lemmas.List.{get_or_read}
use Rattle.code_text.specs.declared.place_predecessors.Namers.TheVariants.{Nobody}
use Rattle.std.proofs.lemmas.Option.{slice_get_read}
use Rattle.wam_code.specs.Area.{Holds, area_of}
use Rattle.code_text.specs.Predecessors.{namers_at, with_one}
use Rattle.code_text.proofs.Predecessors.{namers_none, namers_set, namers_past}
use Rattle.code_text.proofs.place_predecessors.put_other.Goals as goal

pub returns-in-None : goal.returns-in-None
returns-in-None c =
    let a = area_of c.args.parts.now in
    let at = c.args.at in
    let i = c.index.result.now in
    let h : Holds a at i = slice_get_read a.code (length a.code) at i refl c.requires c.index.ensures in
    λ p l f. namers_none a at i h p (namers_at c.args.namers.now p) (sym c.other_of.ensures ∙ c.in-None.is) f

pub returns-then-to-namers : goal.returns-then-to-namers
returns-then-to-namers c =
    let a = area_of c.args.parts.now in
    let at = c.args.at in
    let i = c.index.result.now in
    let ns = c.args.namers.now in
    let to = c.in-Some.to in
    let h : Holds a at i = slice_get_read a.code (length a.code) at i refl c.requires c.index.ensures in
    let low : to < length ns = search rules in
    λ p l f. namers_set a at i h ns _ to p c.one_more.result (sym c.other_of.ensures ∙ c.in-Some.is) low
    (c.one_more.ensures ∙ ap with_one (get_or_read ns to _ low (search rules) Nobody)) (search rules) f

pub returns-else-to-namers : goal.returns-else-to-namers
returns-else-to-namers c =
    let a = area_of c.args.parts.now in
    let at = c.args.at in
    let i = c.index.result.now in
    let h : Holds a at i = slice_get_read a.code (length a.code) at i refl c.requires c.index.ensures in
    λ p l f. namers_past a at i h c.args.namers.now c.in-Some.to p (namers_at c.args.namers.now p) (sym c.other_of.ensures ∙ c.in-Some.is) (search rules) l f
