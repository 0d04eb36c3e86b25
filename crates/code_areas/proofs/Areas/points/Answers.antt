use Rattle.std.proofs.Common.{length, reverse, arith, ap, sym, ◌∙◌}
use Rattle.std.proofs.lemmas.List.{length-reverse}
use Rattle.code_areas.specs.Areas.{Contents}
use Rattle.code_areas.proofs.PointCount.{count}
use Rattle.code_areas.proofs.Areas.points.Goals as goal

pub returns : goal.returns
returns c =
    let a = c.self.inside in
    omega (arith, c.len.ensures, a.marks.ok.0) ∙ sym (length-reverse a.marks.items)
    ∙ sym (count (reverse a.marks.items) a.saved.items a.slots.items a.frames.items) ∙ ap (λ (k : Contents). length k.points) c.self.view_is
