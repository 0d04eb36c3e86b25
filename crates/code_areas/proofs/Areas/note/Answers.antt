use Rattle.std.proofs.Common.{◌≡◌, length, reverse, arith, ap, sym, ◌∙◌}
use Rattle.std.proofs.lemmas.List.{length-reverse}
use Rattle.code_areas.specs.Areas.{Contents}
use Rattle.code_areas.proofs.PointCount.{count}
use Rattle.code_areas.proofs.Areas.note.Goals as goal

pub returns : goal.returns
returns c =
    let a = c.self.inside in
    let n : c.len-self-inside.result ≡ length a.marks.items = omega (arith, c.len-self-inside.ensures, a.marks.ok.0) in
    let all : c.len-self-inside.result ≡ length c.args.self.now.points = n ∙ sym (length-reverse a.marks.items)
    ∙ sym (count (reverse a.marks.items) a.saved.items a.slots.items a.frames.items) ∙ ap (λ (k : Contents). length k.points) c.self.view_is in
    ap (λ (k : Contents). record k { noted = c.len-self-inside.result }) c.self.view_is ∙ ap (λ i. record c.args.self.now { noted = i }) all
