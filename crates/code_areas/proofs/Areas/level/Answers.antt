use Rattle.std.proofs.Common.{◌+◌, ap, sym, ◌∙◌, subst}
use Rattle.code_areas.specs.Areas.{Places, Contents, level_at, IsLevelSet}
use Rattle.code_areas.proofs.RegisterCells.{level_behind}
use Rattle.code_areas.proofs.Areas.level.Goals as goal

pub set_level_of-requires : goal.set_level_of-requires
set_level_of-requires c =
    let a = c.self.inside in
    let same = ap (λ (k : Contents). k.slots) c.self.view_is in
    let there = subst (λ (x : Places). IsLevelSet x c.args.n) (sym same) c.requires in
    (there.0, ap (λ (x : Places). level_at x (a.base + c.args.n)) c.deref.ensures.value ∙ level_behind a.slots.items a.base a.size c.args.n there.0 there.1)

pub returns : goal.returns
returns c =
    let a = c.self.inside in
    let same = ap (λ (k : Contents). k.slots) c.self.view_is in
    let there = subst (λ (x : Places). IsLevelSet x c.args.n) (sym same) c.requires in
    ap (λ (x : Places). level_at x c.args.n) (sym same) ∙ there.1 ∙ sym (level_behind a.slots.items a.base a.size c.args.n there.0 there.1)
    ∙ sym (ap (λ (x : Places). level_at x (a.base + c.args.n)) c.deref.ensures.value) ∙ c.set_level_of.ensures
