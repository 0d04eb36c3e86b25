use Rattle.std.proofs.Common.{ap, sym, ◌∙◌, subst}
use Rattle.code_areas.specs.Areas.{Places, Contents, cell_at, IsSet}
use Rattle.code_areas.proofs.RegisterCells.{cell_there}
use Rattle.code_areas.proofs.Areas.register.Goals as goal

pub set_cell-requires : goal.set_cell-requires
set_cell-requires c =
    let a = c.self.inside in
    let same = ap (λ (k : Contents). k.registers) c.self.view_is in
    let there = subst (λ (x : Places). IsSet x c.args.n) (sym same) c.requires in
    (there.0, ap (λ (x : Places). cell_at x c.args.n) c.deref.ensures.value ∙ cell_there a.cells.items a.held c.args.n there.0 there.1)

pub returns : goal.returns
returns c =
    let a = c.self.inside in
    let same = ap (λ (k : Contents). k.registers) c.self.view_is in
    let there = subst (λ (x : Places). IsSet x c.args.n) (sym same) c.requires in
    ap (λ (x : Places). cell_at x c.args.n) (sym same) ∙ there.1 ∙ sym (cell_there a.cells.items a.held c.args.n there.0 there.1)
    ∙ sym (ap (λ (x : Places). cell_at x c.args.n) c.deref.ensures.value) ∙ c.set_cell.ensures
