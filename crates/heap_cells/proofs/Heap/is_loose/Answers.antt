use Rattle.std.proofs.Common.{◌≡◌, ◌<◌, ◌∙◌, sym, subst, length, get_or, arith}
use Rattle.std.proofs.lemmas.List.{get_or_default}
use Rattle.heap_cells.specs.declared.Variable.TheVariants as variable
use Rattle.heap_cells.specs.HeapFields.{IsUnheld}
use Rattle.heap_cells.proofs.Fields.{now_is, slots_there}
use Rattle.heap_cells.proofs.LooseVariables.{unheld_absent}
use Rattle.heap_cells.proofs.Heap.is_loose.Goals as goal

pub returns-in-Loose-clause-absent : goal.returns-in-Loose-clause-absent
returns-in-Loose-clause-absent c = λ t.
    let vs = c.self.inside.variables.items in
    let slots = slots_there c.self.inside c.args.self.now c.self.view_is in
    let there : c.args.var < length vs = omega (arith, slots, c.requires) in
    let is : get_or vs c.args.var variable.Open ≡ variable.Loose = get_or_default vs c.args.var variable.Open c.index.result.now there ∙ sym c.index.ensures ∙ c.in-Loose.is in
    unheld_absent c.args.self.now.now c.args.var (subst (λ h. IsUnheld h c.args.var) (now_is c.self.inside c.args.self.now c.self.view_is) (c.self.invariant.loose c.args.var is))
