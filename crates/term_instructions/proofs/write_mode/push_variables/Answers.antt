use Rattle.std.proofs.Common.{refl, sym, subst, add-one}
use Rattle.term_instructions.specs.WriteMode.{AreVariablesAdded}
use Rattle.term_instructions.proofs.BuildSteps.{variables_more}
use Rattle.term_instructions.proofs.write_mode.push_variables.Goals as goal

pub loop-i-init : goal.loop-i-init
loop-i-init g c = record { added = (refl, refl); heap = refl; sound = c.requires }

pub loop-i-preserved : goal.loop-i-preserved
loop-i-preserved g c =
    let v = c.in_ok-cell.ensures in
    subst (λ k. AreVariablesAdded k c.args.branch.now c.args.cells.now.items c.new_var.new.self c.push.new.self.items) (sym (add-one c.loop-i.i))
    (variables_more c.loop-i.i c.args.branch.now c.args.cells.now.items c.loop-i.branch c.loop-i.cells.items c.loop-i.invariant c.new_var.new.self v.added
    v.sound c.in_ok-cell.cell v.id c.push.new.self.items c.in_ok-push.ensures.items)
