use Rattle.std.proofs.Common.{◌≡◌, refl, reverse, subst, sym}
use Rattle.wam_code.specs.declared.instruction.Code.TheVariants as step
use Rattle.code_safety.proofs.Lemmas.{next_inside}
use Rattle.code_goals.specs.Values.{BringsMost, IsSafeLabelled, Labels, LeadsLabelled}
use Rattle.code_machine.specs.Steps.{labelled, Spends}
use Rattle.code_machine.proofs.GoalSteps.{took_spends, tries_spends}
use Rattle.code_machine.proofs.goals.take_labelling.Goals as goal

pub returns-in-Took : goal.returns-in-Took
returns-in-Took g c =
    let area = c.args.code.now in
    let s = c.args.branch.now in
    let s' = c.take_label.new.branch in
    let a = c.args.areas.now in
    let a' = c.take_label.new.areas in
    took_spends area s c.args.at a (reverse c.args.labels.now.items) c.requires.labels
    (next_inside area s c.args.at 0 a c.requires.safe (step.Label c.args.order) c.requires.holds refl) s' a' c.in-Took.next
    (subst (IsSafeLabelled area s' a') c.in-Took.is c.in_ok-next.ensures.safe)
    (subst (Labels area s c.args.at a s' a') c.in-Took.is c.in_ok-next.ensures.labels)
    (subst (LeadsLabelled c.args.at) c.in-Took.is c.in_ok-next.ensures.leads)

pub returns-in_ok-keep_values-in-Tries : goal.returns-in_ok-keep_values-in-Tries
returns-in_ok-keep_values-in-Tries g c =
    let area = c.args.code.now in
    let s = c.args.branch.now in
    let s' = c.take_label.new.branch in
    let a = c.args.areas.now in
    let a' = c.take_label.new.areas in
    let ls = reverse c.args.labels.now.items in
    let ls' = reverse c.keep_values.new.labels.items in
    let t = c.in-Tries.tried in
    subst (Spends area s c.args.at a ls s' a' ls') (sym c.next_of.ensures)
    (tries_spends area s c.args.at a ls c.requires.labels s' a' t (subst (IsSafeLabelled area s' a') c.in-Tries.is c.in_ok-next.ensures.safe)
    (subst (Labels area s c.args.at a s' a') c.in-Tries.is c.in_ok-next.ensures.labels)
    (subst (LeadsLabelled c.args.at) c.in-Tries.is c.in_ok-next.ensures.leads)
    (subst (BringsMost area c.args.at a a') c.in-Tries.is c.in_ok-next.ensures.most) ls' (subst (λ n. ls' ≡ labelled n t.left ls) c.points-point.ensures c.in_ok-keep_values-in-Tries.ensures))
