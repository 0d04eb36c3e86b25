use Rattle.std.proofs.Common.{[], refl, ap, sym, ◌∙◌, FitsSigned, w64, to_z, of_z, rules}
use Rattle.std.proofs.lemmas.Result.{err_from_is_err_and}
use Rattle.domain_ranges.specs.Views.{family_of}
use Rattle.builtin_calls.specs.declared.evaluation.Step.TheVariants.{Enter, Leave}
use Rattle.builtin_calls.proofs.Remainders.{read_back}
use Rattle.builtin_calls.proofs.Evaluations.{climbed, climbed_out, climbed_fails, under_way_further, way_fails, way_ends}
use Rattle.builtin_calls.proofs.evaluation.eval_nested.Goals as goal

pub steps-smaller : goal.steps-smaller
steps-smaller g c =
    let h = c.args.heap.now.now in
    let G = family_of (g.V.View.sets c.args.view.now) in
    let fits : FitsSigned w64 c.in_ok-value.value = search rules in
    (climbed c.args.pool.now.names h G c.steps.waiting c.descend.new.waiting c.ascend.new.waiting c.steps.at c.in-Enter.next c.in_ok-value.value
    (to_z w64 (of_z w64 c.in_ok-value.value)) c.in_ok-next.field-0
    c.in_ok-value.ensures (read_back c.in_ok-value.value fits) (c.in_ok-next.ensures c.args.pool.now.names G) c.in-Enter.is).falls

pub steps-preserved : goal.steps-preserved
steps-preserved g c =
    let h = c.args.heap.now.now in
    let G = family_of (g.V.View.sets c.args.view.now) in
    let fits : FitsSigned w64 c.in_ok-value.value = search rules in
    under_way_further c.args.pool.now.names h G c.args.c c.steps.waiting c.ascend.new.waiting (Enter c.steps.at) (Enter c.in-Enter.next) c.steps.invariant
    (climbed c.args.pool.now.names h G c.steps.waiting c.descend.new.waiting c.ascend.new.waiting c.steps.at c.in-Enter.next c.in_ok-value.value
    (to_z w64 (of_z w64 c.in_ok-value.value)) c.in_ok-next.field-0
    c.in_ok-value.ensures (read_back c.in_ok-value.value fits) (c.in_ok-next.ensures c.args.pool.now.names G) c.in-Enter.is)

pub returns-in-Leave : goal.returns-in-Leave
returns-in-Leave g c =
    let h = c.args.heap.now.now in
    let G = family_of (g.V.View.sets c.args.view.now) in
    let fits : FitsSigned w64 c.in_ok-value.value = search rules in
    let fv : FitsSigned w64 c.in-Leave.value = search rules in
    way_ends c.args.pool.now.names h G c.args.c [] (Leave (to_z w64 (of_z w64 c.in-Leave.value))) (to_z w64 (of_z w64 c.in-Leave.value))
    (under_way_further c.args.pool.now.names h G c.args.c c.steps.waiting [] (Enter c.steps.at) (Leave (to_z w64 (of_z w64 c.in-Leave.value))) c.steps.invariant
    (climbed_out c.args.pool.now.names h G c.steps.waiting c.descend.new.waiting c.ascend.new.waiting c.steps.at c.in_ok-value.value
    (to_z w64 (of_z w64 c.in_ok-value.value)) (to_z w64 (of_z w64 c.in-Leave.value)) c.in_ok-next.field-0
    c.in_ok-value.ensures (read_back c.in_ok-value.value fits) (c.in_ok-next.ensures c.args.pool.now.names G) (c.in-Leave.is ∙ ap Leave (sym (read_back c.in-Leave.value fv))))) refl refl

pub returns-in_err-next : goal.returns-in_err-next
returns-in_err-next g c =
    let p = err_from_is_err_and c.from_residual-in_err-next.result c.from_residual-in_err-next.ensures.1 in
    let h = c.args.heap.now.now in
    let G = family_of (g.V.View.sets c.args.view.now) in
    let fits : FitsSigned w64 c.in_ok-value.value = search rules in
    rw (p.1, p.2) (way_fails c.args.pool.now.names h G c.args.c c.steps.waiting (Enter c.steps.at) c.in_err-next.field-0.0 c.steps.invariant
    (climbed_fails c.args.pool.now.names h G c.steps.waiting c.descend.new.waiting c.steps.at c.in_ok-value.value (to_z w64 (of_z w64 c.in_ok-value.value))
    c.in_err-next.field-0.0 c.in_ok-value.ensures (read_back c.in_ok-value.value fits) (c.in_err-next.ensures c.args.pool.now.names G)))
