use Rattle.std.proofs.Common.{◌≡◌, [], ◌∷◌, refl, ap, sym, ◌∙◌, subst, FitsSigned, w64, to_z, of_z, rules, List}
use Rattle.std.specs.Prelude.{All, Ok}
use Rattle.std.proofs.lemmas.Result.{err_from_is_err_and}
use Rattle.heap_cells.proofs.Lemmas.{all_front}
use Rattle.builtin_calls.specs.declared.evaluation.Step.TheVariants.{Enter, Leave}
use Rattle.builtin_calls.specs.declared.operations.OpenOperation.{OpenOperation}
use Rattle.builtin_calls.specs.Outcomes.{IsFault}
use Rattle.heap_cells.specs.SeenTerms.{seen_term}
use Rattle.builtin_calls.specs.Evaluations.{IsOfHeap, Leads, resumed}
use Rattle.builtin_calls.proofs.Remainders.{read_back}
use Rattle.builtin_calls.proofs.Evaluations.{leads_popped, popped_falls, popped_fails}
use Rattle.builtin_calls.proofs.evaluation.ascend.Goals as goal

pub returns-in_err-next : goal.returns-in_err-next
returns-in_err-next c =
    let p = err_from_is_err_and c.from_residual.result c.from_residual.ensures.1 in
    let h = c.args.heap.now.now in
    rw (p.1, p.2) (λ names G name n. subst (λ z. IsFault c.in_err-next.field-0.0 (resumed (seen_term name h G) c.args.waiting.now (Ok z))) (read_back c.args.value c.ranges.value)
    (popped_fails names h G c.args.waiting.now c.loop-waits.waiting c.pop.new.self c.in-Some.waits (Leave (to_z w64 (of_z w64 c.args.value)))
    (to_z w64 c.loop-waits.current-bits) (to_z w64 c.loop-waits.current-bits) c.in_err-next.field-0.0
    refl c.in-Some.ensures (c.loop-waits.invariant.leads names G) (c.in_err-next.ensures.goes names G) name n))

pub returns-in-Enter : goal.returns-in-Enter
returns-in-Enter c names G =
    let h = c.args.heap.now.now in
    subst (λ z. Leads names h G c.args.waiting.now (Leave z) c.resume.new.waiting (Enter c.in-Enter.next)) (read_back c.args.value c.ranges.value)
    (subst (Leads names h G c.args.waiting.now (Leave (to_z w64 (of_z w64 c.args.value))) c.resume.new.waiting) c.in-Enter.is
    (leads_popped names h G c.args.waiting.now c.loop-waits.waiting c.pop.new.self c.resume.new.waiting c.in-Some.waits
    (Leave (to_z w64 (of_z w64 c.args.value))) (to_z w64 c.loop-waits.current-bits) (to_z w64 c.loop-waits.current-bits) c.in_ok-next.field-0
    refl c.in-Some.ensures (c.loop-waits.invariant.leads names G) (c.in_ok-next.ensures.goes names G)))

pub loop-waits-smaller : goal.loop-waits-smaller
loop-waits-smaller c =
    let h = c.args.heap.now.now in
    popped_falls [] h (λ k. []) c.loop-waits.waiting c.pop.new.self c.resume.new.waiting c.in-Some.waits (to_z w64 c.loop-waits.current-bits) c.in-Leave.next
    c.in_ok-next.field-0 c.in-Some.ensures (c.in_ok-next.ensures.goes [] (λ k. [])) c.in-Leave.is

pub loop-waits-preserved : goal.loop-waits-preserved
loop-waits-preserved c =
    let h = c.args.heap.now.now in
    let fits : FitsSigned w64 c.in-Leave.next = search rules in
    record {
      leads = λ names G. subst (Leads names h G c.args.waiting.now (Leave (to_z w64 (of_z w64 c.args.value))) c.resume.new.waiting) (c.in-Leave.is ∙ ap Leave (sym (read_back c.in-Leave.next fits)))
          (leads_popped names h G c.args.waiting.now c.loop-waits.waiting c.pop.new.self c.resume.new.waiting c.in-Some.waits
          (Leave (to_z w64 (of_z w64 c.args.value))) (to_z w64 c.loop-waits.current-bits) (to_z w64 c.loop-waits.current-bits) c.in_ok-next.field-0
          refl c.in-Some.ensures (c.loop-waits.invariant.leads names G) (c.in_ok-next.ensures.goes names G));
      held = c.in_ok-next.ensures.held (all_front (IsOfHeap h) c.pop.new.self (c.in-Some.waits ∷ []) (subst (All (IsOfHeap h)) c.in-Some.ensures c.loop-waits.invariant.held));
    }

pub returns : goal.returns
returns c names G =
    let h = c.args.heap.now.now in
    let none : c.loop-waits.waiting ≡ [] = search rules in
    subst (λ z. Leads names h G c.args.waiting.now (Leave z) [] (Leave (to_z w64 c.loop-waits.current-bits))) (read_back c.args.value c.ranges.value)
    (subst (λ (ws : List OpenOperation). Leads names h G c.args.waiting.now (Leave (to_z w64 (of_z w64 c.args.value))) ws
    (Leave (to_z w64 c.loop-waits.current-bits))) none (c.loop-waits.invariant.leads names G))
