use Rattle.std.proofs.Common.{◌≡◌, ◌++◌, [], ◌∷◌, neg_ℤ, FitsSigned, refl, ap, sym, ◌∙◌, subst, w64, to_z, of_z, rules}
use Rattle.std.specs.Prelude.{Ok, All}
use Rattle.heap_cells.proofs.Lemmas.{all_push}
use Rattle.std.proofs.lemmas.Result.{err_from_is_err_and}
use Rattle.builtin_calls.specs.declared.operations.OpenOperation.TheVariants.{Right}
use Rattle.fd_model.specs.Arithmetic.{opposite_of, value_of_both}
use Rattle.builtin_calls.specs.Outcomes.{IsFault, meaning}
use Rattle.heap_cells.specs.SeenTerms.{seen_term}
use Rattle.builtin_calls.specs.Evaluations.{after, IsOfHeap}
use Rattle.builtin_calls.proofs.Remainders.{read_back}
use Rattle.builtin_calls.proofs.Evaluations.{left_goes, value_goes, value_fails}
use Rattle.builtin_calls.proofs.evaluation.resume.Goals as goal

pub returns-in_err-apply-in-Right-clause-goes : goal.returns-in_err-apply-in-Right-clause-goes
returns-in_err-apply-in-Right-clause-goes c =
    let p = err_from_is_err_and c.from_residual-in_err-apply-in-Right.result c.from_residual-in_err-apply-in-Right.ensures.1 in
    let fl : FitsSigned w64 c.in-Right.left = search rules in
    let m : meaning c.in-Right.operation (to_z w64 (of_z w64 c.in-Right.left)) (to_z w64 (of_z w64 c.args.value)) ≡ meaning c.in-Right.operation c.in-Right.left c.args.value =
    ap (λ x. meaning c.in-Right.operation x (to_z w64 (of_z w64 c.args.value))) (read_back c.in-Right.left fl)
    ∙ ap (meaning c.in-Right.operation c.in-Right.left) (read_back c.args.value c.ranges.value) in
    rw (p.1, p.2) (λ names G name n. value_fails names c.args.heap.now.now G c.args.waiting.now c.args.waits c.args.value c.in_err-apply-in-Right.field-0.0
    (λ name. subst (λ w. IsFault c.in_err-apply-in-Right.field-0.0 (after (seen_term name c.args.heap.now.now G) w (Ok c.args.value))) (sym c.in-Right.is)
    (subst (IsFault c.in_err-apply-in-Right.field-0.0) m c.in_err-apply-in-Right.ensures.tells)) name)

pub returns-in_err-checked-in-Opposite-clause-goes : goal.returns-in_err-checked-in-Opposite-clause-goes
returns-in_err-checked-in-Opposite-clause-goes c =
    let p = err_from_is_err_and c.from_residual-in_err-checked-in-Opposite.result c.from_residual-in_err-checked-in-Opposite.ensures.1 in
    let f = c.in_err-checked-in-Opposite.ensures.tells (neg_ℤ (to_z w64 (of_z w64 c.args.value))) c.checked_neg.ensures in
    rw (p.1, p.2) (λ names G name n. value_fails names c.args.heap.now.now G c.args.waiting.now c.args.waits c.args.value c.in_err-checked-in-Opposite.field-0.0
    (λ name. subst (λ w. IsFault c.in_err-checked-in-Opposite.field-0.0 (after (seen_term name c.args.heap.now.now G) w (Ok c.args.value)))
    (sym c.in-Opposite.is) (subst (λ z. IsFault c.in_err-checked-in-Opposite.field-0.0 (opposite_of z)) (read_back c.args.value c.ranges.value) f)) name)

pub returns-in_ok-push-in-Left-clause-goes : goal.returns-in_ok-push-in-Left-clause-goes
returns-in_ok-push-in-Left-clause-goes c names G =
    left_goes names c.args.heap.now.now G c.args.waiting.now (c.args.waiting.now ++ c.args.waits ∷ []) c.push.new.self c.args.waits c.in-Left.operation c.in-Left.right c.args.value c.in-Left.is refl
    (c.in_ok-push-in-Left.ensures ∙ ap (λ z. c.args.waiting.now ++ Right c.in-Left.operation z ∷ []) (read_back c.args.value c.ranges.value))

pub returns-in_ok-apply-in-Right-clause-goes : goal.returns-in_ok-apply-in-Right-clause-goes
returns-in_ok-apply-in-Right-clause-goes c names G =
    let fl : FitsSigned w64 c.in-Right.left = search rules in
    let fy : FitsSigned w64 c.in_ok-apply-in-Right.field-0 = search rules in
    let m : meaning c.in-Right.operation (to_z w64 (of_z w64 c.in-Right.left)) (to_z w64 (of_z w64 c.args.value)) ≡ meaning c.in-Right.operation c.in-Right.left c.args.value =
    ap (λ x. meaning c.in-Right.operation x (to_z w64 (of_z w64 c.args.value))) (read_back c.in-Right.left fl)
    ∙ ap (meaning c.in-Right.operation c.in-Right.left) (read_back c.args.value c.ranges.value) in
    value_goes names c.args.heap.now.now G c.args.waiting.now (c.args.waiting.now ++ c.args.waits ∷ []) c.args.waits c.args.value (to_z w64 (of_z w64 c.in_ok-apply-in-Right.field-0))
    (λ name. ap (λ w. after (seen_term name c.args.heap.now.now G) w (Ok c.args.value)) c.in-Right.is ∙ sym m ∙ c.in_ok-apply-in-Right.ensures.tells
    ∙ ap Ok (sym (read_back c.in_ok-apply-in-Right.field-0 fy))) refl

pub returns-in_ok-checked-in-Opposite-clause-goes : goal.returns-in_ok-checked-in-Opposite-clause-goes
returns-in_ok-checked-in-Opposite-clause-goes c names G =
    let fy : FitsSigned w64 c.in_ok-checked-in-Opposite.field-0 = search rules in
    let f = c.in_ok-checked-in-Opposite.ensures.tells (neg_ℤ (to_z w64 (of_z w64 c.args.value))) c.checked_neg.ensures in
    value_goes names c.args.heap.now.now G c.args.waiting.now (c.args.waiting.now ++ c.args.waits ∷ []) c.args.waits c.args.value (to_z w64 (of_z w64 c.in_ok-checked-in-Opposite.field-0))
    (λ name. ap (λ w. after (seen_term name c.args.heap.now.now G) w (Ok c.args.value)) c.in-Opposite.is
    ∙ ap opposite_of (sym (read_back c.args.value c.ranges.value)) ∙ f ∙ ap Ok (sym (read_back c.in_ok-checked-in-Opposite.field-0 fy))) refl

-- an operand on the right that is an integer
pub returns-in-Some-clause-goes : goal.returns-in-Some-clause-goes
returns-in-Some-clause-goes c names G =
    let h = c.args.heap.now.now in
    let fo : FitsSigned w64 c.in-Some.operand = search rules in
    let fy : FitsSigned w64 c.in_ok-apply-in-Left.field-0 = search rules in
    let m : meaning c.in-Left.operation (to_z w64 (of_z w64 c.args.value)) (to_z w64 (of_z w64 c.in-Some.operand)) ≡ meaning c.in-Left.operation c.args.value c.in-Some.operand =
    ap (λ x. meaning c.in-Left.operation x (to_z w64 (of_z w64 c.in-Some.operand))) (read_back c.args.value c.ranges.value)
    ∙ ap (meaning c.in-Left.operation c.args.value) (read_back c.in-Some.operand fo) in
    value_goes names h G c.args.waiting.now (c.args.waiting.now ++ c.args.waits ∷ []) c.args.waits c.args.value (to_z w64 (of_z w64 c.in_ok-apply-in-Left.field-0))
    (λ name. ap (λ w. after (seen_term name h G) w (Ok c.args.value)) c.in-Left.is
    ∙ ap (λ v. value_of_both (meaning c.in-Left.operation) (Ok c.args.value) v) (c.in-Some.ensures name G) ∙ sym m ∙ c.in_ok-apply-in-Left.ensures.tells
    ∙ ap Ok (sym (read_back c.in_ok-apply-in-Left.field-0 fy))) refl

pub returns-in_err-apply-in-Left-clause-goes : goal.returns-in_err-apply-in-Left-clause-goes
returns-in_err-apply-in-Left-clause-goes c =
    let h = c.args.heap.now.now in
    let p = err_from_is_err_and c.from_residual.result c.from_residual.ensures.1 in
    let fo : FitsSigned w64 c.in-Some.operand = search rules in
    let m : meaning c.in-Left.operation (to_z w64 (of_z w64 c.args.value)) (to_z w64 (of_z w64 c.in-Some.operand)) ≡ meaning c.in-Left.operation c.args.value c.in-Some.operand =
    ap (λ x. meaning c.in-Left.operation x (to_z w64 (of_z w64 c.in-Some.operand))) (read_back c.args.value c.ranges.value)
    ∙ ap (meaning c.in-Left.operation c.args.value) (read_back c.in-Some.operand fo) in
    rw (p.1, p.2) (λ names G name n. value_fails names h G c.args.waiting.now c.args.waits c.args.value c.in_err-apply-in-Left.field-0.0
    (λ name. subst (IsFault c.in_err-apply-in-Left.field-0.0)
    (sym (ap (λ w. after (seen_term name h G) w (Ok c.args.value)) c.in-Left.is ∙ ap (λ v. value_of_both (meaning c.in-Left.operation) (Ok c.args.value) v)
    (c.in-Some.ensures name G) ∙ sym m)) c.in_err-apply-in-Left.ensures.tells) name)

pub returns-in_ok-push-in-Left-clause-held : goal.returns-in_ok-push-in-Left-clause-held
returns-in_ok-push-in-Left-clause-held c a = subst (All (IsOfHeap c.args.heap.now.now)) (sym c.in_ok-push-in-Left.ensures) (all_push (IsOfHeap c.args.heap.now.now) c.args.waiting.now _ a tt)
