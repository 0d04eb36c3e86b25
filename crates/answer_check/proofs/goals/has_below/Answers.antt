use Rattle.std.proofs.Common.{rules, ◌≡◌, ◌∙◌, ◌++◌, [], ◌∷◌, set, take, get_or, replicate, true, false, sym, ap}
use Rattle.std.specs.List.{list_all}
use Rattle.fd_language.specs.Family.{has, count_up}
use Rattle.answer_check.proofs.Lists.{take_next, take_whole}
use Rattle.answer_check.proofs.Marks.{all_marked, mark_none, mark_set, marked, none_marked}
use Rattle.answer_check.proofs.goals.has_below.Goals as goal
use Rattle.answer_check.proofs.goals.has_below.Goals.{then-at-count, else-at-count}

pub loop-variable-init : goal.loop-variable-init
loop-variable-init c =
    let all : c.in_ok-is_there.is_there.items ≡ replicate c.args.count false = search rules in
    all ∙ sym (none_marked 0 c.args.count)

pub loop-variable-preserved : goal.loop-variable-preserved
loop-variable-preserved c =
    let xs = c.args.labelled.now in
    let i = c.loop-variable.variable-index in
    let n = c.args.count in
    let more = elim c.if-at-count.branch as (λ w. c.if-at-count.is_there.items ≡ marked (take i xs ++ get_or xs i 0 ∷ []) n) [
      | then-at-count w ↦ (let one : c.if-at-count.is_there.items ≡ set c.loop-variable.is_there.items (get_or xs i 0) true = search rules in
          one ∙ ap (λ bs. set bs (get_or xs i 0) true) c.loop-variable.invariant ∙ mark_set (take i xs) (get_or xs i 0) n w.if-at-count.true)
      | else-at-count w ↦ (let same : c.if-at-count.is_there.items ≡ c.loop-variable.is_there.items = search rules in
          same ∙ c.loop-variable.invariant ∙ mark_none (take i xs) (get_or xs i 0) n w.if-at-count.false)
    ] in
    more ∙ ap (λ ys. marked ys n) (sym (take_next xs i 0 c.loop-variable-test.true))

pub returns : goal.returns
returns c =
    let xs = c.args.labelled.now in
    let n = c.args.count in
    c.are_true.ensures ∙ ap (list_all (λ b. b)) c.deref.ensures.value
    ∙ ap (list_all (λ b. b)) (c.loop-variable.invariant ∙ ap (λ ys. marked ys n) (take_whole xs c.loop-variable.variable-index c.loop-variable-test.false))
    ∙ all_marked (has xs) (count_up 0 n)
