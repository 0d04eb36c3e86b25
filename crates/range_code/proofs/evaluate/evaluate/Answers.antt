use Rattle.std.proofs.Common.{◌≡◌, ◌≤◌, ℕ, List, ◌∷◌, [], length, arith}
use Rattle.std.proofs.lemmas.Result.{IfOk-weaker}
use Rattle.fd_language.specs.PostfixRanges.{spelled_range}
use Rattle.range_code.specs.Frames.{slot_set, slot_integer}
use Rattle.range_code.specs.Work.{filled_set}
use Rattle.range_code.specs.StepNodes.{all_steps}
use Rattle.range_code.proofs.Walks.{some_step, set_alone}
use Rattle.range_code.proofs.evaluate.evaluate.Goals as goal

pub run-requires-clause-start : goal.run-requires-clause-start
run-requires-clause-start g c = let l = some_step c.args.steps.now c.requires.spelled in omega (arith, l, c.len.ensures, c.args.steps.now.instrs.ok.0)

pub returns-clause-set : goal.returns-clause-set
returns-clause-set g c =
    let l : length c.args.steps.now.instrs.items ≤ c.len.result = omega (arith, c.len.ensures, c.args.steps.now.instrs.ok.0) in
    let gives = set_alone (slot_set (g.V.View.sets c.args.view.now) c.args.args.now) (slot_integer c.args.args.now) c.args.steps.now c.len.result c.run.new.work l c.in_ok-run.ensures.walked in
    IfOk-weaker c.pop_set.result (λ d. (r : List ℕ) (rest : List (List ℕ)) → c.run.new.work.sets.sets ≡ r ∷ rest → d ≡ r)
    (λ d. d ≡ (filled_set (slot_set (g.V.View.sets c.args.view.now) c.args.args.now) (slot_integer c.args.args.now)
    (spelled_range (all_steps c.args.steps.now))))
    (λ d f. f _ [] gives) c.pop_set.ensures.taken
