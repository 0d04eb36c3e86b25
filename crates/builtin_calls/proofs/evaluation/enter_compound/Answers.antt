use Rattle.std.proofs.Common.{◌++◌, [], ◌∷◌, FitsSigned, refl, ap, sym, ◌∙◌, inr, get_or, w64, rules}
use Rattle.heap_cells.specs.declared.Cell.TheVariants as cell
use Rattle.builtin_calls.specs.declared.operations.OpenOperation.TheVariants.{Right}
use Rattle.builtin_calls.proofs.Remainders.{read_back}
use Rattle.builtin_calls.proofs.Evaluations.{two_of}
use Rattle.builtin_calls.proofs.evaluation.enter_compound.Goals as goal

pub returns-in-Some-clause-entered : goal.returns-in-Some-clause-entered
returns-in-Some-clause-entered c G =
    let fits : FitsSigned w64 c.in-Some.value = search rules in
    inr (inr (
      get_or c.args.args.now 0 (cell.Ref 0),
      get_or c.args.args.now 1 (cell.Ref 0),
      c.in_ok-operation.operation,
      c.in-Some.value,
      two_of c.args.args.now (cell.Ref 0) c.in-len2.len_at_least c.in-len2.len_below,
      sym c.find_operation.ensures.found ∙ c.in_ok-operation.ensures,
      (λ name. c.in-Some.ensures name G),
      c.in_ok-push.ensures ∙ ap (λ z. c.args.waiting.now ++ Right c.in_ok-operation.operation z ∷ []) (read_back c.in-Some.value fits),
      refl,
    ))
