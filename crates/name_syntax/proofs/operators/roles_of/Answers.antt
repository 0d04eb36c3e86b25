use Rattle.std.proofs.Common.{rules}
use Rattle.std.proofs.lemmas.Fn.{always_returns_same}
use Rattle.name_syntax.proofs.Rows.{beside, found_infix, found_prefix, absent_infix, absent_prefix}
use Rattle.name_syntax.proofs.operators.roles_of.Goals as goal

pub returns-in-Ok-clause-between : goal.returns-in-Ok-clause-between
returns-in-Ok-clause-between c = found_infix c.rows-rows.result.now c.rows-rows.ensures c.args.name.now c.in-Ok.place _ c.in-Ok.ensures.bound
    (c.in-Ok.ensures.position (beside c.args.name.now) (always_returns_same _ _ _ (λ x r f' k. search rules)))

pub returns-in-Ok-clause-before : goal.returns-in-Ok-clause-before
returns-in-Ok-clause-before c = found_prefix c.rows-rows.result.now c.rows-rows.ensures c.args.name.now c.in-Ok.place _ c.in-Ok.ensures.bound
    (c.in-Ok.ensures.position (beside c.args.name.now) (always_returns_same _ _ _ (λ x r f' k. search rules)))

pub returns-in-Err-clause-between : goal.returns-in-Err-clause-between
returns-in-Err-clause-between c = absent_infix c.rows-rows.result.now c.rows-rows.ensures c.args.name.now c.in-Err.field-0
    (c.in-Err.ensures.position (beside c.args.name.now) (always_returns_same _ _ _ (λ x r f' k. search rules)))

pub returns-in-Err-clause-before : goal.returns-in-Err-clause-before
returns-in-Err-clause-before c = absent_prefix c.rows-rows.result.now c.rows-rows.ensures c.args.name.now c.in-Err.field-0
    (c.in-Err.ensures.position (beside c.args.name.now) (always_returns_same _ _ _ (λ x r f' k. search rules)))
