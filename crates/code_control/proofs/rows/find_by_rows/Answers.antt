use Rattle.std.proofs.Common.{◌+◌, sym, ◌∙◌, arith}
use Rattle.std.proofs.lemmas.Bool.{true≢false}
use Rattle.code_control.proofs.TableRows.{row_passed}
use Rattle.code_control.proofs.rows.find_by_rows.Goals as goal

pub loop-row-preserved : goal.loop-row-preserved
loop-row-preserved c =
    row_passed c.args.seen c.args.table.now c.loop-row.row-index _ c.loop-row-test.true c.loop-row.invariant (c.loop-row.row-index + 1) (omega arith)
    (λ k. true≢false (sym (c.is_key_of.ensures.1 k) ∙ c.if-is_key_of.false))
