use Rattle.std.proofs.Common.{◌+◌, ◌<◌, slice_index_or, length, sym, ◌∙◌, arith}
use Rattle.std.proofs.lemmas.Bool.{true≢false}
use Rattle.code_control.proofs.BinarySearch.{found_here, found_nowhere, lower_half, middle, no_row, row_there, upper_half}
use Rattle.code_control.proofs.rows.find_by_halves.Goals as goal

pub returns-then-is_key_of : goal.returns-then-is_key_of
returns-then-is_key_of c =
    let rows = c.args.table.now in
    let m = middle c.halving.low c.halving.high in
    let test = c.halving-test.true in
    let within = c.halving.invariant.1 in
    let low : m < length rows = omega (arith, test, within) in
    found_here c.args.seen rows c.requires m (slice_index_or rows m no_row) (row_there rows m low) (c.is_key_of.ensures.0 c.if-is_key_of.true)

pub halving-preserved-then-is_key_below : goal.halving-preserved-then-is_key_below
halving-preserved-then-is_key_below c =
    let rows = c.args.table.now in
    let m = middle c.halving.low c.halving.high in
    let test = c.halving-test.true in
    let within = c.halving.invariant.1 in
    let low : m < length rows = omega (arith, test, within) in (
      upper_half c.args.seen rows c.requires m (slice_index_or rows m no_row) (row_there rows m low) c.halving.low c.halving.high (m + 1) (omega arith)
          c.halving.invariant.0 (c.is_key_below.ensures.0 c.if-is_key_below.true),
      within,
    )

pub halving-preserved : goal.halving-preserved
halving-preserved c =
    let rows = c.args.table.now in
    let m = middle c.halving.low c.halving.high in
    let test = c.halving-test.true in
    let within = c.halving.invariant.1 in
    let low : m < length rows = omega (arith, test, within) in (
      lower_half c.args.seen rows c.requires m (slice_index_or rows m no_row) (row_there rows m low) c.halving.low c.halving.high c.halving.invariant.0
          (λ k. true≢false (sym (c.is_key_of.ensures.1 k) ∙ c.if-is_key_of.false)) (λ k. true≢false (sym (c.is_key_below.ensures.1 k) ∙ c.if-is_key_below.false)),
      omega (arith, low),
    )

pub returns : goal.returns
returns c =
    let test = c.halving-test.false in
    found_nowhere c.args.seen c.args.table.now c.halving.low c.halving.high (omega (arith, test)) c.halving.invariant.0
