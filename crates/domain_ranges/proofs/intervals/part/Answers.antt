use Rattle.std.proofs.Common.{◌≡◌, ◌∙◌, ap, sym, arith, List, ◌-◌, ◌+◌, length, get_or, set}
use Rattle.std.proofs.lemmas.Bool.{true≢false}
use Rattle.domain_ranges.specs.Spans.{Span}
use Rattle.domain_ranges.proofs.Outcomes.{on_err, full_of_two}
use Rattle.domain_ranges.proofs.SplitIntervals.{gone, first_gone, last_gone, two_left, inner_length}
use Rattle.domain_ranges.proofs.intervals.part.Goals as goal

pub returns-then-low-high-clause-parted : goal.returns-then-low-high-clause-parted
returns-then-low-high-clause-parted c =
    let ss = c.args.list.now.items in
    let k = c.args.place in
    let low : (get_or c.as_slice.result.now k (0, 0)).0 ≡ (get_or ss k (0, 0)).0 = ap (λ (l : List Span). (get_or l k (0, 0)).0) c.as_slice.ensures in
    let high : (get_or c.as_slice.result.now k (0, 0)).1 ≡ (get_or ss k (0, 0)).1 = ap (λ (l : List Span). (get_or l k (0, 0)).1) c.as_slice.ensures in
    c.remove-span.ensures.items ∙ gone c.args.n k ss c.requires.place (omega arith) (omega arith)

pub returns-then-n-low-clause-parted : goal.returns-then-n-low-clause-parted
returns-then-n-low-clause-parted c =
    let ss = c.args.list.now.items in
    let k = c.args.place in
    let low : (get_or c.as_slice.result.now k (0, 0)).0 ≡ (get_or ss k (0, 0)).0 = ap (λ (l : List Span). (get_or l k (0, 0)).0) c.as_slice.ensures in
    let high : (get_or c.as_slice.result.now k (0, 0)).1 ≡ (get_or ss k (0, 0)).1 = ap (λ (l : List Span). (get_or l k (0, 0)).1) c.as_slice.ensures in
    let other = c.if-low-high.false in
    c.write.ensures ∙ ap (λ h. set ss k (c.args.n + 1, h)) high ∙ first_gone c.args.n k ss c.requires.place (omega arith) (omega arith)

pub returns-then-n-high-clause-parted : goal.returns-then-n-high-clause-parted
returns-then-n-high-clause-parted c =
    let ss = c.args.list.now.items in
    let k = c.args.place in
    let low : (get_or c.as_slice.result.now k (0, 0)).0 ≡ (get_or ss k (0, 0)).0 = ap (λ (l : List Span). (get_or l k (0, 0)).0) c.as_slice.ensures in
    let high : (get_or c.as_slice.result.now k (0, 0)).1 ≡ (get_or ss k (0, 0)).1 = ap (λ (l : List Span). (get_or l k (0, 0)).1) c.as_slice.ensures in
    let other = c.if-n-low.false in
    c.write-then-n-high.ensures ∙ ap (λ h. set ss k (h, c.args.n - 1)) low ∙ last_gone c.args.n k ss c.requires.place (omega arith) (omega arith)

pub returns-in_ok-insert-clause-parted : goal.returns-in_ok-insert-clause-parted
returns-in_ok-insert-clause-parted c =
    let ss = c.args.list.now.items in
    let k = c.args.place in
    let low : (get_or c.as_slice.result.now k (0, 0)).0 ≡ (get_or ss k (0, 0)).0 = ap (λ (l : List Span). (get_or l k (0, 0)).0) c.as_slice.ensures in
    let high : (get_or c.as_slice.result.now k (0, 0)).1 ≡ (get_or ss k (0, 0)).1 = ap (λ (l : List Span). (get_or l k (0, 0)).1) c.as_slice.ensures in
    let other = c.if-n-low.false in
    let before = c.if-n-high.false in
    c.write-else-n-high.ensures ∙ ap (λ (l : List Span). set l k ((get_or c.as_slice.result.now k (0, 0)).0, c.args.n - 1)) c.in_ok-insert.ensures.ok
    ∙ two_left c.args.n k ss (get_or c.as_slice.result.now k (0, 0)).0 (get_or c.as_slice.result.now k (0, 0)).1 c.requires.place low high (omega arith) (omega arith)

pub returns-in_err-insert-clause-no_memory : goal.returns-in_err-insert-clause-no_memory
returns-in_err-insert-clause-no_memory c =
    let ss = c.args.list.now.items in
    let k = c.args.place in
    let low : (get_or c.as_slice.result.now k (0, 0)).0 ≡ (get_or ss k (0, 0)).0 = ap (λ (l : List Span). (get_or l k (0, 0)).0) c.as_slice.ensures in
    let high : (get_or c.as_slice.result.now k (0, 0)).1 ≡ (get_or ss k (0, 0)).1 = ap (λ (l : List Span). (get_or l k (0, 0)).1) c.as_slice.ensures in
    let other = c.if-n-low.false in
    let before = c.if-n-high.false in
    let full = full_of_two (length ss) c.args.list.now.capacity (λ room. true≢false (sym (c.in_err-insert.ensures.succeeds room))) c.requires.capacity in
    let more = inner_length k c.args.n ss c.requires.place (omega arith) (omega arith) in
    on_err c.from_residual.result _ (omega (arith, full, more))
