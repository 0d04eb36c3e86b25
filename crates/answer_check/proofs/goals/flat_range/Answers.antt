use Rattle.std.proofs.Common.{◌≡◌, ◌∙◌, sym, ap, true, false}
use Rattle.std.specs.List.{list_any}
use Rattle.fd_language.specs.PostfixRanges.{nodes_of}
use Rattle.term_pool.specs.PlacedTerms.{placed_of}
use Rattle.answer_check.specs.Goals.{is_left_out}
use Rattle.answer_check.proofs.PlainRanges.{flat_not, flat_yes}
use Rattle.answer_check.proofs.goals.flat_range.Goals as goal

pub returns-then-has_left_out : goal.returns-then-has_left_out
returns-then-has_left_out c =
    let r = c.in-Ok.source.range in
    let left : list_any is_left_out (nodes_of r) ≡ true = ap (list_any is_left_out) (sym c.nodes.ensures) ∙ sym c.has_left_out.ensures ∙ c.if-has_left_out.true in
    flat_not (placed_of c.args.pool.now c.args.t) r c.in-Ok.ensures.spelled.1 left

pub returns-in-Ok-check : goal.returns-in-Ok-check
returns-in-Ok-check c =
    let r = c.in-Ok.source.range in
    let left : list_any is_left_out (nodes_of r) ≡ false = ap (list_any is_left_out) (sym c.nodes.ensures) ∙ sym c.has_left_out.ensures ∙ c.if-has_left_out.false in
    let s = c.in-Ok.ensures.spelled in
    let v = c.in-Ok-check.ensures in
    (flat_yes (placed_of c.args.pool.now c.args.t) r c.deref.result.now s.0 s.1 (c.deref.ensures.value ∙ s.2) left v.1, v.0 ∙ s.1)
