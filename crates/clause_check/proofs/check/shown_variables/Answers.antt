use Rattle.std.proofs.Common.{rules, ◌≡◌, ◌==◌, ◌<◌, ◌∙◌, ap, sym, get_or, length}
use Rattle.std.specs.Prelude.{not, slice_index}
use Rattle.fd_model.specs.Queries.{is_shown}
use Rattle.term_pool.specs.declared.AtomId.{AtomId}
use Rattle.term_pool.specs.Contents.{atom_name}
use Rattle.clause_check.proofs.ShownVariables.{shown_by, shown_more, shown_same}
use Rattle.clause_check.proofs.check.shown_variables.Goals.{then-not-starts_with+in_ok-push+in_ok-push-2, else-not-starts_with}
use Rattle.clause_check.proofs.check.shown_variables.Goals as goal

pub loop-number-preserved : goal.loop-number-preserved
loop-number-preserved c =
    let pool = c.args.pool.now in
    let i = c.loop-number.number in
    let none : AtomId = record { number = 0 } in
    let size : i < length c.args.names.now = search rules in
    let first : c.starts_with.result ≡ (slice_index c.name_of.result.now 0 == 95) = search rules in
    let named : c.name_of.result.now ≡ atom_name pool (get_or c.args.names.now i none) = search rules in
    let shown = ap is_shown (sym named) ∙ shown_by c.name_of.result.now c.starts_with.result first in
    elim c.if-not-starts_with.branch [
      | then-not-starts_with+in_ok-push+in_ok-push-2 w ↦
          shown_more pool c.args.names.now i none c.loop-number.shown.names.items c.loop-number.shown.numbers.items size c.loop-number.invariant c.requires
          c.if-not-starts_with.shown.names.items c.if-not-starts_with.shown.numbers.items (shown ∙ ap not w.if-not-starts_with.true) (search (rules, w)) (search (rules, w))
      | else-not-starts_with w ↦
          shown_same pool c.args.names.now i none c.loop-number.shown.names.items c.loop-number.shown.numbers.items size c.loop-number.invariant c.requires
          c.if-not-starts_with.shown.names.items c.if-not-starts_with.shown.numbers.items (shown ∙ ap not w.if-not-starts_with.false) (search (rules, w)) (search (rules, w))
    ]
