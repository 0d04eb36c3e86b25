use Rattle.std.proofs.Common.{get_or, refl}
use Rattle.text_warnings.specs.declared.occurrences.Occurrence.{Occurrence}
use Rattle.text_warnings.proofs.OpenGoals.{open_more}
use Rattle.text_warnings.proofs.open_variables.put_found.Goals as goal

pub loop-occurrence-preserved : goal.loop-occurrence-preserved
loop-occurrence-preserved c =
    let pool = c.args.pool.now in
    let i = c.loop-occurrence.occurrence-index in
    let os = c.args.found.now in
    let d : Occurrence = record { number = 0; place = 0 } in
    open_more pool c.args.names.now c.args.passed.now c.args.negated os i (get_or os i d) d c.open_warning-warning.result c.args.warnings.now.items c.loop-occurrence.warnings.items
    c.put_some.new.warnings.items c.loop-occurrence-test.true refl c.loop-occurrence.invariant c.open_warning-warning.ensures.is (c.open_warning-warning.ensures.within pool c.requires)
    c.in_ok-put_some.ensures
