use Rattle.std.proofs.Common.{List, None, take, get_or, subst, Some}
use Rattle.text_warnings.specs.declared.clauses.Clause.{Clause}
use Rattle.text_warnings.proofs.ClausePredicates.{HasOpened, opened_none, opened_by, take_next}
use Rattle.text_warnings.proofs.predicates.open_files.Goals as goal

pub loop-clause-init : goal.loop-clause-init
loop-clause-init c = opened_none c.args.starts.now c.args.known.now.keys c.args.opening.now.items c.args.warnings.now.items c.requires.known c.requires.opening

pub loop-clause-preserved : goal.loop-clause-preserved
loop-clause-preserved c =
    let i = c.loop-clause.clause-index in
    let ks = c.args.clauses.now in
    let d : Clause = record { functor = record { name = record { number = 0 }; arity = 0 }; place = 0; body = None } in
    let k = get_or ks i d in
    let starts = c.args.starts.now in
    subst (λ (xs : List Clause). HasOpened starts xs c.add.new.known.keys c.add.new.opening.items (Some c.filed_at-filed.result) c.args.warnings.now.items c.add.new.warnings.items)
    (take_next ks i d c.loop-clause-test.true)
    (opened_by starts (take i ks) k c.filed_at-filed.result c.loop-clause.known.keys c.add.new.known.keys c.loop-clause.opening.items c.add.new.opening.items c.loop-clause.before
    c.args.warnings.now.items c.loop-clause.warnings.items c.add.new.warnings.items
    c.filed_at-filed.ensures c.loop-clause.invariant c.in_ok-add.ensures.known c.in_ok-add.ensures.opening c.in_ok-add.ensures.apart)
