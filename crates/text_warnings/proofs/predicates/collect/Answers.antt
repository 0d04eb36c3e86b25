use Rattle.std.proofs.Common.{List, [], None, take, get_or, ap, ◌∙◌, subst, arith}
use Rattle.std.specs.List.{list_any}
use Rattle.std.proofs.lemmas.List.{take_all}
use Rattle.text_warnings.specs.declared.clauses.Clause.{Clause}
use Rattle.text_warnings.specs.Terms.{same_numbers}
use Rattle.text_warnings.specs.WarningViews.{key_of}
use Rattle.text_warnings.proofs.RunSteps.{behind}
use Rattle.text_warnings.proofs.ClausePredicates.{HasCollected, collected_none, collected_more, collected_keys, take_next}
use Rattle.text_warnings.proofs.predicates.collect.Goals as goal

pub loop-clause-init : goal.loop-clause-init
loop-clause-init c = collected_none c.args.functors.now.keys c.args.first.now.items c.args.warnings.now.items c.requires.functors c.requires.first

pub loop-clause-preserved : goal.loop-clause-preserved
loop-clause-preserved c =
    let i = c.loop-clause.clause-index in
    let ks = c.args.clauses.now in
    let d : Clause = record { functor = record { name = record { number = 0 }; arity = 0 }; place = 0; body = None } in
    let k = get_or ks i d in
    subst (λ (xs : List Clause). HasCollected xs c.add_opening.new.functors.keys c.add_opening.new.first.items c.args.warnings.now.items c.add_opening.new.warnings.items)
    (take_next ks i d c.loop-clause-test.true)
    (collected_more (take i ks) k c.loop-clause.functors.keys c.add_opening.new.functors.keys c.loop-clause.first.items c.add_opening.new.first.items
    c.args.warnings.now.items c.loop-clause.warnings.items c.add_opening.new.warnings.items
    c.loop-clause.invariant c.in_ok-add_opening.ensures.functors c.in_ok-add_opening.ensures.first c.in_ok-add_opening.ensures.repeated)

pub returns-clause-functors : goal.returns-clause-functors
returns-clause-functors c =
    let ks = c.args.clauses.now in
    let whole = take_all c.loop-clause.clause-index ks (omega arith) in
    collected_keys ks c.loop-clause.functors.keys (λ f. c.loop-clause.invariant.firsts.keys_are f ∙ ap (λ (us : List Clause). list_any (same_numbers f) (behind same_numbers key_of [] us)) whole)
