use Rattle.std.proofs.Common.{List, ◌∙◌, subst}
use Rattle.text_warnings.specs.declared.clauses.Clause.{Clause}
use Rattle.text_warnings.specs.Graphs.{AreKeys}
use Rattle.text_warnings.proofs.ClausePredicates.{opening_keys}
use Rattle.text_warnings.proofs.WarningOrder.{on_ok}
use Rattle.text_warnings.proofs.WarningViews.{predicates_put}
use Rattle.text_warnings.proofs.unreached_predicates.put_found.Goals as goal

pub put_by-requires-clause-functors : goal.put_by-requires-clause-functors
put_by-requires-clause-functors c =
    opening_keys c.args.starts.now c.args.clauses.now c.collect.new.functors.keys
    (subst (λ (ks : List Clause). AreKeys ks c.collect.new.functors.keys) (c.deref.ensures.value ∙ c.in_ok-open_files.ensures.opening) c.in_ok-collect.ensures.functors)

pub returns : goal.returns
returns c =
    let starts = c.args.starts.now in
    let ks = c.args.clauses.now in
    let keys = c.collect.new.functors.keys in
    let known = opening_keys starts ks keys
    (subst (λ (us : List Clause). AreKeys us keys) (c.deref.ensures.value ∙ c.in_ok-open_files.ensures.opening) c.in_ok-collect.ensures.functors) in
    on_ok c.put_by.result
    (predicates_put starts c.args.sentences.now c.requires.own ks keys c.requires.clauses c.requires.kept known
    c.deref.result.now c.deref-2.result.now c.args.warnings.now.items c.open_files.new.warnings.items c.collect.new.warnings.items c.put_by.new.warnings.items
    (c.deref.ensures.value ∙ c.in_ok-open_files.ensures.opening) c.in_ok-open_files.ensures.apart (c.deref-2.ensures.value ∙ c.in_ok-collect.ensures.first) c.in_ok-collect.ensures.repeated)
    c.put_by.ensures
