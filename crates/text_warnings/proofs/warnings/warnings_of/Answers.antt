use Rattle.std.proofs.Common.{rules}
use Rattle.std.proofs.lemmas.List.Sorted.{IsNonDecreasingBy-from_sort_by_key, answers_always}
use Rattle.text_warnings.specs.declared.Warning.{Warning}
use Rattle.text_warnings.proofs.WarningOrder.{sorted, sorted_within}
use Rattle.text_warnings.proofs.warnings.warnings_of.Goals as goal

pub returns-clause-warnings : goal.returns-clause-warnings
returns-clause-warnings c =
    sorted c.args.starts.now c.args.sentences.now c.new-warnings.result.items c.put_all.new.warnings.items c.sort_by_key.new.self.items c.new-warnings.ensures.items c.in_ok-put_all.ensures
    (IsNonDecreasingBy-from_sort_by_key (λ (w : Warning). w.place) c.sort_by_key.new.self.items c.in_ok-sort_by_key.ensures.sorted (λ a r q k. search rules))
    (c.in_ok-sort_by_key.ensures.stable (λ (w : Warning). w.place) (answers_always _ _ _ (λ f a r q k. search rules)))

pub returns-clause-own : goal.returns-clause-own
returns-clause-own c =
    sorted_within c.args.starts.now c.args.sentences.now c.new-warnings.result.items c.put_all.new.warnings.items c.sort_by_key.new.self.items c.new-warnings.ensures.items
    c.in_ok-put_all.ensures c.in_ok-sort_by_key.ensures.permutation
