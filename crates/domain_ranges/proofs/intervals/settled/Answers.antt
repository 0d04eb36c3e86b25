use Rattle.std.proofs.Common.{rules, ap, sym, subst, ◌∙◌, ◌≡◌}
use Rattle.std.specs.List.Sorted.{IsPermutation}
use Rattle.std.proofs.lemmas.List.Sorted.{IsNonDecreasingBy-from_sort_by_key}
use Rattle.std.proofs.lemmas.Result.{IfOk-weaker}
use Rattle.domain_ranges.specs.Spans.{Span, members}
use Rattle.domain_ranges.specs.StackedSets.{numbers, AreIntervals, AreRising}
use Rattle.domain_ranges.proofs.StackedSets.{numbers_of, sorted_rises, permuted_numbers, permuted_intervals}
use Rattle.domain_ranges.proofs.intervals.settled.Goals as goal

pub returns-then-is_apart-clause-set : goal.returns-then-is_apart-clause-set
returns-then-is_apart-clause-set c = ap members c.in_ok-from_slice.ensures.ok ∙ sym (numbers_of c.args.spans.now (c.is_apart.ensures c.if-is_apart.true))

pub join_rising-requires-2-clause-intervals : goal.join_rising-requires-2-clause-intervals
join_rising-requires-2-clause-intervals c = subst AreIntervals (sym c.deref.ensures.value)
    (permuted_intervals c.args.spans.now c.sort_unstable_by_key.new.self.items
    (subst (λ l. IsPermutation l c.sort_unstable_by_key.new.self.items) c.in_ok-sorted.ensures.items c.sort_unstable_by_key.ensures.permutation) c.requires)

pub join_rising-requires-2-clause-rising : goal.join_rising-requires-2-clause-rising
join_rising-requires-2-clause-rising c = subst (AreRising 0) (sym c.deref.ensures.value)
    (sorted_rises c.sort_unstable_by_key.new.self.items (IsNonDecreasingBy-from_sort_by_key (λ (s : Span). s.0) _ c.sort_unstable_by_key.ensures.sorted
    (λ a r q k. search rules)))

pub returns-clause-set : goal.returns-clause-set
returns-clause-set c = IfOk-weaker c.join_rising-2.result (λ list. members list.items ≡ numbers c.deref.result.now) (λ list. members list.items ≡ numbers c.args.spans.now)
    (λ list e. e ∙ (ap numbers c.deref.ensures.value ∙ permuted_numbers c.args.spans.now c.sort_unstable_by_key.new.self.items
    (subst (λ l. IsPermutation l c.sort_unstable_by_key.new.self.items) c.in_ok-sorted.ensures.items c.sort_unstable_by_key.ensures.permutation)))
    c.join_rising-2.ensures.set
