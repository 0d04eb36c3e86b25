use Rattle.std.proofs.Common.{rules, ltb, arith}
use Rattle.std.proofs.lemmas.List.Sorted.{IsPartitionPoint-from_clause, IsPartitionedBy-ltb}
use Rattle.std.proofs.lemmas.Bool.{ltb-true, ltb-false}
use Rattle.domain_ranges.specs.Spans.{Span}
use Rattle.domain_ranges.proofs.Places.{ends_rise}
use Rattle.fd_language.specs.declared.TheConstants.{INFINITY}
use Rattle.domain_ranges.proofs.intervals.place_from.Goals as goal

pub returns-clause-before : goal.returns-clause-before
returns-clause-before c =
    let parted = IsPartitionedBy-ltb (λ (s : Span). s.1) c.args.spans.now c.args.n (λ i j d h g. ends_rise 0 INFINITY i j c.args.spans.now d c.requires h g) in
    let point = IsPartitionPoint-from_clause (λ (s : Span). ltb s.1 c.args.n) _ _ c.partition_point.ensures.partitioned parted (λ a r q k. search rules) in
    λ k d h. ltb-true _ _ (point.0 k d (omega arith) h)

pub returns-clause-after : goal.returns-clause-after
returns-clause-after c =
    let parted = IsPartitionedBy-ltb (λ (s : Span). s.1) c.args.spans.now c.args.n (λ i j d h g. ends_rise 0 INFINITY i j c.args.spans.now d c.requires h g) in
    let point = IsPartitionPoint-from_clause (λ (s : Span). ltb s.1 c.args.n) _ _ c.partition_point.ensures.partitioned parted (λ a r q k. search rules) in
    λ k d h g. ltb-false _ _ (point.1 k d h g)
