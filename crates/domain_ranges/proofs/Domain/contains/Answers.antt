use Rattle.std.proofs.Common.{◌∙◌, sym, to_z-of_z, inl, inr}
use Rattle.std.proofs.lemmas.Bool.{true≢false}
use Rattle.fd_language.specs.declared.TheConstants.{INFINITY}
use Rattle.domain_ranges.proofs.Members.{member_of, outside}
use Rattle.domain_ranges.proofs.Integers.{from_zero, below_zero, above_all}
use Rattle.domain_ranges.proofs.Domain.contains.Goals.{then-n-ge0, else-n-ge0}
use Rattle.domain_ranges.proofs.Domain.contains.Goals as goal

pub returns-then-n-clause-member : goal.returns-then-n-clause-member
returns-then-n-clause-member c = member_of INFINITY c.spans-spans.result.now c.args.self.now c.args.n _ c.contains.result c.spans-spans.ensures.spans c.spans-spans.ensures.members c.contains.ensures
    (elim c.if-n-ge0.branch [
      | then-n-ge0 w ↦ from_zero c.args.n _ (to_z-of_z c.ranges.n) w.if-n-ge0.true
      | else-n-ge0 w ↦ absurd (true≢false (sym c.if-n.true ∙ w.value-is ∙ w.if-n-ge0.false))
    ])

pub returns-else-n-clause-member : goal.returns-else-n-clause-member
returns-else-n-clause-member c = c.if-n.false ∙ sym (outside INFINITY c.args.self.now c.args.n c.spans-spans.ensures.rising
    (elim c.if-n-ge0.branch [
      | then-n-ge0 w ↦ inr (above_all INFINITY c.args.n _ (to_z-of_z c.ranges.n) (sym w.value-is ∙ c.if-n.false))
      | else-n-ge0 w ↦ inl (below_zero c.args.n _ (to_z-of_z c.ranges.n) w.if-n-ge0.false)
    ]))
