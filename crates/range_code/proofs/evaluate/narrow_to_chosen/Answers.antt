use Rattle.std.proofs.Common.{[], arith}
use Rattle.range_code.specs.Choices.{left_chosen}
use Rattle.range_code.proofs.ChosenMembers.{none_left, all_left, some_left}
use Rattle.range_code.proofs.evaluate.narrow_to_chosen.Goals as goal

pub returns-then-count-eq0-clause-narrowed : goal.returns-then-count-eq0-clause-narrowed
returns-then-count-eq0-clause-narrowed c = let e = c.in_ok-count.ensures.count in
    none_left c.args.target.now c.args.keys.now c.args.pairs.now c.size-members.ensures.rising (omega (arith, e, c.if-count-eq0.true))

pub returns-then-count-members-clause-narrowed : goal.returns-then-count-members-clause-narrowed
returns-then-count-members-clause-narrowed c = let e = c.in_ok-count.ensures.count in
    all_left c.args.target.now c.args.keys.now c.args.pairs.now c.size-members.ensures.rising
    (omega (arith, e, c.if-count-members.true, c.size-members.ensures.size))

pub returns-clause-narrowed : goal.returns-clause-narrowed
returns-clause-narrowed c =
    let e = c.in_ok-count.ensures.count in
    some_left c.args.target.now c.args.keys.now c.args.pairs.now c.size-members.ensures.rising c.in_ok-pop_set.field-0
    (c.in_ok-pop_set.ensures.taken (left_chosen c.args.target.now c.args.keys.now c.args.pairs.now) [] c.in_ok-count.ensures.gathered)
    (λ h. let k : ⊥ = omega (arith, e, h, c.if-count-eq0.false) in k) (λ h. let k : ⊥ = omega (arith, e, h, c.if-count-members.false, c.size-members.ensures.size) in k)
