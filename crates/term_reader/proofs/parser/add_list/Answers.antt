use Rattle.std.proofs.Common.{◌≡◌, ◌+◌, ◌-◌, arith, subst, ℕ}
use Rattle.term_reader.proofs.Lists.{ListSoFar, list_ends, list_goes_on}
use Rattle.term_reader.proofs.parser.add_list.Goals as goal

pub loop-count-preserved : goal.loop-count-preserved
loop-count-preserved c =
    let n = c.loop-count.count in
    let is : n ≡ (n - 1) + 1 = omega (arith, c.loop-count-test.true) in
    let now = subst (λ (k : ℕ). ListSoFar c.args.pool.now c.loop-count.pool c.args.elements.now c.args.place k c.args.tail c.loop-count.list) is c.loop-count.invariant in
    list_goes_on c.args.pool.now c.loop-count.pool c.add_compound.new.pool c.args.elements.now c.args.place (n - 1) c.args.tail c.loop-count.list
    c.in_ok-list.list _ c.requires.pool c.requires.elements now c.in_ok-list.ensures

pub returns : goal.returns
returns c = list_ends c.args.pool.now c.loop-count.pool c.args.elements.now c.args.place c.loop-count.count c.args.tail c.loop-count.list c.loop-count.invariant
    (omega (arith, c.loop-count-test.false))
