use Rattle.std.proofs.Common.{◌∙◌, sym, ap, refl, arith}
use Rattle.domain_ranges.specs.StackedSets.{StackedSets}
use Rattle.range_code.proofs.ChosenMembers.{Gathering, gathering_start, gathering_from, gathering_same, skipped_again, skipped_out, skipped_key, taken}
use Rattle.range_code.proofs.choice.gather.Goals.{then-from-pair+then-is_in_first+then-is_key+in_ok-add, else-from-pair}
use Rattle.range_code.proofs.choice.gather.Goals.{else-from-pair-via-then-from-pair+then-is_in_first+else-is_key}
use Rattle.range_code.proofs.choice.gather.Goals.{else-from-pair-via-then-from-pair+else-is_in_first, else-from-pair-via-else-from-pair}
use Rattle.range_code.proofs.choice.gather.Goals as goal

pub loop-pair-init : goal.loop-pair-init
loop-pair-init c = record {
  gathered = gathering_start c.args.target.now c.args.keys.now c.args.pairs.now c.spans-rest.result.now c.args.sets.now.sets c.requires.top c.spans-rest.ensures.spans c.spans-rest.ensures.members;
  room = refl;
}

pub loop-pair-preserved : goal.loop-pair-preserved
loop-pair-preserved c =
    let next : Gathering c.args.target.now c.args.keys.now c.args.pairs.now c.loop-pair.pair-index c.spans_from-rest.result.now c.loop-pair.from
    c.loop-pair.count c.loop-pair.sets.sets = gathering_from c.args.target.now c.args.keys.now c.args.pairs.now c.loop-pair.pair-index c.loop-pair.rest.now
    c.loop-pair.from c.loop-pair.count c.loop-pair.sets.sets c.requires.rising (0, 0) c.loop-pair-test.true c.loop-pair.invariant.gathered
    c.spans_from-rest.result.now c.spans_from-rest.ensures.spans c.spans_from-rest.ensures.same in
    elim c.if-from-pair.branch [
      | then-from-pair+then-is_in_first+then-is_key+in_ok-add w ↦ record {
        gathered = gathering_same _ _ _ _ _ _ _ _ _ _ _ w.from-is w.count-is (ap (λ (x : StackedSets). x.sets) w.sets-is)
            (taken c.args.target.now c.args.keys.now c.args.pairs.now c.loop-pair.pair-index c.spans_from-rest.result.now c.loop-pair.from c.loop-pair.count
            c.loop-pair.sets.sets c.requires.rising (0, 0) c.loop-pair-test.true next w.add.new.self.sets
            (c.requires.high c.loop-pair.pair-index (0, 0) c.loop-pair-test.true) (omega arith) (sym w.is_in_first.ensures ∙ w.if-is_in_first.true)
            (sym w.is_key.ensures ∙ w.if-is_key.true) w.in_ok-add.ensures.added);
        room = ap (λ (x : StackedSets). x.room) w.sets-is ∙ (w.add.ensures.room ∙ c.loop-pair.invariant.room);
      }
      | else-from-pair w ↦ record {
        gathered = gathering_same _ _ _ _ _ _ _ _ _ _ _ w.from-is w.count-is (ap (λ (x : StackedSets). x.sets) w.sets-is)
            (elim w.else-from-pair.branch [
              | else-from-pair-via-then-from-pair+then-is_in_first+else-is_key v ↦ skipped_key c.args.target.now c.args.keys.now c.args.pairs.now
                  c.loop-pair.pair-index c.spans_from-rest.result.now c.loop-pair.from c.loop-pair.count c.loop-pair.sets.sets c.requires.rising (0, 0)
                  c.loop-pair-test.true next (sym v.is_key.ensures ∙ v.if-is_key.false)
              | else-from-pair-via-then-from-pair+else-is_in_first v ↦ skipped_out c.args.target.now c.args.keys.now c.args.pairs.now c.loop-pair.pair-index
                  c.spans_from-rest.result.now c.loop-pair.from c.loop-pair.count c.loop-pair.sets.sets c.requires.rising (0, 0) c.loop-pair-test.true next
                  (sym v.is_in_first.ensures ∙ v.if-is_in_first.false)
              | else-from-pair-via-else-from-pair v ↦ skipped_again c.args.target.now c.args.keys.now c.args.pairs.now c.loop-pair.pair-index
                  c.spans_from-rest.result.now c.loop-pair.from c.loop-pair.count c.loop-pair.sets.sets c.requires.rising (0, 0) c.loop-pair-test.true next
                  (omega arith)
            ]);
        room = ap (λ (x : StackedSets). x.room) w.sets-is ∙ c.loop-pair.invariant.room;
      }
    ]
