use Rattle.std.proofs.Common.{◌+◌, take, get_or, rules}
use Rattle.std.proofs.lemmas.List.{take_more}
use Rattle.text_warnings.proofs.ReachedNumbers.{put_none, put_more}
use Rattle.text_warnings.proofs.reach.insert_all.Goals as goal

pub loop-number-init : goal.loop-number-init
loop-number-init c = put_none c.args.reached.now.keys

pub loop-number-preserved : goal.loop-number-preserved
loop-number-preserved c =
    let i = c.loop-number.number-index in
    let ns = c.args.numbers.now in
    let m = get_or ns i 0 in
    put_more c.args.reached.now.keys (take i ns) (take (i + 1) ns) c.loop-number.reached.keys c.insert.new.self.keys m c.loop-number.invariant (search rules) (take_more ns i 0 c.loop-number-test.true)
