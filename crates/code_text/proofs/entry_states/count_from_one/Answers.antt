use Rattle.std.proofs.Common.{◌≡◌, ◌+◌, ◌∙◌, true, false, rules, arith, sym}
use Rattle.range_code.proofs.Lemmas.{any_has}
use Rattle.code_text.proofs.EntryStates.{count_more}
use Rattle.code_text.proofs.entry_states.count_from_one.Goals as goal

pub loop-count-preserved : goal.loop-count-preserved
loop-count-preserved c =
    let keys = c.args.set.now.keys in
    let n = c.loop-count.count in
    let t : c.contains.result ≡ true = search rules in
    count_more keys n c.loop-count.invariant (sym (any_has keys (n + 1)) ∙ sym c.contains.ensures ∙ t)

pub returns-then-not-contains : goal.returns-then-not-contains
returns-then-not-contains c =
    let keys = c.args.set.now.keys in
    let n = c.loop-count.count in
    let f : c.contains.result ≡ false = search rules in
    record { within = omega arith; there = c.loop-count.invariant; next = λ l t. (let e : false ≡ true = sym f ∙ c.contains.ensures ∙ any_has keys (n + 1) ∙ t in cc (e)) }
