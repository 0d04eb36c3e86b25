use Rattle.std.proofs.Common.{◌≡◌, ◌<◌, ◌==◌, ℕ, length, false, arith, sym, ◌∙◌}
use Rattle.std.proofs.lemmas.Bool.Decides.{nat_tests}
use Rattle.clause_compiler.proofs.ListCode.{list_more, list_whole}
use Rattle.clause_compiler.proofs.choices.put_list.Goals as goal

some : (n : ℕ) → (n == 0) ≡ false → 0 < n
some n e = grind (arith, nat_tests)

pub loop-i-preserved : goal.loop-i-preserved
loop-i-preserved c =
    list_more c.args.clauses.now c.loop-i.i c.args.code.now.items c.loop-i.code.items c.push-in-loop-i.new.self.items c.choice_of.result c.loop-i-test.true
    c.loop-i.invariant c.choice_of.ensures c.in_ok-push-2.ensures.items

pub returns : goal.returns
returns c = list_whole c.args.clauses.now c.loop-i.i c.args.code.now.items c.loop-i.code.items
    (some (length c.args.clauses.now) (sym c.is_empty.ensures ∙ c.if-is_empty.false)) (omega arith) c.loop-i.invariant
