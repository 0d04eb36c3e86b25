use Rattle.std.proofs.Common.{ap, ◌∙◌, ◌∷◌}
use Rattle.std.proofs.lemmas.Result.{on_ok_weaker}
use Rattle.domain_ranges.proofs.StackedSets.{numbers_of}
use Rattle.domain_ranges.proofs.set_stack.SetStack.push.Goals as goal

pub returns-clause-pushed : goal.returns-clause-pushed
returns-clause-pushed c = on_ok_weaker c.put.result (λ e. e ∙ ap (λ l. l ∷ c.args.self.now.sets) (numbers_of c.spans.result.now c.spans.ensures.spans ∙ c.spans.ensures.members)) c.put.ensures.pushed
