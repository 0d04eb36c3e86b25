use Rattle.std.proofs.Common.{refl, sym, map, string_bytes}
use Rattle.text_output.proofs.Lemmas.{without_memory}
use Rattle.clpcode.proofs.Endings.{with_usage}
use Rattle.clpcode.proofs.run.run_code.Goals as goal

pub returns-in-None-clause-headline : goal.returns-in-None-clause-headline
returns-in-None-clause-headline g c = with_usage (map string_bytes c.args.words.now) _ _ c.put_last.result (sym c.in-None.ensures) refl refl (without_memory _ _ _ _ _ c.put_last.ensures.ending)

pub returns-in-Some-clause-headline : goal.returns-in-Some-clause-headline
returns-in-Some-clause-headline g c = c.answer_source.ensures (map string_bytes c.args.words.now) (sym c.in-Some.ensures)

pub returns-in-None-clause-usage : goal.returns-in-None-clause-usage
returns-in-None-clause-usage g c = λ asks. c.put_last.ensures.ending
