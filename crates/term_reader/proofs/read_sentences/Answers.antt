use Rattle.term_reader.proofs.Verdicts.{only}
use Rattle.term_reader.proofs.VariableNames.{if_named}
use Rattle.term_reader.proofs.GivenParts.{if_parts}
use Rattle.term_reader.proofs.read_sentences.Goals as goal

pub returns-clause-only : goal.returns-clause-only
returns-clause-only c = only c.read_text.result c.args.text.now c.read_text.ensures.found c.read_text.ensures.fault

pub returns-clause-names : goal.returns-clause-names
returns-clause-names c = if_named c.read_text.result c.args.text.now c.read_text.ensures.found

pub returns-clause-parts : goal.returns-clause-parts
returns-clause-parts c = if_parts c.read_text.result c.args.text.now c.read_text.ensures.found
