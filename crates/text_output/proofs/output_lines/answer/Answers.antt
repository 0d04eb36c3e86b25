use Rattle.text_output.proofs.Endings.{no_pieces}
use Rattle.text_output.proofs.output_lines.answer.Goals as goal

pub returns-in-Err-clause-pieces : goal.returns-in-Err-clause-pieces
returns-in-Err-clause-pieces g c = λ ps h. no_pieces _ ps
