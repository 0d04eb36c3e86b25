use Rattle.fd_model.specs.Output.{stop_status}
use Rattle.clause_check.specs.Programs.{program_in}
use Rattle.text_output.proofs.Endings.{no_memory, no_pieces}
use Rattle.text_output.proofs.ProgramCode.{runs_program}
use Rattle.text_output.proofs.output_lines.answer_program.Goals as goal

pub returns-in-Ok-clause-output : goal.returns-in-Ok-clause-output
returns-in-Ok-clause-output g c = λ out stop h.
    let p = c.args.program in
    c.answer_code.ensures.output (program_in p) out stop (runs_program c.in-Ok.code p c.known.ensures c.in-Ok.ensures.stands) h

pub returns-in-Ok-clause-pieces : goal.returns-in-Ok-clause-pieces
returns-in-Ok-clause-pieces g c = λ ps stop h.
    let p = c.args.program in
    c.answer_code.ensures.pieces (program_in p) ps stop (runs_program c.in-Ok.code p c.known.ensures c.in-Ok.ensures.stands) h

pub returns-in-Err-clause-output : goal.returns-in-Err-clause-output
returns-in-Err-clause-output g c = λ out stop h. no_memory _ (stop_status stop) out

pub returns-in-Err-clause-pieces : goal.returns-in-Err-clause-pieces
returns-in-Err-clause-pieces g c = λ ps stop h. no_pieces _ ps
