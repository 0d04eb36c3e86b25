use Rattle.std.proofs.Common.{ap, ◌∙◌}
use Rattle.clause_check.specs.Programs.{program_in}
use Rattle.clause_check.proofs.Programs.{kept_program, program_is}
use Rattle.clause_check.proofs.check_program.Goals as goal

pub from_parts-requires : goal.from_parts-requires
from_parts-requires c = kept_program c.args.infinity c.args.s c.in-Ok.parts c.requires.own c.requires.names c.requires.parts c.in-Ok.ensures.accepted c.in-Ok.ensures.stands

pub returns-in-Ok-clause-program : goal.returns-in-Ok-clause-program
returns-in-Ok-clause-program c = ap program_in c.from_parts.ensures ∙ program_is c.args.infinity c.args.s c.in-Ok.parts c.in-Ok.ensures.stands
