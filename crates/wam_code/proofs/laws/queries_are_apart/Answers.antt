use Rattle.wam_code.proofs.CodeRegions.{falls_inside, names_outside, falls_outside, entry_outside, returns_outside, executes_outside, no_answer_outside}
use Rattle.wam_code.proofs.CodeRegions.{shown_are_cells}
use Rattle.wam_code.proofs.laws.queries_are_apart.Goals as goal

pub returns : goal.returns
returns c = record {
  names_inside = λ a ss v n q h at to b g. (v.queries n q h).stays at to b g;
  falls_inside = λ a ss v n q h at to b g. falls_inside a ss q (v.queries n q h) at to b g;
  names_outside = names_outside;
  falls_outside = falls_outside;
  entries = entry_outside;
  returns = returns_outside;
  executes = executes_outside;
  answers = no_answer_outside;
  shown = shown_are_cells;
}
