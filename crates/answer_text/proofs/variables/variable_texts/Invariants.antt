use Rattle.std.proofs.Common.{◌≡◌, ℕ, ◌++◌, List, take}
use Rattle.answer_text.specs.Pieces.{inserted}
use Rattle.answer_text.specs.Variables.{AreTexts, open_by, set_by}
use Rattle.answer_text.proofs.variables.variable_texts.Given as goal

abbrev pub invariant-loop-variable : goal.invariant-loop-variable
invariant-loop-variable l =
    record {
      numbers : l.numbers.keys ≡ inserted l.fn.numbers.keys (take l.variable-index l.variables);
      texts : (more : List ℕ) → AreTexts (open_by (set_by l.sets) (l.numbers.keys ++ more)) (take l.variable-index l.variables) l.texts.items;
    }
