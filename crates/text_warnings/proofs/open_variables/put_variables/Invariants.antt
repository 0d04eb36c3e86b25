use Rattle.std.proofs.Common.{◌≡◌, take}
use Rattle.std.specs.Prelude.{◌||◌}
use Rattle.std.specs.List.{list_any}
use Rattle.text_warnings.specs.Numbers.{is_in}
use Rattle.text_warnings.specs.OpenVariables.{numbers_of}
use Rattle.text_warnings.proofs.ReachedNumbers.{HasPut}
use Rattle.text_warnings.proofs.open_variables.put_variables.Given as goal

abbrev pub invariant-loop-occurrence : goal.invariant-loop-occurrence
invariant-loop-occurrence l = record {
  put : HasPut l.initial.into.keys (numbers_of (take l.occurrence-index l.found)) l.into.keys;
  mixed : l.mixed ≡ (l.fn.mixed || list_any (is_in l.other.keys) (numbers_of (take l.occurrence-index l.found)));
}
