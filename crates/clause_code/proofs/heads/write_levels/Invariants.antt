use Rattle.std.proofs.Common.{◌≡◌, ◌-◌, ◌≤◌, ◌++◌}
use Rattle.clause_code.specs.ClauseParts.{level_codes}
use Rattle.clause_code.proofs.heads.write_levels.Given as goal

abbrev pub invariant-loop-slot : goal.invariant-loop-slot
invariant-loop-slot l = record {
  codes : l.code.items ≡ l.fn.code.items ++ level_codes (l.slot - l.fn.levels.first) l.fn.levels.first;
  early : l.fn.levels.end ≤ l.fn.levels.first → l.slot ≡ l.fn.levels.first;
}
