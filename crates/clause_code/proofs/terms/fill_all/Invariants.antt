use Rattle.std.proofs.Common.{◌≡◌, ◌++◌, length}
use Rattle.clause_code.specs.Steps.{filled, fills}
use Rattle.clause_code.proofs.terms.fill_all.Given as goal

abbrev pub invariant-loop-x : goal.invariant-loop-x
invariant-loop-x l = record {
  codes : l.code.items ≡ l.fn.code.items ++ fills l.homes l.scratch l.fn.made.items l.x;
  marks : l.made.items ≡ filled l.fn.made.items l.x;
  long : length l.made.items ≡ length l.homes;
}
