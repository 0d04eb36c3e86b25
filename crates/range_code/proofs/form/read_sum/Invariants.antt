use Rattle.std.proofs.Common.{◌≡◌, length}
use Rattle.range_code.specs.declared.form.Division.TheVariants.{Whole}
use Rattle.range_code.specs.Forms.{IsBound}
use Rattle.range_code.proofs.form.read_sum.Given as goal

abbrev pub invariant-parts : goal.invariant-parts
invariant-parts l = record {
  bound : IsBound l.nodes l.bound l.rest;
  whole : l.bound.division ≡ Whole;
}

abbrev pub decreases-parts : goal.decreases-parts
decreases-parts l = length l.rest
