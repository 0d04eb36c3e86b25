-- What a goal `T in r` does to a branch.
use Rattle.std.specs.Prelude.{Bool, true, false}
use Rattle.branch_state.specs.declared.step.Step.{Step}
use Rattle.branch_state.specs.declared.step.Step.TheVariants.{Kept, Failed}

-- whether there is a model, as a step
abbrev pub kept_step : Bool → Step
kept_step true = Kept
kept_step false = Failed
