mod Labelling
mod UncountedInstructions
mod WorkMeasure
mod GoalSteps
mod Backtracking
mod MachineRuns
mod StageSteps
mod InitialMachine
