mod Steps
mod UnifyInstructions
mod ReadSteps
mod BuildSteps
mod Structure
mod Head
mod BoundStructures
mod PairSteps
