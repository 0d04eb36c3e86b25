mod NewVariables
mod Unification
mod SingletonDomains
mod KeptFrames
mod GrownCells
mod RenamedTerms
mod BuiltTerms
mod OpenVariables
mod HeapGrowth
mod AtomNames
mod ConstraintSteps
mod PermutedRanges
mod VariableBounds
pub mod Lemmas
