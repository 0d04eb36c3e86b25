mod Numbers
mod PostedValues
mod Nodes
mod PickedMembers
mod Values
mod BoundedLeaves
mod Bounds
mod Steps
mod Work
mod SearchSteps
pub mod Lemmas
