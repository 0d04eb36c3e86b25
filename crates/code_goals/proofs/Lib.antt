mod Tasks
mod GrownHeaps
mod GoalSafety
mod Texts
mod Numbers
mod BuiltinGoals
mod ConstraintGoals
mod Posting
mod Labelling
mod BestLeaf
mod AnswerSlots
pub mod Lemmas
