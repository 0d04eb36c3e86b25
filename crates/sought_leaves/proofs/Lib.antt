mod Members
mod Values
mod Heaps
mod Nodes
mod NodeViews
mod LeafSearch
mod BranchViews
mod ValueChoices
pub mod Lemmas
