mod DomainLists
mod Findings
mod Labels
mod ListNodes
mod SearchMembers
mod BestLeafSearch
mod VariableSelection
