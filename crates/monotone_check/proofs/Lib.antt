mod Bounds
mod Leaves
mod Operators
mod Ranges
mod NodeChecks
mod NodeWalk
mod Clashes
mod RangeVerdict
mod PlaceNeeds
mod NodeNeeds
mod LastItems
mod JoinedNeeds
mod NeedLoops
pub mod Lemmas
