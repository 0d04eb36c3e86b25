mod Tasks
mod Stacks
mod Pools
mod CellReads
mod CellWalk
