mod Positions
mod Naming
mod Repeats
pub mod Walking
mod Scoping
mod Linking
pub mod Nodes
pub mod Graphs
pub mod Components
mod Duplicates
mod Judging
mod Preludes
mod Typing
mod Cycles
mod Ranking
pub mod Resolving
mod Counting
