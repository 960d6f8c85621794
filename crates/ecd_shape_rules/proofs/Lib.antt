pub mod Kept
pub mod DifferentKeys
pub mod AlikeValues
pub mod Listed
pub mod ListedDemands
pub mod ListedMaps
pub mod OverLists
