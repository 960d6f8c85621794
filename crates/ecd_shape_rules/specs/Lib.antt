pub mod Starts
pub mod Alike
pub mod Demands
pub mod Listed
pub mod ListedMaps
pub mod OverLists
pub mod Laws
