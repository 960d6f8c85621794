pub mod Breaks
pub mod Parameters
pub mod Scopes
pub mod Edges
pub mod Scenes
pub mod Names
pub mod Laws
