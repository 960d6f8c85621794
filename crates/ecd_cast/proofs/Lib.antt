pub mod Kept
pub mod Names
pub mod KindLayers
pub mod SmallRules
pub mod Verdicts
pub mod Layers
pub mod Spelled
