pub mod Layers
pub mod Only
pub mod Pushing
pub mod Inside
