pub mod Reaching
pub mod Linking
pub mod Entering
pub mod Following
pub mod Leaving
pub mod Completing
pub mod Spreading
