pub mod Counts
pub mod Boxes
pub mod Keys
pub mod Apart
pub mod Laws
