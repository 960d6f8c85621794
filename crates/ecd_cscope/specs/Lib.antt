pub mod Variables
pub mod Surroundings
