pub mod Head
pub mod Fault
pub mod Place
pub mod Steps
pub mod Laws
