pub mod Splits
pub mod Tables
pub mod Laws
