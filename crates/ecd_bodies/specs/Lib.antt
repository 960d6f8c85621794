pub mod Named
pub mod Kinds
pub mod Reaching
pub mod Laws
pub mod Numbers
pub mod Causes
pub mod Tables
