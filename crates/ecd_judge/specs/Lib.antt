pub mod Request
pub mod Schema
pub mod Refusals
