pub mod Loops
pub mod Laying
