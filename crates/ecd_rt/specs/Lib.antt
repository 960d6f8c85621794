pub mod Names
pub mod Variables
pub mod Trees
pub mod Meanings
pub mod Standing
pub mod Runtime
