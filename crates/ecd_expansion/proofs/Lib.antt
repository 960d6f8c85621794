pub mod Steps
pub mod OneOfBoth
pub mod OneTest
