pub mod Asked
pub mod Commands
pub mod Outcomes
pub mod Files
pub mod Calls
pub mod Causes
pub mod Ends
pub mod Answers
