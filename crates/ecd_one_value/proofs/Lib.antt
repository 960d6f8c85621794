pub mod Starts
pub mod Splits
pub mod OneMap
pub mod OneValue
pub mod SplitLaws
pub mod TableLaws
