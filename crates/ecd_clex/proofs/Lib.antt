pub mod Tokens
pub mod Scanned
pub mod Standing
pub mod Digits
