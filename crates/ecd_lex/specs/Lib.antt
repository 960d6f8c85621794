pub mod Characters
pub mod Forms
pub mod Faults
pub mod Lexemes
pub mod Scan
pub mod Places
