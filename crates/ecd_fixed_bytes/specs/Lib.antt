pub mod Compare
pub mod Copier
pub mod HeadWriter
pub mod Utf8
pub mod Standing
