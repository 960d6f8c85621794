pub mod Comparing
pub mod Copying
pub mod HeadWriting
pub mod Kept
pub mod States
pub mod Texts
