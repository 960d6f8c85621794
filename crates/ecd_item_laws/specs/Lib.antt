pub mod Encoding
pub mod Valid
pub mod FirstFault
pub mod Reading
pub mod Parts
pub mod Laws
