pub mod Prelude
pub mod Sockets
pub mod Rows
pub mod Laws
