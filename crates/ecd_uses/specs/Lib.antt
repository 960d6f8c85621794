pub mod Leads
pub mod Sites
pub mod Listed
pub mod Laws
pub mod Places
