pub mod Firsts
pub mod Heads
pub mod Meanings
pub mod Framed
pub mod Extents
pub mod ExtentsStanding
pub mod Standing
