mod Ranks
mod Adding
mod Numbering
mod Gathering
mod Tabling
mod Sockets
mod Firsts
pub mod Marking
pub mod Judging
mod Judged
mod Bodies
mod Grouping
