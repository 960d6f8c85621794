pub mod Known
pub mod CellMaps
pub mod Directs
pub mod PutFirst
