pub mod Taking
pub mod Firsts
pub mod Args
pub mod StmtLayers
pub mod NameLayers
pub mod Files
