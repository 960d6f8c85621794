pub mod Layers
pub mod Results
pub mod Again
pub mod Takes
pub mod Refusing
pub mod Naming
pub mod Unique
pub mod Shallow
