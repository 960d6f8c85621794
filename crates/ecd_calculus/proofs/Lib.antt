pub mod Calculus
pub mod Rules
pub mod Loops
pub mod Shapes
pub mod Frame
