pub mod Gates
pub mod Shapes
