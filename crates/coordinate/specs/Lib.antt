pub mod Coordinate
pub mod Nearest
pub mod Known
