pub mod Interpolation
pub mod Runs
pub mod DoubleStep
pub mod Facts
