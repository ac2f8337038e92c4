pub mod Difference
pub mod Bias
pub mod Shift
pub mod Nearest
pub mod Known
