pub mod BothWays
pub mod EqualRaster
pub mod Exchanged
pub mod Known
