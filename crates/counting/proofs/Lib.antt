pub mod Boolean
pub mod Any
pub mod Counted
pub mod First
pub mod Each
pub mod Summed
