pub mod Reading
pub mod Writing
pub mod Written
pub mod Listing
pub mod Program
pub mod Known
