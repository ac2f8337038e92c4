pub mod Rows
pub mod Passing
pub mod Searching
pub mod Cells
pub mod SearchFacts
pub mod Known
