pub mod Row
pub mod Search
pub mod SearchFacts
pub mod Known
