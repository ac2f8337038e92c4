pub mod Worth
pub mod Touching
pub mod PenFacts
pub mod Known
