pub mod Laws
pub mod RunLaws
pub mod DoubleStep
pub mod RunLengths
pub mod Facts
pub mod Exchanged
