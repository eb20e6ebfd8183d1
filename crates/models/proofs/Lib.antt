pub mod Segments
pub mod Outcomes
