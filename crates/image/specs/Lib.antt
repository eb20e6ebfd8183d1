pub mod Check
pub mod Sums
pub mod Reading
pub mod Startable
