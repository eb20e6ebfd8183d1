pub mod Cells
pub mod Technologies
pub mod Simulated
pub mod Views
pub mod Kept
