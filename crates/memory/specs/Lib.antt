pub mod State
pub mod Change
pub mod Make
pub mod Ran
