pub mod Numbers
pub mod Cuts
pub mod Events
pub mod Whole
pub mod Held
