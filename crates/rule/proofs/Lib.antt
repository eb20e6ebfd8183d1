pub mod Areas
pub mod Mend
pub mod Steps
pub mod Runs
pub mod Jumps
pub mod Good
pub mod Unfinished
pub mod FramesLaw
