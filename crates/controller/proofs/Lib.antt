pub mod Ends
pub mod Restarts
pub mod Receives
pub mod Plays
