pub mod Bus
pub mod Restart
pub mod Calls
pub mod Performed
pub mod Rule
pub mod Frame
pub mod Command
pub mod Frames
