pub mod Progress
pub mod Packet
pub mod Events
