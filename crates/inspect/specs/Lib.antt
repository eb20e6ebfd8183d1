pub mod Facts
pub mod Seal
pub mod Text
pub mod Task
