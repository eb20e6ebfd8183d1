pub mod Padded
