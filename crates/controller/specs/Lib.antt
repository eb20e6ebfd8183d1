pub mod Machines
pub mod Playing
