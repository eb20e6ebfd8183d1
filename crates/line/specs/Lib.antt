pub mod One
pub mod Every
