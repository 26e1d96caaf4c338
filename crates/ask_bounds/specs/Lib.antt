pub mod Parishes
pub mod Told
