pub mod Searching
pub mod Marked
