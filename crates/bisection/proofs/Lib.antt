pub mod Tests
pub mod Steps
pub mod Halves
pub mod Firsts
pub mod Listing
