pub mod Grounded
pub mod Stands
pub mod Growing
pub mod Counting
