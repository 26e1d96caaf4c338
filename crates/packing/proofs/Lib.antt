pub mod Questions
pub mod Counts
pub mod Named
pub mod Planted
pub mod Grown
