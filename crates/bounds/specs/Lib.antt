pub mod Bounds
pub mod Consulting
pub mod Adding
pub mod Sums
pub mod Left
pub mod Charges
