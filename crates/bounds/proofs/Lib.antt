pub mod Sums
pub mod Adding
pub mod Indexed
pub mod Left
pub mod Over
pub mod Fitting
