pub mod Walking
pub mod Marks
pub mod Scanned
pub mod Sent
pub mod Parishes
