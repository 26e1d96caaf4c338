pub mod Parishes
pub mod Worked
pub mod Flow
pub mod Enumerated
pub mod Full
