pub mod Cutting
pub mod Digits
pub mod Reading
pub mod Lawful
pub mod Spelling
