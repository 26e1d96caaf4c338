pub mod Lots
pub mod Refusals
pub mod Limits
pub mod Model
pub mod Edits
pub mod View
pub mod Weights
