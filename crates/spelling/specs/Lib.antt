pub mod Pieces
pub mod Fields
pub mod Kinds
pub mod Lines
pub mod Loads
pub mod Laws
