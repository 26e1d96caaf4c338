pub mod Nodes
pub mod Walking
pub mod Words
