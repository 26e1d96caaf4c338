pub mod Cuts
pub mod Flows
pub mod Paths
pub mod Rounds
pub mod Levels
pub mod Trees
pub mod Layers
pub mod Laws
