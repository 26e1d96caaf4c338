pub mod Searches
pub mod Grounds
pub mod Forests
pub mod Fewest
pub mod Layers
pub mod Laws
