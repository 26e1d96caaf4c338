pub mod Lots
pub mod Weights
pub mod Costs
pub mod Bisections
pub mod Answers
pub mod Meanings
pub mod Words
