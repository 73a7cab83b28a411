pub mod Walks
pub mod OneRoad
pub mod Front
pub mod Legs
pub mod Labels
pub mod Invariant
pub mod Theorems
