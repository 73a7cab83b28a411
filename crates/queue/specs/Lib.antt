pub mod Heaps
pub mod Sifting
pub mod Waiting
