pub mod Bridge
pub mod Trips
pub mod Chart
pub mod Theorems
