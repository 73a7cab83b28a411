pub mod Readings
pub mod Bridge
pub mod Trips
pub mod ChartRows
pub mod OneChart
pub mod LeastTimes
pub mod Theorems
