pub mod SearchNumbers
pub mod Steps
pub mod Turns
pub mod WalksBack
