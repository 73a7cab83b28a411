pub mod Capacity
pub mod Meaning
pub mod Laws
pub mod Charge
pub mod Profile
pub mod Picked
pub mod ChargeLaws
pub mod ProfileLaws
