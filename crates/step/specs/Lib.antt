pub mod Step
pub mod Order
pub mod Places
pub mod Steps
