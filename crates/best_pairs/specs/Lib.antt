pub mod Kept
pub mod Place
pub mod Holds
pub mod Gathered
