pub mod Layout
pub mod Laws
pub mod Runs
pub mod Stretch
