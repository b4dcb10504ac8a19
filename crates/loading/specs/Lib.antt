pub mod Load
pub mod Loaded
pub mod Loadable
pub mod Heads
pub mod Filled
pub mod ReadLaws
pub mod Checks
