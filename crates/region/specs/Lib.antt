pub mod Dimension
pub mod Region
pub mod Within
pub mod Regions
pub mod Halving
pub mod RegionCount
pub mod Lookup
