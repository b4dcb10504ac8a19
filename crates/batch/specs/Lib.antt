pub mod Parts
pub mod PartLaws
pub mod Batch
pub mod BatchCauses
pub mod Accepted
pub mod Theorems
