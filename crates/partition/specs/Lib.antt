pub mod Marks
pub mod MarksCauses
pub mod Parts
