-- What the proofs of several functions use.
pub mod Answers
pub mod Columns
pub mod Lengths
pub mod Putting
pub mod PuttingRows
pub mod Taking
pub mod TakingRows
