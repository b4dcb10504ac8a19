-- What the proofs of several functions use.
pub mod Sum
pub mod Filling
