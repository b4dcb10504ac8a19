pub mod Vectors
pub mod VectorCauses
pub mod OwnCodes
