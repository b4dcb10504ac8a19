pub mod Reading
pub mod Settles
pub mod Loop
pub mod Candidates
