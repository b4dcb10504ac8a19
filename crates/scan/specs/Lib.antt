pub mod Scanning
pub mod Ranked
pub mod Scanned
pub mod Leaves
pub mod Present
pub mod Plain
