pub mod Write
pub mod Writable
pub mod Sized
pub mod SignedBytes
pub mod WriteLaws
