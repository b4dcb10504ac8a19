pub mod Each
pub mod EachLaws
pub mod Library
pub mod Read
pub mod Tests
pub mod MarkLaws
pub mod Sizes
pub mod Ends
