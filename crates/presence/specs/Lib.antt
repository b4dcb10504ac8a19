pub mod Presence
pub mod PresenceLaws
