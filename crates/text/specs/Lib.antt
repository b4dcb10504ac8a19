pub mod Text
pub mod TextLaws
pub mod Puts
pub mod Told
