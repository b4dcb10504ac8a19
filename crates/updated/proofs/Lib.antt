pub mod NeverOutside
pub mod Follows
