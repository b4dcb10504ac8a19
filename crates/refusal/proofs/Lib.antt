pub mod Numbers
pub mod Never
