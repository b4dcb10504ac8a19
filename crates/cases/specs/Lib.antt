pub mod Cases
pub mod Further
