pub mod Keys
pub mod Components
