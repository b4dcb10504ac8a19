pub mod Former
pub mod Remade
