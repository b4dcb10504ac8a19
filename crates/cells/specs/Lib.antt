pub mod Cells
pub mod CellCauses
pub mod Places
pub mod CellLaws
pub mod Rising
