pub mod ListRows
pub mod CodeRows
pub mod Fresh
pub mod After
pub mod OuterMarks
pub mod Renumbered
pub mod Updates
