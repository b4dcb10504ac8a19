pub mod Updated
pub mod UpdateCauses
pub mod Accepted
pub mod ContentLaws
pub mod CodeMoves
