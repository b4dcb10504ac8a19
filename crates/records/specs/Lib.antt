pub mod Bytes
pub mod ByteLaws
pub mod Records
pub mod RecordLaws
pub mod Kinds
pub mod Frame
pub mod RowLaws
