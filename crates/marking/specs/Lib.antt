pub mod Made
pub mod Making
pub mod InOrder
pub mod KeysInOrder
pub mod MadeDimension
pub mod MadeLaws
