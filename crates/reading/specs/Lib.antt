pub mod Component
pub mod Intake
pub mod IntakeLaws
pub mod Fields
pub mod Product
pub mod Intakes
