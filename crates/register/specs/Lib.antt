pub mod Registers
pub mod Whole
pub mod Right
pub mod Held
