pub mod Update
pub mod Columns
pub mod Held
