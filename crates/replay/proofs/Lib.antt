mod Windows
pub mod Ends
