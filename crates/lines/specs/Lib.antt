pub mod Verbs
pub mod Stages
pub mod Fields
pub mod Asks
pub mod Lines
