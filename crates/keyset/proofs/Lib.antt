pub mod Words
pub mod Scans
