pub mod Bytes
pub mod Kinds
pub mod Reads
pub mod Writes
pub mod Laws
