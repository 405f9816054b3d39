pub mod Protocol
pub mod IndexKind
pub mod Kept
pub mod Steps
pub mod Ends
pub mod Promises
pub mod Witness
pub mod Batches
