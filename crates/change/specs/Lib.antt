pub mod Protocol
pub mod Index
pub mod OneChange
pub mod Promises
pub mod Examples
pub mod Batches
pub mod Heads
pub mod OverKeys
