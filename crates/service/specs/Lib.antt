pub mod Calls
pub mod World
pub mod Promise
pub mod Examples
pub mod Held
pub mod Decided
pub mod Reached
pub use Rattle.wal.specs.Log
