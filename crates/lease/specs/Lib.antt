pub mod Leases
pub mod Clocks
pub mod Books
pub mod Desks
