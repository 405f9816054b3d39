pub mod Clocks
pub mod Books
pub mod Sizes
pub mod Views
