mod Adds
pub mod Codes
pub mod Cuts
mod Numbers
mod Pairs
mod Shapes
mod Sizes
