mod Spelled
mod Pairs
mod Rows
