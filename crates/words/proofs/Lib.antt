mod Pieces
mod Tried
mod Read
