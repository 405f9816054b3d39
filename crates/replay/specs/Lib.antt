pub mod Played
pub mod Next
pub mod Windows
pub mod Laws
