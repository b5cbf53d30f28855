pub mod Moved
pub mod Lowered
pub mod Rounds
pub mod Searched
