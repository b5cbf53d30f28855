pub mod Divides
pub mod Multiples
pub mod Counted
pub mod Added
pub mod Set
pub mod Equal
