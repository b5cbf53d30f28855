pub mod Searches
pub mod SearchLaws
