pub mod Totals
pub mod Viable
pub mod TaskSets
pub mod OwnList
pub mod Laxity
