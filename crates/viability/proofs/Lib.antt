pub mod Totals
pub mod Owned
mod Rounded
mod Others
mod Searched
mod Gathered
mod Taking
mod Laxities
