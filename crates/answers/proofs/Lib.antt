pub mod Readings
pub mod Inputs
