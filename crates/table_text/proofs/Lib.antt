pub mod Nexts
pub mod Steps
pub mod Writes
pub mod Texts
pub mod Back
pub mod RoundTrip
