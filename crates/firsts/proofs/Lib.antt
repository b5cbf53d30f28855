pub mod Firsts
pub mod Lowests
