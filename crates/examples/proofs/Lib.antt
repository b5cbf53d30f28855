mod Lists
pub mod Worked
