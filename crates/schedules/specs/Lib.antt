pub mod Units
pub mod Runs
pub mod Schedule
pub mod Views
pub mod Live
pub mod InBackground
