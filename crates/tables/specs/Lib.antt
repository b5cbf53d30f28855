pub mod Tasks
pub mod Divisors
pub mod Hyperperiod
pub mod Adding
pub mod Tables
pub mod Setting
pub mod Equality
pub mod Made
