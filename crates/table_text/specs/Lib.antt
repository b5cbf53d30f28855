pub mod Fields
pub mod Separators
pub mod Records
pub mod Reading
pub mod Puts
pub mod Written
pub mod Cursors
