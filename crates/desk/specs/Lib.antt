pub mod Words
pub mod Meanings
pub mod Verdicts
pub mod Printed
pub mod Rounds
