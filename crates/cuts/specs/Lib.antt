pub mod Cuts
pub mod Words
pub mod Entries
pub mod cases
