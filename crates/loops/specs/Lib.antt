pub mod Below
pub mod First
pub mod Search
pub mod Tabulate
pub mod Turns
