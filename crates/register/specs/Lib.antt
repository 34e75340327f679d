pub mod Registers
pub mod Words
pub mod Answers
pub mod cases
pub mod inner
