pub mod Parts
pub mod Images
pub mod Verdicts
pub mod inner
pub mod Ranges
pub mod Words
pub mod Literals
