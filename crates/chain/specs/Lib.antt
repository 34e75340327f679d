pub mod Way
pub mod Means
pub mod Bytes
pub mod Literals
