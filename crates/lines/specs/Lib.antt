pub mod Text
pub mod Lines
pub mod Buffers
pub mod Examples
