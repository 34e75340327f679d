pub mod Transformations
pub mod KeyExpansion
pub mod Cipher
pub mod Tables
