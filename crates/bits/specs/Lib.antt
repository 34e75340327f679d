pub mod Sets
pub mod Bytes
