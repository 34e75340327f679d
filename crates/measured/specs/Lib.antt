pub mod Stores
pub mod Handles
