pub mod Held
pub mod HeldBytes
