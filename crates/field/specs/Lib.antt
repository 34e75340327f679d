pub mod Field
pub mod Substitution
