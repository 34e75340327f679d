-- Registers, questions and answers written out, and what each clause of a statement is needed for.
pub mod Literals
pub mod Uses
