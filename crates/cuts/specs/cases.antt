-- Cuts and replies written out, and what each clause of a statement is needed for.
pub mod Computed
pub mod Replies
pub mod Uses
pub mod Refuted
