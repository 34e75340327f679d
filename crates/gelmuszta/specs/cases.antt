-- What each clause of a statement is needed for.
pub mod CutUses
