pub mod WordLaws
pub mod SpanLaws
pub mod MarkLaws
pub mod NextLaws
